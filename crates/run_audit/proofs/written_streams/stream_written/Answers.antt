use Rattle.wedge_events.specs.Streams.{stream_opening}
use Rattle.run_audit.specs.StreamsLeft.{stream_over}
use Rattle.run_audit.proofs.StreamsOver.{over_more}
use Rattle.run_audit.proofs.written_streams.stream_written.Goals as goal

pub loop-entry-preserved : goal.loop-entry-preserved
loop-entry-preserved c =
    over_more c.loop-entry.written c.in_ok-written-2.written c.args.entries.now c.loop-entry.entry-index c.entry-item.result (stream_over (stream_opening c.args.image.now c.args.fd) c.args.entries.now)
    c.loop-entry-test.true c.entry-item.is c.in_ok-written-2.ensures c.loop-entry.invariant
