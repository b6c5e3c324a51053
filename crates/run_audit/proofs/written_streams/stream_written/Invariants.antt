use Rattle.std.proofs.Common.{◌≡◌, drop}
use Rattle.wedge_events.specs.Streams.{stream_opening}
use Rattle.run_audit.specs.StreamsLeft.{as_written, stream_over}
use Rattle.run_audit.proofs.written_streams.stream_written.Given as goal

abbrev pub invariant-loop-entry : goal.invariant-loop-entry
invariant-loop-entry l = as_written (stream_over l.written (drop l.entry-index l.entries)) ≡ as_written (stream_over (stream_opening l.image l.fd) l.entries)
