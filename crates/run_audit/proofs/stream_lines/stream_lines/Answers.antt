use Rattle.std.proofs.Common.{◌≡◌, ap, ◌∙◌, arith}
use Rattle.machine.specs.Outcomes.{streams_of}
use Rattle.wedge_events.specs.Streams.{stream_opening}
use Rattle.thread_laws.specs.Joining.{streams_left}
use Rattle.run_audit.specs.StreamsLeft.{as_written, stream_over, stream_entries}
use Rattle.run_audit.proofs.StreamsOver.{kept_entries, line_more}
use Rattle.run_audit.proofs.stream_lines.stream_lines.Goals as goal

pub loop-number-preserved : goal.loop-number-preserved
loop-number-preserved c =
    let n = c.loop-number.number in
    let i = c.args.image.now in
    let less = c.loop-number-test.true in
    let entries : c.stream_entries-entries.result.now ≡ stream_entries c.args.cells.now n =
    c.stream_entries-entries.ensures ∙ (ap (λ hs. stream_entries hs n) (c.as_slice.ensures.value ∙ c.in_ok-histories.ensures) ∙ kept_entries c.args.cells.now n) in
    record {
      inside = omega (arith, less);
      lines = line_more i c.args.labels.now c.args.cells.now c.loop-number.lines.items c.add_stream.new.lines.items (streams_of i c.args.labels.now 0 (streams_left i c.args.cells.now)) n c.stream_count-count.result c.in_ok-stream.stream less
          c.stream_count-count.ensures (c.in_ok-stream.ensures ∙ ap (λ es. as_written (stream_over (stream_opening i n) es)) entries) c.in_ok-add_stream.ensures c.loop-number.invariant.lines;
    }
