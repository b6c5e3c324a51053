use Rattle.std.proofs.Common.{ℕ, ◌<◌, ◌≤◌, List, length, take, drop, arith, ◌∙◌, ap, length-drop}
use Rattle.host_io.specs.Exposed.{grown_by}
use Rattle.host_io.proofs.Parts.{grown_by-take, rest_from}
use Rattle.host_io.proofs.whole.write_whole.Goals as goal

pub loop-done-preserved : goal.loop-done-preserved
loop-done-preserved g c =
    let call = c.in_ok-done.ensures in
    let so_far = c.loop-done.invariant in
    let bytes = c.args.bytes.now in
    let done = c.loop-done.done in
    let n = c.in_ok-done.field-0 in
    let rest = rest_from bytes done in
    let within : n ≤ length (drop done bytes) = rw (← rest) call.within in
    let some : 0 < n = call.some (omega (arith, ap length rest, length-drop done bytes, c.loop-done-test.true)) in
    record {
      in_range = omega (arith, within, length-drop done bytes);
      taken = call.written ∙ ap (λ (b : List ℕ). grown_by (g.S.Sink.written c.loop-done.sink) (take n b)) rest ∙ rw so_far.taken (grown_by-take (g.S.Sink.written c.args.sink.now) bytes done n);
      counted = call.counts ∙ so_far.counted;
      untouched = λ none. absurd (omega (arith, some, none));
    }
