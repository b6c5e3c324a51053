use Rattle.std.proofs.Common.{◌≡◌, Bool, true, false, not, refl, sym}
use Rattle.trace_form.proofs.FirstLines.{first_wrong}
use Rattle.trace_form.proofs.first_fault.first_fault.Goals as goal

other : (b : Bool) → true ≡ not b → b ≡ false
other true h = h
other false h = refl

pub returns-then-ne : goal.returns-then-ne
returns-then-ne c = sym (first_wrong c.args.bytes.now c.in-Some.first.now c.in-Some.lines.now c.in-Some.ensures.parts (other _ c.if-ne.ensures))
