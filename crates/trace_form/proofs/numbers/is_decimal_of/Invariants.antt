use Rattle.std.proofs.Common.{◌≡◌}
use Rattle.trace_form.specs.Numbers.{is_decimal_of}
use Rattle.trace_form.proofs.numbers.is_decimal_of.Given as goal

-- The digits that were compared are those of the number.
abbrev pub invariant-loop-left : goal.invariant-loop-left
invariant-loop-left l = is_decimal_of l.number l.text ≡ is_decimal_of l.left l.rest

abbrev pub decreases-loop-left : goal.decreases-loop-left
decreases-loop-left l = l.left
