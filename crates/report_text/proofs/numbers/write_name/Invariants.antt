use Rattle.std.proofs.Common.{◌≡◌, ◌++◌, take}
use Rattle.report_text.specs.Reports.{name_text}
use Rattle.report_text.proofs.numbers.write_name.Given as goal

-- The parts so far were added, with dots.
abbrev pub invariant-loop-i : goal.invariant-loop-i
invariant-loop-i l = l.out.items ≡ l.fn.out.items ++ name_text (take l.i l.parts)
