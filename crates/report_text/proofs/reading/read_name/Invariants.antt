use Rattle.std.proofs.Common.{◌≡◌, ◌==◌, length}
use Rattle.std.specs.List.{slice_split}
use Rattle.report_text.specs.Reports.{dot}
use Rattle.report_text.specs.Schedules.{name_from, name_in}
use Rattle.report_text.proofs.reading.read_name.Given as goal

-- The line is the name that begins with the parts so far and goes on with what is left.
abbrev pub invariant-loop-piece : goal.invariant-loop-piece
invariant-loop-piece l = name_from l.parts.items (slice_split (λ b. b == dot) l.rest) ≡ name_in l.line

abbrev pub decreases-loop-piece : goal.decreases-loop-piece
decreases-loop-piece l = length l.rest
