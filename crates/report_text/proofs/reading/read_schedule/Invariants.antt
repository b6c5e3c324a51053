use Rattle.std.proofs.Common.{◌≡◌, ◌+◌, ◌≤◌, ◌==◌, length}
use Rattle.std.specs.List.{slice_split}
use Rattle.report_text.specs.Schedules.{names_from, names_in}
use Rattle.report_text.proofs.reading.read_schedule.Given as goal

-- The text has the names so far and those of what is left, which is shorter by a byte for each name.
abbrev pub invariant-loop-line : goal.invariant-loop-line
invariant-loop-line l = record {
  names : names_from l.names.items (slice_split (λ b. b == 10) l.rest) ≡ names_in l.bytes;
  count : length l.names.items + length l.rest ≤ length l.bytes;
}

abbrev pub decreases-loop-line : goal.decreases-loop-line
decreases-loop-line l = length l.rest
