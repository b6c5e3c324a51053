use Rattle.std.proofs.Common.{◌≡◌, ◌+◌, ◌++◌, drop, length}
use Rattle.trace_form.specs.Records.{records_of}
use Rattle.sheet_enforce.specs.Violations.{violations_of}
use Rattle.sheet_enforce.proofs.violations.check.Given as goal

-- As many marks are left as records. The violations so far, with those of what is left, are all.
abbrev pub invariant-loop-row : goal.invariant-loop-row
invariant-loop-row l = record {
  left : l.number + length l.row-iterator ≡ length l.marks;
  so_far : l.violations.items ++ violations_of (drop l.number l.marks) l.row-iterator l.sheets
      ≡ violations_of l.marks (records_of l.trace) l.sheets;
}
