use Rattle.std.proofs.Common.{◌≡◌, ◌+◌, length}
use Rattle.trace_form.specs.Records.{records_of}
use Rattle.unit_formats.proofs.sheet_enforce_tests.has_records.Given as goal

-- What is left of the count and of the records differs as these do.
abbrev pub invariant-loop-row : goal.invariant-loop-row
invariant-loop-row l = l.count + length l._row-iterator ≡ length (records_of l.trace) + l.left
