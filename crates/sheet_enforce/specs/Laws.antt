-- What holds of violations.
use Rattle.std.specs.Prelude.{◌≡◌, ◌↔◌, ℕ, List, [], length, None}
use Rattle.std.specs.List.{AllByRecursion}
use Rattle.trace_form.specs.Grammar.{TraceRecord}
use Rattle.trace_form.specs.FirstFault.{first_fault}
use Rattle.trace_form.specs.Records.{records_of}
use Rattle.cb_analyze.specs.Sheets.{Holding, IsPermitted, sheets_of}
use Rattle.sheet_enforce.specs.declared.marks.Mark.{Mark}
use Rattle.sheet_enforce.specs.Violations.{violations_of}

-- the sheets that are derived from a trace have no violation in it
abbrev pub OwnSheetsPermit : Type 0
OwnSheetsPermit =
    (trace : List ℕ) (ms : List Mark) → first_fault trace ≡ None
    → violations_of ms (records_of trace) (sheets_of (records_of trace)) ≡ []

-- there is none exactly where each record is permitted by the sheet of its compartment
abbrev pub NoViolationIsPermitted : Type 0
NoViolationIsPermitted =
    (ms : List Mark) (rs : List TraceRecord) (xs : List Holding) → length ms ≡ length rs
    → (violations_of ms rs xs ≡ []) ↔ AllByRecursion (IsPermitted xs) rs
