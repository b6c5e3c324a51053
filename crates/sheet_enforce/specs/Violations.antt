-- The accesses of a trace that sheets do not permit.
use Rattle.std.specs.Prelude.{ℕ, List, [], ◌∷◌, ◌++◌, if◌then◌else◌}
use Rattle.trace_form.specs.Words.{kind_word, mode_word}
use Rattle.trace_form.specs.Grammar.{TraceRecord, space}
use Rattle.cb_analyze.specs.Sheets.{Holding, permits_record}
use Rattle.sheet_enforce.specs.declared.marks.Mark.{Mark}
use Rattle.sheet_enforce.specs.declared.violations.Violation.{Violation}

-- kind, mode and item of a record, as in its line
unfoldable pub access_text : TraceRecord → List ℕ
access_text r = kind_word r.kind ++ space ∷ mode_word r.mode ++ space ∷ r.item

abbrev pub violation_of : Mark → TraceRecord → Violation
violation_of m r = record { turn = m.turn; actor = m.actor; pc = m.pc; text = access_text r }

-- the violation that a record is, if the sheets do not permit it
abbrev pub violations_at : Mark → TraceRecord → List Holding → List Violation
violations_at m r xs = if permits_record xs r then [] else violation_of m r ∷ []

-- those of records, in order; each record has its mark
abbrev pub violations_of : List Mark → List TraceRecord → List Holding → List Violation
violations_of [] rs xs = []
violations_of (m ∷ ms) [] xs = []
violations_of (m ∷ ms) (r ∷ rs) xs = violations_at m r xs ++ violations_of ms rs xs
