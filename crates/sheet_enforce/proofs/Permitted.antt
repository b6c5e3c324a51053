-- There is no violation exactly where each record is permitted.
use Rattle.std.proofs.Common.{◌≡◌, Bool, true, false, cond, List, [], ◌∷◌, ◌++◌, length, refl, ap, ◌∙◌, arith}
use Rattle.std.specs.List.{AllByRecursion}
use Rattle.trace_form.specs.Grammar.{TraceRecord}
use Rattle.trace_form.specs.Records.{records_of}
use Rattle.trace_form.proofs.Sound.{trace_is_text}
use Rattle.cb_analyze.specs.Sheets.{Holding, permits_record, IsPermitted, sheets_of}
use Rattle.cb_analyze.proofs.Permitted.{sheets_permit}
use Rattle.sheet_enforce.specs.declared.marks.Mark.{Mark}
use Rattle.sheet_enforce.specs.Violations.{violation_of, violations_of}
use Rattle.sheet_enforce.specs.Laws.{OwnSheetsPermit, NoViolationIsPermitted}

-- where each record is permitted there is no violation
none_of : (ms : List Mark) (rs : List TraceRecord) (xs : List Holding) → AllByRecursion (IsPermitted xs) rs → violations_of ms rs xs ≡ []
none_of [] rs xs all = refl
none_of (m ∷ ms) [] xs all = refl
none_of (m ∷ ms) (r ∷ rs) xs all =
    ap (λ b. cond b [] (violation_of m r ∷ []) ++ violations_of ms rs xs) all.0.permits ∙ none_of ms rs xs all.1

-- where there is none each is permitted
all_of : (ms : List Mark) (rs : List TraceRecord) (xs : List Holding) → length ms ≡ length rs → violations_of ms rs xs ≡ [] → AllByRecursion (IsPermitted xs) rs
all_of [] [] xs same none = tt
all_of [] (r ∷ rs) xs same none = absurd (omega arith)
all_of (m ∷ ms) [] xs same none = absurd (omega arith)
all_of (m ∷ ms) (r ∷ rs) xs same none = by_test (permits_record xs r) refl none (all_of ms rs xs (omega arith))
  where
    by_test : (b : Bool) → permits_record xs r ≡ b → cond b [] (violation_of m r ∷ []) ++ violations_of ms rs xs ≡ [] → (violations_of ms rs xs ≡ [] → AllByRecursion (IsPermitted xs) rs) → AllByRecursion (IsPermitted xs) (r ∷ rs)
    by_test true e is later = (record { permits = e }, later is)
    by_test false e is later = absurd cc

pub no_violation_is_permitted : NoViolationIsPermitted
no_violation_is_permitted ms rs xs same = (all_of ms rs xs same, none_of ms rs xs)

pub own_sheets_permit : OwnSheetsPermit
own_sheets_permit trace ms valid =
    let rs = records_of trace in
    none_of ms rs (sheets_of rs) (sheets_permit rs (trace_is_text trace valid).records)
