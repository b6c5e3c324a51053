-- What is kept while a gate is free is what the last run left.
use Rattle.std.proofs.Common.{◌≡◌, ℕ, true, false, true≢false, List, [], ◌∷◌, ◌++◌, Option, Some, None, unwrap_or, refl, ap}
use Rattle.wedge_events.specs.Gates.{Kept, gate_opening}
use Rattle.cow_pages.specs.PrivateMemory.{PrivateMemory}
use Rattle.wedge_events.specs.declared.cells.GateAsk.{GateAsk}
use Rattle.wedge_events.specs.declared.cells.GateAsk.TheVariants as ask
use Rattle.wedge_events.specs.declared.cells.GateReply.TheVariants as reply
use Rattle.recycled_gate.specs.Laws.{gate_after_asks, AllFit, left_last, BeginsWithWhatWasLeft}

-- while the gate is free it keeps what the last run left
abbrev Keeps : Kept → Option PrivateMemory → Type 0
Keeps k left = k.entered ≡ false → k.kept ≡ left

kept_last : (k : Kept) (before : Option PrivateMemory) (qs : List GateAsk) (run : List ℕ) (memory : PrivateMemory) → Keeps k before
    → AllFit k (qs ++ ask.Enter run memory ∷ []) → (gate_after_asks k qs).kept ≡ left_last before qs
kept_last k before [] run memory keeps fit = keeps fit.0
kept_last k before (ask.Enter r p ∷ qs) run memory keeps fit =
    kept_last (record { entered = true; kept = None }) before qs run memory (λ e. absurd (true≢false e)) fit.1
kept_last k before (ask.Leave e p ∷ qs) run memory keeps fit =
    kept_last (record { entered = false; kept = Some p }) (Some p) qs run memory (λ e. refl) fit.1

pub begins_with_what_was_left : BeginsWithWhatWasLeft
begins_with_what_was_left qs run memory fit =
    ap (λ o. reply.Entered (unwrap_or o memory)) (kept_last gate_opening None qs run memory (λ e. refl) fit)
