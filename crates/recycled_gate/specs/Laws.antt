-- What holds of every list of asks to a recycled gate.
use Rattle.std.specs.Prelude.{◌≡◌, ℕ, List, [], ◌∷◌, ◌++◌, Option, Some, None, unwrap_or}
use Rattle.wedge_events.specs.Gates.{Kept, gate_opening, gate_reply, gate_next, GateFits}
use Rattle.cow_pages.specs.PrivateMemory.{PrivateMemory}
use Rattle.wedge_events.specs.declared.cells.GateAsk.{GateAsk}
use Rattle.wedge_events.specs.declared.cells.GateAsk.TheVariants as ask
use Rattle.wedge_events.specs.declared.cells.GateReply.TheVariants as reply

-- the gate after asks, one after another
abbrev pub gate_after_asks : Kept → List GateAsk → Kept
gate_after_asks k [] = k
gate_after_asks k (q ∷ qs) = gate_after_asks (gate_next k q) qs

-- each ask fits as it comes
abbrev pub AllFit : Kept → List GateAsk → Type 0
AllFit k [] = Unit {0}
AllFit k (q ∷ qs) = GateFits k q × AllFit (gate_next k q) qs

-- what the last leave of a list left, or what was there before
abbrev pub left_last : Option PrivateMemory → List GateAsk → Option PrivateMemory
left_last before [] = before
left_last before (ask.Enter run memory ∷ qs) = left_last before qs
left_last before (ask.Leave end memory ∷ qs) = left_last (Some memory) qs

-- after any asks that fit, an enter that fits gives the run what the last leave left, or the memory
-- that it brings where none has left
abbrev pub BeginsWithWhatWasLeft : Type 0
BeginsWithWhatWasLeft = (qs : List GateAsk) (run : List ℕ) (memory : PrivateMemory)
    → AllFit gate_opening (qs ++ ask.Enter run memory ∷ [])
    → gate_reply (gate_after_asks gate_opening qs) (ask.Enter run memory)
    ≡ reply.Entered (unwrap_or (left_last None qs) memory)
