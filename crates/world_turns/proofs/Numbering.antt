-- Entries by their places.
use Rattle.std.proofs.Common.{◌≡◌, ℕ, ◌+◌, List, [], ◌∷◌, ◌++◌, length, refl, sym, ap, subst, ◌∙◌, true, arith}
use Rattle.wedge_events.specs.Journals.{turns_of, numbered}
use Rattle.wedge_events.specs.declared.events.Turn.{Turn}
use Rattle.wedge_events.specs.declared.events.LogEntry.{LogEntry}
use Rattle.wedge_base.specs.declared.outcome.Outcome.{Outcome}
use Rattle.wedge_base.specs.Images.{Image}
use Rattle.machine.specs.Worlds.{WorldState, initial_state, is_complete, Runs}
use Rattle.machine.specs.Outcomes.{outcome_of}
use Rattle.wedge_events.specs.declared.events.Event.{Event}
use Rattle.std.proofs.lemmas.List.{map-append, length-map}
use Rattle.run_laws.proofs.Settling.{whole_alike, outcome_alike}
use Rattle.world_turns.specs.Progress.{LeadsTo}
use Rattle.world_turns.specs.Progress.{IsStampedByIndex, Notes}
use Rattle.run_laws.specs.CompleteRuns.{RootGoesOn, IsJournaledRun}
use Rattle.world_turns.proofs.Replays.{complete_of}

abbrev pub entry : ℕ → Turn → LogEntry
entry stamp t = record { stamp = stamp; actor = t.actor; event = t.event }

pub numbered-push : (stamp : ℕ) (ts : List Turn) (t : Turn) → numbered stamp (ts ++ t ∷ []) ≡ numbered stamp ts ++ entry (stamp + length ts) t ∷ []
numbered-push stamp [] t = ap (λ n. entry n t ∷ []) (omega arith)
numbered-push stamp (u ∷ us) t = ap (λ es. entry stamp u ∷ es) (numbered-push (stamp + 1) us t ∙ ap (λ n. numbered (stamp + 1) us ++ entry n t ∷ []) (omega arith))

-- the turns that numbered entries tell are those that were numbered
pub turns_of-numbered : (stamp : ℕ) (ts : List Turn) → turns_of (numbered stamp ts) ≡ ts
turns_of-numbered stamp [] = refl
turns_of-numbered stamp (t ∷ ts) = ap (λ us. t ∷ us) (turns_of-numbered (stamp + 1) ts)

pub is_numbered : (ts : List Turn) (entries : List LogEntry) → entries ≡ numbered 1 ts → IsStampedByIndex entries
is_numbered ts entries is = is ∙ ap (numbered 1) (sym (ap turns_of is ∙ turns_of-numbered 1 ts))

-- an entry that is added tells its turn, and is numbered by its index
pub notes_turns : (old new : List LogEntry) (name : List ℕ) (e : Event) → Notes old name e new → turns_of new ≡ turns_of old ++ record { actor = name; event = e } ∷ []
notes_turns old new name e noted =
    ap turns_of noted ∙ map-append (λ (x : LogEntry). record { actor = x.actor; event = x.event }) old (entry (length old + 1) (record { actor = name; event = e }) ∷ [])

pub notes_numbered : (old new : List LogEntry) (name : List ℕ) (e : Event) → Notes old name e new → IsStampedByIndex old → IsStampedByIndex new
notes_numbered old new name e noted numbered_old =
    let t : Turn = record { actor = name; event = e } in
    let len : length (turns_of old) ≡ length old = length-map old (λ (x : LogEntry). record { actor = x.actor; event = x.event }) in
    let index : length old + 1 ≡ 1 + length (turns_of old) = omega (arith, len) in
    noted ∙ ap (λ (es : List LogEntry). es ++ entry (length old + 1) t ∷ []) numbered_old
    ∙ ap (λ n. numbered 1 (turns_of old) ++ entry n t ∷ []) index
    ∙ sym (numbered-push 1 (turns_of old) t) ∙ ap (numbered 1) (sym (notes_turns old new name e noted))

-- entries whose turns lead to a state in which the root has ended are those of a complete run
pub journaled_run : (i : Image) (w : WorldState) (entries : List LogEntry) (outcome : Outcome) → w.image ≡ i → LeadsTo (turns_of entries) w → is_complete w ≡ true
    → RootGoesOn (initial_state i) (turns_of entries) → outcome ≡ outcome_of w → IsJournaledRun i entries outcome
journaled_run i w entries outcome image leads whole goes_on ends =
    let run : Runs (initial_state i) (turns_of entries) leads.last = subst (λ (j : Image). Runs (initial_state j) (turns_of entries) leads.last) image leads.run in
    let ended = sym (whole_alike w leads.last leads.alike) ∙ whole in
    record {
      last = leads.last;
      run = complete_of i (turns_of entries) leads.last run ended goes_on;
      ends = ends ∙ outcome_alike w leads.last leads.alike;
    }
