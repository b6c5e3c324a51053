-- The notes of a turn do not depend on those before.
use Rattle.std.proofs.Common.{◌≡◌, ℕ, zero, suc, ◌+◌, Bool, true, false, List, [], ◌∷◌, ◌++◌, length, refl, sym, ap, ◌∙◌, append_assoc, append-nil}
use Rattle.std.specs.Prelude.{Option, Some, None, slice_get}
use Rattle.wedge_base.specs.Images.{Image}
use Rattle.wedge_events.specs.declared.events.Event.{Event}
use Rattle.rv_isa.specs.declared.Instr.{Instr}
use Rattle.machine.specs.Actors.{ActorState}
use Rattle.machine.specs.Local.{step, rest, is_running}
use Rattle.machine.specs.Worlds.{WorldState, actor_named, ready}
use Rattle.run_notes.specs.Doers.{doer_of}
use Rattle.run_notes.specs.Notes.{Noted, with_note, noted_instr, instr_at, noted_step, noted_local, noted_rest, event_note}
use Rattle.run_notes.specs.declared.chain.CallChain.{CallChain}
use Rattle.run_notes.specs.declared.items.Makings.{Makings}
use Rattle.run_notes.specs.declared.note.Note.{Note}
use Rattle.run_log.specs.Logs.{Log, behind}
use Rattle.run_log.specs.Logging.{with_noted, log_rest_by, log_rest, log_event_by, log_event, log_of_actor, log_turn_at, log_turn, log_rested_at, log_rested}
use Rattle.run_log.specs.LoggedParts.{IsLoggedTurn}
use Rattle.world_turns.specs.Indices.{index_in}
use Rattle.world_turns.specs.Progress.{Progress}

note_behind : (ns notes : List Note) (o : Option Note) → with_note (ns ++ notes) o ≡ ns ++ with_note notes o
note_behind ns notes None = refl
note_behind ns notes (Some n) = append_assoc ns notes (n ∷ [])

-- what is kept of an actor's instructions, with notes before its own
abbrev noted_behind : List Note → Noted → Noted
noted_behind ns l = record l { notes = ns ++ l.notes }

step_behind : (i : Image) (m : Makings) (a : ActorState) (ns : List Note) (l : Noted) → noted_step i m a (noted_behind ns l) ≡ noted_behind ns (noted_step i m a l)
step_behind i m a ns l = by_instr (instr_at i a)
  where
    by_instr : (o : Option Instr) → noted_instr i m a (noted_behind ns l) o ≡ noted_behind ns (noted_instr i m a l o)
    by_instr None = refl
    by_instr (Some ins) = ap (λ notes. record (noted_instr i m a l (Some ins)) { notes = notes }) (note_behind ns l.notes _)

local_behind : (i : Image) (m : Makings) (n : ℕ) (a : ActorState) (ns : List Note) (l : Noted) → noted_local i m n a (noted_behind ns l) ≡ noted_behind ns (noted_local i m n a l)
unfolding noted_local
local_behind i m zero a ns l = refl
local_behind i m (suc n) a ns l = by_running (is_running a.phase) (local_behind i m n (step i a) ns (noted_step i m a l))
  where
    by_running : (t : Bool) → noted_local i m n (step i a) (noted_behind ns (noted_step i m a l)) ≡ noted_behind ns (noted_local i m n (step i a) (noted_step i m a l)) → elim t [ true ↦ noted_local i m n (step i a) (noted_step i m a (noted_behind ns l)) | false ↦ noted_behind ns l ]
        ≡ noted_behind ns (elim t [ true ↦ noted_local i m n (step i a) (noted_step i m a l) | false ↦ l ])
    by_running true more = ap (noted_local i m n (step i a)) (step_behind i m a ns l) ∙ more
    by_running false more = refl

rest_behind : (i : Image) (ns : List Note) (l : Log) (k : ℕ) (a : ActorState) → log_rest i (behind ns l) k a ≡ behind ns (log_rest i l k a)
unfolding noted_rest
rest_behind i ns l k a = by_chain (slice_get l.chains k)
  where
    by_chain : (o : Option CallChain) → log_rest_by i (behind ns l) k a o ≡ behind ns (log_rest_by i l k a o)
    by_chain None = refl
    by_chain (Some c) = ap (with_noted l k) (local_behind i l.makings (a.fuel + 1) a ns (record { chain = c; notes = l.notes }))

event_behind : (i : Image) (ns : List Note) (l : Log) (k : ℕ) (a : ActorState) (e : Event) → log_event i (behind ns l) k a e ≡ behind ns (log_event i l k a e)
event_behind i ns l k a e = by_chain (slice_get l.chains k)
  where
    by_chain : (o : Option CallChain) → log_event_by i (behind ns l) a e o ≡ behind ns (log_event_by i l a e o)
    by_chain None = refl
    by_chain (Some c) = ap (λ notes. record (log_event_by i l a e (Some c)) { notes = notes }) (note_behind ns l.notes (event_note i l.makings (doer_of a) c e))

actor_behind : (w : WorldState) (ns : List Note) (l : Log) (k : ℕ) (a : ActorState) (e : Event) → log_of_actor w (behind ns l) k a e ≡ behind ns (log_of_actor w l k a e)
actor_behind w ns l k a e = ap (λ m. log_event w.image m k (rest w.image a) e) (rest_behind w.image ns l k a) ∙ event_behind w.image ns (log_rest w.image l k a) k (rest w.image a) e

pub turn_behind : (w : WorldState) (ns : List Note) (l : Log) (name : List ℕ) (e : Event) → log_turn w (behind ns l) name e ≡ behind ns (log_turn w l name e)
unfolding log_turn
turn_behind w ns l name e = by_actor (index_in w.actors name) (actor_named w.actors name)
  where
    by_actor : (k : Option ℕ) (o : Option ActorState) → log_turn_at w (behind ns l) k o e ≡ behind ns (log_turn_at w l k o e)
    by_actor None o = refl
    by_actor (Some k) None = refl
    by_actor (Some k) (Some a) = actor_behind w ns l k (ready w.actors a) e

pub rested_behind : (w : WorldState) (ns : List Note) (l : Log) (name : List ℕ) → log_rested w (behind ns l) name ≡ behind ns (log_rested w l name)
unfolding log_rested
rested_behind w ns l name = by_actor (index_in w.actors name) (actor_named w.actors name)
  where
    by_actor : (k : Option ℕ) (o : Option ActorState) → log_rested_at w (behind ns l) k o ≡ behind ns (log_rested_at w l k o)
    by_actor None o = refl
    by_actor (Some k) None = refl
    by_actor (Some k) (Some a) = rest_behind w.image ns l k (ready w.actors a)

-- a log is the one without its notes, with them before
pub all_behind : (l : Log) → behind l.notes (record l { notes = [] }) ≡ l
all_behind l = ap (λ notes. record l { notes = notes }) (append-nil l.notes)

-- a turn whose notes are collected apart, and then added behind those before
pub rested_added : (w : WorldState) (name : List ℕ) (l apart m k : Log) (before : List Note) → before ≡ l.notes → apart ≡ record l { notes = [] } → m ≡ log_rested w apart name → k ≡ behind before m → k ≡ log_rested w l name
rested_added w name l apart m k before is alone rests added =
    added ∙ (ap (λ ns. behind ns m) is ∙ (ap (behind l.notes) (rests ∙ ap (λ x. log_rested w x name) alone)
    ∙ (sym (rested_behind w l.notes (record l { notes = [] }) name) ∙ ap (λ x. log_rested w x name) (all_behind l))))

pub turn_added : (p q : Progress) (name : List ℕ) (e : Event) (l apart m k : Log) (before : List Note) → before ≡ l.notes → apart ≡ record l { notes = [] } → IsLoggedTurn p apart name e q m → k ≡ behind before m
    → IsLoggedTurn p l name e q k
turn_added p q name e l apart m k before is alone t added = record {
  turn = t.turn;
  noted = t.noted;
  going = t.going;
  logged = added ∙ (ap (λ ns. behind ns m) is ∙ (ap (behind l.notes) (t.logged ∙ ap (λ x. log_turn p.state x name e) alone)
      ∙ (sym (turn_behind p.state l.notes (record l { notes = [] }) name e) ∙ ap (λ x. log_turn p.state x name e) (all_behind l))));
  in_step = ap (λ (x : Log). length x.chains) added ∙ t.in_step;
}
