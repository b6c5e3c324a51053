-- The log of a run: the chain of calls of each actor, what the run has made, and its notes, beside
-- the world and turn by turn.
use Rattle.std.specs.Prelude.{ℕ, List, [], ◌∷◌, ◌++◌, slice_get, slice_set, Option, Some, None}
use Rattle.wedge_base.specs.Images.{Image}
use Rattle.wedge_events.specs.declared.events.Event.{Event}
use Rattle.machine.specs.Actors.{ActorState}
use Rattle.machine.specs.Local.{rest}
use Rattle.machine.specs.Take.{takes, actor_begun}
use Rattle.machine.specs.Worlds.{WorldState, initial_state, actor_named, turn_of, ready}
use Rattle.run_notes.specs.Chains.{opening_chain}
use Rattle.run_notes.specs.Doers.{doer_of}
use Rattle.run_notes.specs.Items.{no_makings, makings_after}
use Rattle.run_notes.specs.Notes.{Noted, noted_rest, with_note, event_note}
use Rattle.run_notes.specs.declared.chain.CallChain.{CallChain}
use Rattle.run_log.specs.Logs.{Log}
use Rattle.world_turns.specs.Indices.{index_in}

-- as a run begins: the root has a chain
abbrev pub opening_log : Image → Log
opening_log i = record { chains = opening_chain i.entry ∷ []; makings = no_makings; notes = [] }

-- ---- the actor at an index comes to rest

abbrev pub with_noted : Log → ℕ → Noted → Log
with_noted l k n = record l { chains = slice_set l.chains k n.chain; notes = n.notes }

abbrev pub log_rest_by : Image → Log → ℕ → ActorState → Option CallChain → Log
log_rest_by i l k a None = l
log_rest_by i l k a (Some c) = with_noted l k (noted_rest i l.makings a (record { chain = c; notes = l.notes }))

abbrev pub log_rest : Image → Log → ℕ → ActorState → Log
log_rest i l k a = log_rest_by i l k a (slice_get l.chains k)

-- ---- and its event takes place

-- the actor that an event begins has a chain of its own
abbrev pub with_chain : List CallChain → Option ActorState → List CallChain
with_chain cs None = cs
with_chain cs (Some a) = cs ++ opening_chain a.compartment ∷ []

abbrev pub log_event_by : Image → Log → ActorState → Event → Option CallChain → Log
log_event_by i l a e None = l
log_event_by i l a e (Some c) = record {
  chains = with_chain l.chains (actor_begun i a e);
  makings = makings_after l.makings (doer_of a) (takes i a e).labels e;
  notes = with_note l.notes (event_note i l.makings (doer_of a) c e);
}

abbrev pub log_event : Image → Log → ℕ → ActorState → Event → Log
log_event i l k a e = log_event_by i l a e (slice_get l.chains k)

-- ---- a turn with this event: the actor goes on, comes to rest, and its event takes place

abbrev pub log_of_actor : WorldState → Log → ℕ → ActorState → Event → Log
log_of_actor w l k a e = log_event w.image (log_rest w.image l k a) k (rest w.image a) e

abbrev pub log_turn_at : WorldState → Log → Option ℕ → Option ActorState → Event → Log
log_turn_at w l (Some k) (Some a) e = log_of_actor w l k (ready w.actors a) e
log_turn_at w l None a e = l
log_turn_at w l (Some k) None e = l

unfoldable pub log_turn : WorldState → Log → List ℕ → Event → Log
log_turn w l name e = log_turn_at w l (index_in w.actors name) (actor_named w.actors name) e

-- ---- where an actor has no turn, but waits, or finds a gate busy: it goes on if it can, and comes
-- to rest

abbrev pub log_rested_at : WorldState → Log → Option ℕ → Option ActorState → Log
log_rested_at w l (Some k) (Some a) = log_rest w.image l k (ready w.actors a)
log_rested_at w l None a = l
log_rested_at w l (Some k) None = l

unfoldable pub log_rested : WorldState → Log → List ℕ → Log
log_rested w l name = log_rested_at w l (index_in w.actors name) (actor_named w.actors name)

-- ---- a schedule

-- the log once these actors have taken their turns, up to the first that has none
unfoldable pub log_from : WorldState → Log → List (List ℕ) → Log
log_from w l [] = l
log_from w l (name ∷ names) = elim (turn_of w name) [ None ↦ l | Some t ↦ log_from t.world (log_turn w l name t.event) names ]

abbrev pub log_of : Image → List (List ℕ) → Log
log_of i names = log_from (initial_state i) (opening_log i) names
