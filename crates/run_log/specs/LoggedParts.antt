-- What the parts of a logged turn make of a world and its log.
use Rattle.std.specs.Prelude.{◌≡◌, ℕ, false, List, [], ◌∷◌, ◌++◌, length, slice_get, slice_set, Option, Some, None}
use Rattle.wedge_base.specs.Images.{Image}
use Rattle.wedge_events.specs.declared.events.Event.{Event}
use Rattle.wedge_events.specs.declared.events.Turn.{Turn}
use Rattle.machine.specs.Actors.{ActorState}
use Rattle.machine.specs.Local.{rest, run_awaited}
use Rattle.machine.specs.Worlds.{WorldState, actor_named, ready, at_rest}
use Rattle.machine.specs.declared.opening.StreamLabel.{StreamLabel}
use Rattle.run_notes.specs.Items.{makings_after}
use Rattle.run_notes.specs.Notes.{with_note, event_note}
use Rattle.run_notes.specs.Procedures.{AreProceduresOf}
use Rattle.run_notes.specs.declared.chain.CallChain.{CallChain}
use Rattle.run_notes.specs.declared.doer.Doer.{Doer}
use Rattle.run_log.specs.Logs.{Log}
use Rattle.run_log.specs.Logging.{log_rest, log_event, log_turn, with_chain}
use Rattle.run_log.specs.declared.log.RunLog.{RunLog}
use Rattle.world_turns.specs.Progress.{Progress, IsTurn, IsFirstNamed, rested}

-- each actor has a chain
abbrev pub IsInStep : Progress → Log → Type 0
IsInStep p l = length l.chains ≡ length p.state.actors

-- what is kept beside a world: a chain for each actor, and the procedures of its image
pub record IsLogOf (p : Progress) (l : RunLog) : Type 0 where
  pub in_step : IsInStep p l.log
  pub procedures : AreProceduresOf p.state.image l.procedures

-- the turn of an actor is taken, and noted in the journal and in the log
pub record IsLoggedTurn (old : Progress) (l : Log) (name : List ℕ) (event : Event) (new : Progress) (m : Log) : Type 0 where
  pub turn : IsTurn old.state name event new.state
  pub noted : new.turns ≡ old.turns ++ record { actor = name; event = event } ∷ []
  pub going : new.stopped ≡ false
  pub logged : m ≡ log_turn old.state l name event
  pub in_step : IsInStep new m

abbrev pub TookLogged : Progress → Log → List ℕ → Progress → Log → Type 0
TookLogged old l name new m = (event : Event) × IsLoggedTurn old l name event new m

-- the last of a world's turns has this event
abbrev pub IsLastEvent : Progress → Event → Type 0
IsLastEvent p e = (before : List Turn) (t : Turn) → p.turns ≡ before ++ t ∷ [] → e ≡ t.event

-- and without it there are these
abbrev pub IsTakenBack : Progress → Progress → Type 0
IsTakenBack old new = (before : List Turn) (t : Turn) → old.turns ≡ before ++ t ∷ [] → new.turns ≡ before

-- ---- an actor comes to rest

-- the actor at an index has come to rest, noted
pub record IsNotedAt (i : Image) (old : List ActorState) (l : Log) (index : ℕ) (new : List ActorState) (m : Log) : Type 0 where
  pub actor : ActorState
  pub there : slice_get old index ≡ Some actor
  pub new_is : new ≡ slice_set old index (rest i actor)
  pub logged : m ≡ log_rest i l index actor

-- it has gone on if it could, waits for no run, and has come to rest, noted
pub record IsNotedFrom (i : Image) (old : List ActorState) (name : List ℕ) (index : ℕ) (l : Log) (new : List ActorState) (m : Log) : Type 0 where
  pub actor : ActorState
  pub found : IsFirstNamed old name index actor
  pub awake : run_awaited (ready old actor).phase ≡ None
  pub new_is : new ≡ slice_set old index (rest i (ready old actor))
  pub logged : m ≡ log_rest i l index (ready old actor)

pub record ComesToRest (p : Progress) (name : List ℕ) (index : ℕ) (l : Log) (q : Progress) (m : Log) : Type 0 where
  pub actor : ActorState
  pub found : IsFirstNamed p.state.actors name index actor
  pub awake : run_awaited (ready p.state.actors actor).phase ≡ None
  pub new_is : q ≡ record p { state = rested p.state name }
  pub logged : m ≡ log_rest p.state.image l index (ready p.state.actors actor)

-- the actor of a name is at rest
abbrev pub RestsAlready : WorldState → List ℕ → Type 0
RestsAlready w name = (a : ActorState) → actor_named w.actors name ≡ Some a → at_rest w a ≡ a

-- ---- and its event takes place

-- the turn of the actor at an index, which is at rest, is taken, and its event logged
pub record IsEventLogged (old : Progress) (l : Log) (name : List ℕ) (index : ℕ) (new : Progress) (m : Log) : Type 0 where
  pub event : Event
  pub turn : IsTurn old.state name event new.state
  pub noted : new.turns ≡ old.turns ++ record { actor = name; event = event } ∷ []
  pub actor : ActorState
  pub found : IsFirstNamed old.state.actors name index actor
  pub logged : m ≡ log_event old.state.image l index actor event
  pub in_step : IsInStep new m

-- an event of the actor that this was, which now keeps these paths, is logged; what it began stands
-- last among the actors
abbrev pub log_noted : Image → Event → Option ActorState → Doer → List StreamLabel → CallChain → Log → Log
log_noted i e begun d labels c l = record {
  chains = with_chain l.chains begun;
  makings = makings_after l.makings d labels e;
  notes = with_note l.notes (event_note i l.makings d c e);
}

-- an event is logged of the actor at an index, where these are the actors after it
pub record IsEventNoted (i : Image) (e : Event) (actors : List ActorState) (index : ℕ) (d : Doer) (l m : Log) : Type 0 where
  pub chain : CallChain
  pub at : slice_get l.chains index ≡ Some chain
  pub actor : ActorState
  pub there : slice_get actors index ≡ Some actor
  pub logged : m ≡ log_noted i e (slice_get actors (length l.chains)) d actor.labels chain l
