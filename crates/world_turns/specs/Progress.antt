-- What a world keeps: its state, and the turns that led to it.
use Rattle.std.specs.Prelude.{◌≡◌, ℕ, ◌<◌, ◌+◌, Bool, true, false, List, [], ◌∷◌, ◌++◌, length, Option, Some, None, IsSomeAnd, slice_get, slice_set, ◌⊎◌}
use Rattle.wedge_base.specs.Images.{Image}
use Rattle.wedge_events.specs.declared.events.Turn.{Turn}
use Rattle.wedge_base.specs.declared.grants.GateId.{GateId}
use Rattle.machine.specs.Cells.{Cells, kept_in}
use Rattle.machine.specs.Worlds.{WorldState, initial_state, actor_named, put_actor, turn_of, Runs, is_ended, all_at_rest, ready, at_rest}
use Rattle.machine.specs.Actors.{ActorState}
use Rattle.machine.specs.Local.{rest, has_ended}
use Rattle.machine.specs.Children.{child_name}
use Rattle.run_laws.specs.RecycledGates.{IsInside}
use Rattle.machine.specs.Take.{current_want}
use Rattle.cow_pages.specs.PrivateMemory.{PrivateMemory}
use Rattle.wedge_events.specs.declared.cells.GateAsk.TheVariants as gate_ask
use Rattle.wedge_events.specs.declared.events.Want.TheVariants as want
use Rattle.wedge_events.specs.declared.events.Event.{Event}
use Rattle.machine.specs.declared.phase.Phase.TheVariants as phase
use Rattle.wedge_events.specs.Journals.{turns_of, numbered}
use Rattle.wedge_events.specs.declared.events.LogEntry.{LogEntry}

-- a world's state, the turns taken so far, and whether it has stopped because it ran out of memory
pub record Progress : Type 0 where
  pub state : WorldState
  pub turns : List Turn
  pub stopped : Bool

-- The turns are a run from the initial state, and the state of a world that has not stopped is
-- where that run leads, but for local steps of its actors: a turn that is refused may have made
-- those that come before its event.
pub record IsRunSoFar (p : Progress) : Type 0 where
  pub last : WorldState
  pub run : Runs (initial_state p.state.image) p.turns last
  pub current : p.stopped ≡ false → all_at_rest p.state ≡ all_at_rest last

-- these turns lead to a state, but for local steps
pub record LeadsTo (turns : List Turn) (state : WorldState) : Type 0 where
  pub last : WorldState
  pub run : Runs (initial_state state.image) turns last
  pub alike : all_at_rest state ≡ all_at_rest last

-- the parts of a state put together
abbrev pub state_of : Image → Cells → List ActorState → WorldState
state_of i cells actors = record { image = i; cells = cells; actors = actors }

-- a turn of this actor, with this event, leads from one state to another
abbrev pub IsTurn : WorldState → List ℕ → Event → WorldState → Type 0
IsTurn old name e new = turn_of old name ≡ Some (record { event = e; world = new })

-- the actor of a name has ended
abbrev pub HasEnded : List ActorState → List ℕ → Type 0
HasEnded actors name = IsSomeAnd (actor_named actors name) (λ a. has_ended a.phase ≡ true)

-- a world that has just been opened
abbrev pub initial_progress : Image → Progress
initial_progress i = record { state = initial_state i; turns = []; stopped = false }

-- at this index is the first actor of a name
pub record IsFirstNamed (actors : List ActorState) (name : List ℕ) (index : ℕ) (a : ActorState) : Type 0 where
  pub inside : index < length actors
  pub there : slice_get actors index ≡ Some a
  pub named : actor_named actors name ≡ Some a
  pub put : (new : ActorState) → new.name ≡ name → put_actor actors new ≡ slice_set actors index new

abbrev pub IsIndexOf : List ActorState → List ℕ → ℕ → Type 0
IsIndexOf actors name index = (a : ActorState) × IsFirstNamed actors name index a

-- ---- the entries of a world

-- stamps are the indices of the entries, from 1
abbrev pub IsStampedByIndex : List LogEntry → Type 0
IsStampedByIndex entries = entries ≡ numbered 1 (turns_of entries)

-- an entry is added, for a turn of this actor with this event
abbrev pub Notes : List LogEntry → List ℕ → Event → List LogEntry → Type 0
Notes old name e new = new ≡ old ++ record { stamp = length old + 1; actor = name; event = e } ∷ []

-- ---- an actor that waits

-- an actor at rest wants to join the child of a number, or waits for the run of one
abbrev pub Awaits : ActorState → ℕ → Type 0
Awaits a k = (current_want a ≡ Some (want.Join k)) ⊎ (a.phase ≡ phase.Waiting k)

-- the actor of a name awaits a child or a run that has not ended
pub record IsWaiting (w : WorldState) (name : List ℕ) : Type 0 where
  pub actor : ActorState
  pub number : ℕ
  pub named : actor_named w.actors name ≡ Some actor
  pub awaits : Awaits (at_rest w actor) number
  pub not_ended : is_ended (actor_named w.actors (child_name name number)) ≡ false

-- the actor of a name, at rest, is to enter a recycled gate in which a run is
pub record IsBusy (w : WorldState) (name : List ℕ) : Type 0 where
  pub actor : ActorState
  pub gate : GateId
  pub run : List ℕ
  pub first : PrivateMemory
  pub named : actor_named w.actors name ≡ Some actor
  pub wants : current_want (at_rest w actor) ≡ Some (want.Gate gate (gate_ask.Enter run first))
  pub entered : (kept_in w.cells gate).entered ≡ true

-- the actor of a name has gone on if it could, and is at rest, and all else is as before
abbrev pub rested_in : Image → List ActorState → Option ActorState → List ActorState
rested_in i actors None = actors
rested_in i actors (Some a) = put_actor actors (rest i (ready actors a))

abbrev pub rested : WorldState → List ℕ → WorldState
rested w name = record w { actors = rested_in w.image w.actors (actor_named w.actors name) }

-- a turn of the actor of a name was taken, and stands last among the turns
pub record TookTurnOf (old : Progress) (name : List ℕ) (new : Progress) : Type 0 where
  pub event : Event
  pub turn : IsTurn old.state name event new.state
  pub noted : new.turns ≡ old.turns ++ record { actor = name; event = event } ∷ []

-- ---- actors that are in recycled gates

-- where an actor is in a recycled gate, the gate's cell says that a run is
abbrev pub IsRecorded : Cells → ActorState → Type 0
IsRecorded c a = (id : GateId) → IsInside id a → (kept_in c id).entered ≡ true

abbrev pub AreRecorded : Cells → List ActorState → Type 0
AreRecorded c actors = (name : List ℕ) (a : ActorState) → actor_named actors name ≡ Some a → IsRecorded c a
