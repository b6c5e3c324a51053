-- What the parts of a turn make of cells, actors and entries.
use Rattle.std.specs.Prelude.{◌≡◌, ℕ, ◌<◌, true, List, length, slice_get, slice_set, Option, Some, None, false}
use Rattle.wedge_base.specs.Images.{Image}
use Rattle.cow_pages.specs.PrivateMemory.{PrivateMemory}
use Rattle.wedge_base.specs.declared.grants.GateId.{GateId}
use Rattle.wedge_events.specs.declared.cells.GateAsk.TheVariants as gate_ask
use Rattle.wedge_events.specs.declared.events.Want.{Want}
use Rattle.wedge_events.specs.declared.events.Want.TheVariants as want
use Rattle.wedge_events.specs.declared.events.Event.{Event}
use Rattle.wedge_events.specs.declared.events.Event.TheVariants as event
use Rattle.wedge_events.specs.declared.events.LogEntry.{LogEntry}
use Rattle.machine.specs.Actors.{ActorState}
use Rattle.machine.specs.Between.{WantFits, TakesFit, IsInBounds}
use Rattle.machine.specs.Cells.{Cells, live_at, event_of, cells_after, kept_in}
use Rattle.machine.specs.Children.{is_child, child_name}
use Rattle.run_laws.specs.FamilyTrees.{Family}
use Rattle.machine.specs.Local.{rest, run_awaited, has_ended}
use Rattle.machine.specs.Take.{current_want, asks, takes, actor_begun}
use Rattle.machine.specs.Worlds.{with_begun, event_at, actor_named, ready, is_ended}
use Rattle.world_turns.specs.Progress.{IsTurn, IsWaiting, IsBusy, IsRecorded, state_of, rested, IsFirstNamed}
use Rattle.world_turns.specs.Progress.{Notes}
use Rattle.machine.specs.declared.phase.Phase.TheVariants as phase

-- the event that comes of what an actor wants of a cell
abbrev pub event_asked : Cells → ActorState → Want → Option Event
event_asked c a q = event_of c (asks a (live_at c q) q)

-- an event that changes its actor and one cell, and begins no actor
abbrev pub IsOfCell : Want → Type 0
IsOfCell (want.Start child) = ⊥
IsOfCell (want.Join child) = ⊥
IsOfCell (want.Enter run) = ⊥
IsOfCell (want.Leave e) = ⊥
IsOfCell (want.Gate id q) = ⊥
IsOfCell q = Unit {0}

-- an event of a slot, within bounds
abbrev pub IsOfSlot : Event → Type 0
IsOfSlot (event.Slot slot ask reply) = IsInBounds (event.Slot slot ask reply)
IsOfSlot e = ⊥

-- the event that an actor at rest wants of a cell is done and noted
pub record IsEventDone (i : Image) (cells : Cells) (a : ActorState) (q : Want) (entries : List LogEntry) (name : List ℕ) (new_cells : Cells) (new : ActorState) (new_entries : List LogEntry) : Type 0 where
  pub event : Event
  pub comes : event_asked cells a q ≡ Some event
  pub cells_are : new_cells ≡ cells_after cells event
  pub takes_it : new ≡ takes i a event
  pub name_stays : new.name ≡ a.name
  pub noted : Notes entries name event new_entries

-- what other actors have part in: a start, a join, and the entry and the leave of a gate
abbrev pub IsOfFamily : Want → Type 0
IsOfFamily (want.Start child) = Unit {0}
IsOfFamily (want.Join child) = Unit {0}
IsOfFamily (want.Enter run) = Unit {0}
IsOfFamily (want.Leave e) = Unit {0}
IsOfFamily (want.Gate id q) = Unit {0}
IsOfFamily q = ⊥

-- an actor has come to rest, and wants what other actors have part in
pub record IsLeft (i : Image) (old : ActorState) (q : Want) (new : ActorState) : Type 0 where
  pub rests : new ≡ rest i old
  pub wants : current_want (rest i old) ≡ Some q
  pub fits : WantFits (rest i old) q
  pub of_family : IsOfFamily q

-- ---- of the actor at an index

-- it was waiting for no run, or for one that has ended, and has gone on
pub record HasGoneOn (actors : List ActorState) (index : ℕ) (name : List ℕ) (new : List ActorState) : Type 0 where
  pub actor : ActorState
  pub found : IsFirstNamed actors name index actor
  pub awake : run_awaited (ready actors actor).phase ≡ None
  pub new_is : new ≡ slice_set actors index (ready actors actor)

-- or it waits for a run that has not ended
pub record StillWaits (actors : List ActorState) (index : ℕ) (name : List ℕ) (new : List ActorState) : Type 0 where
  pub actor : ActorState
  pub number : ℕ
  pub found : IsFirstNamed actors name index actor
  pub at : actor.phase ≡ phase.Waiting number
  pub not_ended : is_ended (actor_named actors (child_name name number)) ≡ false
  pub new_is : new ≡ actors

-- the actor at `index` has this name, is alive, and is not waiting for a run
pub record IsAwakeAt (cells : Cells) (actors : List ActorState) (index : ℕ) (name : List ℕ) : Type 0 where
  pub actor : ActorState
  pub found : IsFirstNamed actors name index actor
  pub lives : has_ended actor.phase ≡ false
  pub awake : run_awaited actor.phase ≡ None
  pub family : Family actors
  pub recorded : IsRecorded cells actor

-- it is the one of a name, and wants what other actors have part in
pub record WantsOfFamily (i : Image) (cells : Cells) (actors : List ActorState) (index : ℕ) (name : List ℕ) (q : Want) : Type 0 where
  pub actor : ActorState
  pub inside : index < length actors
  pub there : slice_get actors index ≡ Some actor
  pub named : actor_named actors name ≡ Some actor
  pub own : actor.name ≡ name
  pub wants : current_want actor ≡ Some q
  pub fits : WantFits actor q
  pub of_family : IsOfFamily q
  pub family : Family actors
  pub recorded : IsRecorded cells actor

-- it may take an event by which another begins, of a name that no actor has
pub record MayCreate (i : Image) (actors : List ActorState) (index : ℕ) (e : Event) : Type 0 where
  pub actor : ActorState
  pub inside : index < length actors
  pub there : slice_get actors index ≡ Some actor
  pub fits : TakesFit actor e
  pub begun_ : ActorState
  pub begins : actor_begun i actor e ≡ Some begun_
  pub fresh : actor_named actors begun_.name ≡ None

-- it may take an event by which none begins
pub record IsGoingAlone (i : Image) (actors : List ActorState) (index : ℕ) (e : Event) : Type 0 where
  pub actor : ActorState
  pub inside : index < length actors
  pub there : slice_get actors index ≡ Some actor
  pub fits : TakesFit actor e
  pub begins_none : actor_begun i actor e ≡ None

-- it wants to join one of its children
pub record IsJoining (actors : List ActorState) (index : ℕ) (name : List ℕ) (child : ℕ) : Type 0 where
  pub actor : ActorState
  pub inside : index < length actors
  pub there : slice_get actors index ≡ Some actor
  pub named : actor_named actors name ≡ Some actor
  pub own : actor.name ≡ name
  pub listed : is_child actor.unjoined child ≡ true
  pub family : Family actors

-- it may take an event
pub record IsTaking (actors : List ActorState) (index : ℕ) (e : Event) : Type 0 where
  pub actor : ActorState
  pub inside : index < length actors
  pub there : slice_get actors index ≡ Some actor
  pub fits : TakesFit actor e

-- and has taken it; this is the actor that the event begins, if it begins one
pub record HasTaken (i : Image) (actors : List ActorState) (index : ℕ) (e : Event) (o : Option ActorState) (new : List ActorState) : Type 0 where
  pub actor : ActorState
  pub there : slice_get actors index ≡ Some actor
  pub new_is : new ≡ slice_set actors index (takes i actor e)
  pub begins : o ≡ actor_begun i actor e

-- it has taken an event, which is noted; another stands behind the others if the event begins one
pub record HasDone (i : Image) (actors : List ActorState) (index : ℕ) (e : Event) (entries : List LogEntry) (name : List ℕ) (new : List ActorState) (new_entries : List LogEntry) : Type 0 where
  pub actor : ActorState
  pub there : slice_get actors index ≡ Some actor
  pub new_is : new ≡ with_begun (slice_set actors index (takes i actor e)) (actor_begun i actor e)
  pub noted : Notes entries name e new_entries

-- its event takes place, and is noted
pub record IsDoneAt (i : Image) (cells : Cells) (actors : List ActorState) (index : ℕ) (q : Want) (entries : List LogEntry) (name : List ℕ) (new_cells : Cells) (new : List ActorState) (new_entries : List LogEntry) : Type 0 where
  pub actor : ActorState
  pub inside : index < length actors
  pub there : slice_get actors index ≡ Some actor
  pub event : Event
  pub comes : event_at (state_of i cells actors) actor q ≡ Some event
  pub cells_are : new_cells ≡ cells_after cells event
  pub new_is : new ≡ with_begun (slice_set actors index (takes i actor event)) (actor_begun i actor event)
  pub noted : Notes entries name event new_entries

-- it is to enter a recycled gate in which a run is
pub record FindsBusy (cells : Cells) (q : Want) : Type 0 where
  pub gate : GateId
  pub run : List ℕ
  pub first : PrivateMemory
  pub is : q ≡ want.Gate gate (gate_ask.Enter run first)
  pub entered : (kept_in cells gate).entered ≡ true

-- ---- what came of a turn

-- it was taken, and noted
pub record WasTaken (i : Image) (cells : Cells) (actors : List ActorState) (entries : List LogEntry) (name : List ℕ) (new_cells : Cells) (new : List ActorState) (new_entries : List LogEntry) : Type 0 where
  pub event : Event
  pub turn : IsTurn (state_of i cells actors) name event (state_of i new_cells new)
  pub noted : Notes entries name event new_entries

-- it has to wait: its actor is at rest, and all else is as before
pub record HasWaited (i : Image) (cells : Cells) (actors : List ActorState) (name : List ℕ) (new_cells : Cells) (new : List ActorState) : Type 0 where
  pub waits : IsWaiting (state_of i cells actors) name
  pub rests : state_of i new_cells new ≡ rested (state_of i cells actors) name

-- or a run is in the recycled gate that it is to enter
pub record HasMetBusy (i : Image) (cells : Cells) (actors : List ActorState) (name : List ℕ) (new_cells : Cells) (new : List ActorState) : Type 0 where
  pub busy : IsBusy (state_of i cells actors) name
  pub rests : state_of i new_cells new ≡ rested (state_of i cells actors) name
