-- What the thread of an actor has in hand: the actor, and those that it created.
use Rattle.std.specs.Prelude.{◌≡◌, ◌+◌, ◌<◌, ℕ, Bool, true, false, List, [], ◌∷◌, ◌++◌, length, slice_get, slice_set, Option, Some}
use Rattle.wedge_base.specs.Images.{Image}
use Rattle.wedge_base.specs.declared.grants.GateId.{GateId}
use Rattle.wedge_events.specs.declared.events.Event.{Event}
use Rattle.wedge_events.specs.declared.events.Event.TheVariants as event
use Rattle.wedge_events.specs.declared.events.LogEntry.{LogEntry}
use Rattle.wedge_events.specs.declared.events.Want.{Want}
use Rattle.wedge_events.specs.declared.events.Want.TheVariants as want
use Rattle.wedge_events.specs.Gates.{Kept}
use Rattle.wedge_events.specs.declared.cells.GateAsk.{GateAsk}
use Rattle.wedge_events.specs.declared.cells.GateAsk.TheVariants as gate_ask
use Rattle.wedge_events.specs.declared.cells.GateReply.{GateReply}
use Rattle.journal_cell.specs.Histories.{CellState, greater}
use Rattle.machine.specs.declared.phase.Phase.TheVariants as phase
use Rattle.machine.specs.Actors.{ActorState}
use Rattle.machine.specs.Between.{WantFits, RunsIn}
use Rattle.machine.specs.Children.{is_child}
use Rattle.machine.specs.Local.{run_awaited}
use Rattle.machine.specs.Take.{actor_begun, current_want}
use Rattle.thread_laws.specs.ActorProgresses.{ActorProgress, after_entry, CreatedActor, created_actor, IsProgress, Families}
use Rattle.actor_task.specs.declared.step.GateEntry.{GateEntry}
use Rattle.thread_laws.specs.declared.gathered.ActorEnd.{ActorEnd}
use Rattle.thread_laws.specs.declared.gathered.ActorLog.{ActorLog}
use Rattle.tag_laws.specs.DeclaredTags.{entries_on_declared}
use Rattle.run_cells.specs.Entries.{IsCreatingEntry, IsKeptInGate}
use Rattle.run_cells.specs.RecycledGates.{GateCellsState, HasCells}
use Rattle.actor_task.specs.Returning.{FitsCreated}

-- an actor as it is created: it runs, and has started nobody
pub record IsNew (a : ActorState) : Type 0 where
  pub starts_ : a.starts ≡ 0
  pub unjoined_ : a.unjoined ≡ []
  pub runs_ : a.phase ≡ phase.Running

-- an actor with those that it created, in order, and whether it has stopped
pub record TaskState : Type 0 where
  pub progress : ActorProgress
  pub created : List CreatedActor
  pub stopped : Bool

abbrev pub going_on : ActorProgress → List CreatedActor → TaskState
going_on r created = record { progress = r; created = created; stopped = false }

-- unless it has stopped, this is its progress
pub record IsTask (i : Image) (r : ActorProgress) (created : List CreatedActor) : Type 0 where
  pub progress : IsProgress i r created
  pub new_ : IsNew r.began

-- the same actor, further on
pub record IsSame (old new : ActorProgress) : Type 0 where
  pub began : new.began ≡ old.began
  pub low : new.low ≡ old.low

-- and what it did since is on no slot
pub record IsBesideSlots (old new : ActorProgress) : Type 0 where
  pub same : IsSame old new
  pub entries_ : (n : ℕ) → entries_on_declared n new.entries ≡ entries_on_declared n old.entries

-- what it entered by its pass are its entries on the first n slots
abbrev pub IsTracked : ℕ → List LogEntry → ActorProgress → Type 0
IsTracked n entered r = entered ≡ entries_on_declared n r.entries

-- an actor at rest that wants this
pub record Wants (k : TaskState) (q : Want) : Type 0 where
  pub going : k.stopped ≡ false
  pub wants : current_want k.progress.state ≡ Some q
  pub fits : WantFits k.progress.state q

-- and that wants to enter a recycled gate
abbrev pub WantsEntry : TaskState → GateEntry → Type 0
WantsEntry k e = Wants k (want.Gate e.gate (gate_ask.Enter e.run e.memory))

-- an actor at rest that waits for the run of a gate, its start of this number
pub record Waits (k : TaskState) (number : ℕ) : Type 0 where
  pub going : k.stopped ≡ false
  pub waits : run_awaited k.progress.state.phase ≡ Some number
  pub child : is_child k.progress.state.unjoined number ≡ true

-- an actor that is the run of no recycled gate
abbrev pub IsUnlocked : ActorState → Type 0
IsUnlocked a = (id : GateId) → RunsIn a.run_of id → ⊥

-- both hold of an actor on its thread, unless it has stopped
pub record KeepsTask (i : Image) (r : ActorProgress) (created : List CreatedActor) (cells : GateCellsState) : Type 0 where
  pub task : IsTask i r created
  pub cells_ : HasCells cells r.state.gates

-- ---- those that it created

-- a number is that of one of so many, counted from 1
pub record IsIndexed (count number : ℕ) : Type 0 where
  pub index : ℕ
  pub number_ : number ≡ index + 1
  pub below : index < count

-- how the one at an index ended is learned
pub record HasLearned (old new : List CreatedActor) (index : ℕ) (t : ActorEnd) : Type 0 where
  pub one : CreatedActor
  pub there : slice_get old index ≡ Some one
  pub fits : FitsCreated one t
  pub now_ : new ≡ slice_set old index (record one { learned = Some t })

-- how the one of a number ended is learned
pub record HasLearnedOf (created : List CreatedActor) (number : ℕ) (t : ActorEnd) : Type 0 where
  pub index : ℕ
  pub number_ : number ≡ index + 1
  pub one : CreatedActor
  pub there : slice_get created index ≡ Some one
  pub learned_ : one.learned ≡ Some t

-- the entry of a join: one above the greater of the actor's clock and the child's last stamp
pub record IsJoinEntry (r : ActorProgress) (number : ℕ) (t : ActorEnd) (e : LogEntry) : Type 0 where
  pub own : e.actor ≡ r.state.name
  pub stamp : e.stamp ≡ greater r.clock t.last + 1
  pub joins : e.event ≡ event.Join number t.how t.fuel

-- the entry of the join of a child whose end was learned
pub record IsJoinOf (k : TaskState) (number : ℕ) (e : LogEntry) : Type 0 where
  pub end_ : ActorEnd
  pub learned_ : HasLearnedOf k.created number end_
  pub entry_ : IsJoinEntry k.progress number end_ e

-- the entry of an event of no cell: one above the actor's clock
abbrev pub cellless_entry_of : ActorProgress → Event → LogEntry
cellless_entry_of r e = record { stamp = r.clock + 1; actor = r.state.name; event = e }

-- an actor that has just created another, which is not yet among those that it created
pub record CreatingState : Type 0 where
  pub progress : ActorProgress
  pub created : List CreatedActor
  pub born : ActorState
  pub stamp : ℕ

-- it did so by this entry, that of what it wanted: its log has just that more
pub record HasCreatedBy (i : Image) (old : ActorProgress) (e : LogEntry) (k : CreatingState) : Type 0 where
  pub creates : IsCreatingEntry i old e
  pub begun : actor_begun i old.state e.event ≡ Some k.born
  pub now_ : k.progress ≡ after_entry i old e
  pub stamp_ : k.stamp ≡ e.stamp

pub record HasCreated (i : Image) (k : CreatingState) : Type 0 where
  pub old : ActorProgress
  pub entry : LogEntry
  pub task : IsTask i old k.created
  pub made : HasCreatedBy i old entry k

-- the other put at the end of those that it created, with how it ended if that is known
abbrev pub with_created : CreatingState → Option ActorEnd → TaskState
with_created k learned = going_on k.progress (k.created ++ created_actor k.born k.stamp learned ∷ [])

-- an actor entered a recycled gate: its log has just the entry more that the gate's cell kept
pub record HasEnteredGate (i : Image) (e : GateEntry) (old new : ActorProgress)
    (was now_ : CellState Kept GateAsk GateReply) : Type 0 where
  pub entry : LogEntry
  pub kept_ : IsKeptInGate e.gate (gate_ask.Enter e.run e.memory) old was now_ entry
  pub progress_ : new ≡ after_entry i old entry

-- an actor and one that it created by an entry: as it begins, at the stamp of the entry
pub record IsPairOf (i : Image) (k : TaskState) (c : CreatingState) (born : ActorState) (stamp : ℕ) : Type 0 where
  pub entry : LogEntry
  pub made : HasCreatedBy i k.progress entry c
  pub created_ : c.created ≡ k.created
  pub beside : IsBesideSlots k.progress c.progress
  pub born_ : c.born ≡ born
  pub stamp_ : c.stamp ≡ stamp
  pub longer : length born.name ≡ length k.progress.began.name + 1

-- what all that an actor created returned, once it has learned how each ended
pub record HasFamilies (i : Image) (r : ActorProgress) (logs : List ActorLog) : Type 0 where
  pub its : List CreatedActor
  pub progress : IsProgress i r its
  pub families : Families i its logs
