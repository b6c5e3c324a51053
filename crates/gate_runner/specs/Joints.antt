-- What an event in which another actor has part makes of one.
use Rattle.std.specs.Prelude.{◌≡◌, ◌++◌, ◌∷◌, [], Option, Some}
use Rattle.wedge_base.specs.Images.{Image}
use Rattle.wedge_events.specs.declared.events.LogEntry.{LogEntry}
use Rattle.machine.specs.Actors.{ActorState}
use Rattle.machine.specs.Take.{actor_begun}
use Rattle.run_cells.specs.Entries.{IsCreatingEntry}
use Rattle.thread_laws.specs.ActorProgresses.{after_entry, created_actor}
use Rattle.thread_laws.specs.declared.gathered.ActorEnd.{ActorEnd}
use Rattle.actor_task.specs.Tasks.{TaskState, CreatingState, going_on, with_created}
use Rattle.actor_task.specs.declared.step.Step.{Step}
use Rattle.actor_task.specs.declared.step.Step.TheVariants as step
use Rattle.actor_ends.specs.Joins.{HasJoined, HasResumed}

-- Its log has just the entry of what it wanted more, and the actor that this creates is the last of
-- those that it created, with how that ended if it has learned it.
pub record HasAdded (i : Image) (old : TaskState) (learned : Option ActorEnd) (new : TaskState) : Type 0 where
  pub entry : LogEntry
  pub creates : IsCreatingEntry i old.progress entry
  pub born : ActorState
  pub begun : actor_begun i old.progress.state entry.event ≡ Some born
  pub now_ : new ≡ going_on (after_entry i old.progress entry)
      (old.created ++ created_actor born entry.stamp learned ∷ [])

-- it started a child, which may still run
abbrev pub HasStarted : Image → TaskState → TaskState → Type 0
HasStarted i old new = (learned : Option ActorEnd) × HasAdded i old learned new

-- it entered a gate, whose run has ended
abbrev pub HasEntered : Image → TaskState → TaskState → Type 0
HasEntered i old new = (end_ : ActorEnd) × HasAdded i old (Some end_) new

-- the same of the one that an actor has just created
abbrev pub IsAdopted : CreatingState → TaskState → Type 0
IsAdopted k new = (learned : Option ActorEnd) × (new ≡ with_created k learned)

abbrev pub IsAdoptedEnded : CreatingState → TaskState → Type 0
IsAdoptedEnded k new = (end_ : ActorEnd) × (new ≡ with_created k (Some end_))

-- it starts that child, enters that gate, joins that very child, or goes on from that very run
abbrev pub IsJointDone : Image → TaskState → Step → TaskState → Type 0
IsJointDone i old (step.Start child) new = HasStarted i old new
IsJointDone i old (step.Enter run) new = HasEntered i old new
IsJointDone i old (step.EnterRecycled entry) new = HasEntered i old new
IsJointDone i old (step.Join number) new = HasJoined i number old new
IsJointDone i old (step.Waits number) new = HasResumed number old new
IsJointDone i old s new = Unit {0}
