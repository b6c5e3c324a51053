-- How an actor goes on that learned how another ended.
use Rattle.std.specs.Prelude.{◌≡◌, ◌+◌, ℕ, List}
use Rattle.wedge_base.specs.Images.{Image}
use Rattle.wedge_events.specs.declared.events.LogEntry.{LogEntry}
use Rattle.thread_laws.specs.ActorProgresses.{CreatedActor, after_entry, after_run}
use Rattle.thread_laws.specs.declared.gathered.ActorEnd.{ActorEnd}
use Rattle.actor_task.specs.Tasks.{TaskState, HasLearned, IsJoinEntry}

-- how the one of this number ended is learned, and of no other
pub record LearnsJust (number : ℕ) (old new : List CreatedActor) (t : ActorEnd) : Type 0 where
  pub index : ℕ
  pub number_ : number ≡ index + 1
  pub learned_ : HasLearned old new index t

-- it learned how its child of this number ended, and its log has just the entry of the join more
pub record HasJoined (i : Image) (number : ℕ) (old new : TaskState) : Type 0 where
  pub end_ : ActorEnd
  pub entry : LogEntry
  pub learned_ : LearnsJust number old.created new.created end_
  pub entry_ : IsJoinEntry old.progress number end_ entry
  pub progress_ : new.progress ≡ after_entry i old.progress entry

-- it learned how the run ended for which it waited, and goes on from there
pub record HasResumed (number : ℕ) (old new : TaskState) : Type 0 where
  pub end_ : ActorEnd
  pub learned_ : LearnsJust number old.created new.created end_
  pub progress_ : new.progress ≡ after_run old.progress number end_
