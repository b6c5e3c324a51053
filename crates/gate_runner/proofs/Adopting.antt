-- One that an actor has just created is put at the end of those that it created.
use Rattle.std.proofs.Common.{◌≡◌, ℕ, [], ◌∷◌, ◌++◌, ◌∙◌}
use Rattle.std.specs.Prelude.{Option, Some, None}
use Rattle.wedge_base.specs.Images.{Image}
use Rattle.machine.specs.Actors.{ActorState}
use Rattle.thread_laws.specs.ActorProgresses.{created_actor}
use Rattle.thread_laws.specs.declared.gathered.ActorEnd.{ActorEnd}
use Rattle.actor_task.specs.Tasks.{TaskState, CreatingState, IsPairOf, going_on, with_created}
use Rattle.gate_runner.specs.Joints.{HasAdded, HasStarted, HasEntered, IsAdopted, IsAdoptedEnded}

pub added_so : (i : Image) (old new : TaskState) (k : CreatingState) (born : ActorState) (stamp : ℕ) (learned : Option ActorEnd) → IsPairOf i old k born stamp → new ≡ with_created k learned → HasAdded i old learned new
added_so i old new k born stamp learned p is =
    let made = p.made in
    record {
      entry = p.entry;
      creates = made.creates;
      born = k.born;
      begun = made.begun;
      now_ = is ∙ (λ j. going_on (made.now_ j) (p.created_ j ++ created_actor k.born (made.stamp_ j) learned ∷ []));
    }

pub started_so : (i : Image) (old new : TaskState) (k : CreatingState) (born : ActorState) (stamp : ℕ) → IsPairOf i old k born stamp → IsAdopted k new → HasStarted i old new
started_so i old new k born stamp p h = (h.0, added_so i old new k born stamp h.0 p h.1)

pub entered_so : (i : Image) (old new : TaskState) (k : CreatingState) (born : ActorState) (stamp : ℕ) → IsPairOf i old k born stamp → IsAdoptedEnded k new → HasEntered i old new
entered_so i old new k born stamp p h = (h.0, added_so i old new k born stamp (Some h.0) p h.1)

-- whether it still runs, or has ended
pub adopted_running : (k : CreatingState) (new : TaskState) → new ≡ with_created k None → IsAdopted k new
adopted_running k new is = (None, is)

pub adopted_ended : (k : CreatingState) (end_ : ActorEnd) (new : TaskState) → new ≡ with_created k (Some end_) → IsAdoptedEnded k new
adopted_ended k end_ new is = (end_, is)

pub adopted_some : (k : CreatingState) (end_ : ActorEnd) (new : TaskState) → new ≡ with_created k (Some end_) → IsAdopted k new
adopted_some k end_ new is = (Some end_, is)

pub entered_ended : (i : Image) (old new : TaskState) (k : CreatingState) (born : ActorState) (stamp : ℕ) (end_ : ActorEnd) → IsPairOf i old k born stamp → new ≡ with_created k (Some end_) → HasEntered i old new
entered_ended i old new k born stamp end_ p is = (end_, added_so i old new k born stamp (Some end_) p is)
