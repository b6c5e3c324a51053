-- What the run of an actor returns once the actor has ended.
use Rattle.std.specs.Prelude.{◌≡◌, ◌≤◌, ◌⊎◌, ◌∷◌, ℕ, Some, None, All}
use Rattle.wedge_base.specs.Images.{Image}
use Rattle.machine.specs.Actors.{ActorState}
use Rattle.thread_laws.specs.ActorProgresses.{CreatedActor, AreReturned}
use Rattle.thread_laws.specs.Joining.{all_logged}
use Rattle.thread_laws.specs.Replaying.{IsLegalHistory}
use Rattle.thread_laws.specs.declared.gathered.ActorEnd.{ActorEnd}
use Rattle.tag_laws.specs.DeclaredTags.{entries_on_declared}
use Rattle.run_cells.specs.TagPasses.{all_entered}
use Rattle.actor_task.specs.declared.created.Returned.{Returned}

-- It is of an actor that began as `a` at this stamp: its log and those of all that it created, with no
-- more fuel than it began with, and no stamp below the first; the histories are those that the cells of
-- recycled gates kept; and what the passes entered are the logged entries on the first n slots.
pub record IsReturned {I T : Type 0} (i : Image) (n : ℕ) (a : ActorState) (low : ℕ)
    (r : Returned I T) : Type 0 where
  pub family : AreReturned i a low r.log r.others.items r.end
  pub fuel_ : r.end.fuel ≤ a.fuel
  pub later : low ≤ r.end.last
  pub kept : All (IsLegalHistory i) r.gates.items
  pub entered : all_entered r.passes.items
      ≡ entries_on_declared n (all_logged (r.log ∷ r.others.items))

-- what is learned of an actor fits how it began
pub record FitsCreated (k : CreatedActor) (t : ActorEnd) : Type 0 where
  pub was : (k.learned ≡ None) ⊎ (k.learned ≡ Some t)
  pub fuel_ : t.fuel ≤ k.began.fuel
  pub later : k.stamp ≤ t.last

-- its creator has waited for it, and learned how it ended
pub record HasWaited (old new : CreatedActor) (t : ActorEnd) : Type 0 where
  pub fits : FitsCreated old t
  pub now_ : new ≡ record old { learned = Some t }

-- what an actor returned that another created
pub record IsReturnedOf {I T : Type 0} (i : Image) (n : ℕ) (k : CreatedActor)
    (r : Returned I T) : Type 0 where
  pub fits : FitsCreated k r.end
  pub returned : IsReturned i n k.began k.stamp r
