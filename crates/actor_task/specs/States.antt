-- Where a created actor is.
use Rattle.std.specs.Prelude.{◌≡◌, ℕ, Some, None, Option}
use Rattle.wedge_base.specs.Images.{Image}
use Rattle.machine.specs.Actors.{ActorState}
use Rattle.thread_laws.specs.declared.gathered.ActorEnd.{ActorEnd}
use Rattle.actor_task.specs.Returning.{IsReturned}
use Rattle.actor_task.specs.declared.created.State.{State}
use Rattle.actor_task.specs.declared.created.State.TheVariants as state

-- how it ended, once that is known
abbrev pub learned_in : {I T : Type 0} → State I T → Option ActorEnd
learned_in (state.Running handle) = None
learned_in (state.Ended returned) = Some returned.end
learned_in state.OutOfMemory = None

-- the thread promised to return what is of this actor, and what it returned is
abbrev pub IsStateOf : {I T : Type 0} → Image → ℕ → ActorState → ℕ → State I T → Type 0
IsStateOf i n a low (state.Running handle) =
    (handle.promise.began.value ≡ a) × (handle.promise.stamp ≡ low)
IsStateOf i n a low (state.Ended returned) = IsReturned i n a low returned
IsStateOf i n a low state.OutOfMemory = Unit {0}
