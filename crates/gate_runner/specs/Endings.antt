-- An actor that has come to its end.
use Rattle.std.specs.Prelude.{◌≡◌, ℕ}
use Rattle.machine.specs.Actors.{ActorState}
use Rattle.actor_task.specs.Steps.{IsLast}
use Rattle.actor_task.specs.Tasks.{IsTracked}
use Rattle.gate_runner.specs.declared.runner.AtEnd.{AtEnd}

-- it began so, at this stamp, this is left to do of it, and its pass entered its entries on the first n slots
pub record IsAtEnd {I T : Type 0} (n : ℕ) (a : ActorState) (low : ℕ) (o : AtEnd I T) : Type 0 where
  pub began : o.task.progress.began ≡ a
  pub low_ : o.task.progress.low ≡ low
  pub last_ : IsLast o.task o.last
  pub tracked : IsTracked n o.pass o.task.progress
