use Rattle.std.proofs.Common.{ℕ}
use Rattle.actor_task.specs.Tasks.{IsSame, IsTracked}
use Rattle.actor_steps.specs.Logged.{HasGone}
use Rattle.actor_steps.proofs.stepping.step.Given as goal

abbrev pub invariant-loop : goal.invariant-loop
invariant-loop g l = IsSame l.initial.task.progress l.task.progress
    × IsTracked g.T.TableOf.table.slots l.pass l.task.progress
    × (n : ℕ) × HasGone n g.I.RunOf.image l.initial.task.progress l.task.progress
