use Rattle.std.proofs.Common.{◌≡◌}
use Rattle.machine.specs.Actors.{whole}
use Rattle.machine.specs.Local.{rest}
use Rattle.machine.proofs.Resting.{left}
use Rattle.sthread_life.proofs.resting.run.Given as goal

abbrev pub invariant-loop-actor : goal.invariant-loop-actor
invariant-loop-actor g l = rest l.program (whole l.actor l.memory) ≡ rest l.program (whole l.fn.actor l.fn.memory)

abbrev pub decreases-loop-actor : goal.decreases-loop-actor
decreases-loop-actor g l = left l.actor.phase l.actor.fuel
