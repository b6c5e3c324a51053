use Rattle.std.proofs.Common.{subst}
use Rattle.machine.specs.Between.{RunsIn}
use Rattle.actor_task.specs.Steps.{IsLast}
use Rattle.actor_ends.proofs.finishing.finish_unlocked.Goals as goal

pub unreachable-requires : goal.unreachable-requires
unreachable-requires g c =
    let last = subst (IsLast c.args.task) c.in-LeaveRecycled.is c.requires.last in
    c.requires.unlocked c.in-LeaveRecycled.gate (subst (λ o. RunsIn o c.in-LeaveRecycled.gate) c.keeps_run.ensures last.fits)
