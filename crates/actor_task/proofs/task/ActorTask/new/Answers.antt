use Rattle.std.proofs.Common.{rules}
use Rattle.actor_task.proofs.Progressing.{kept_begins}
use Rattle.actor_task.proofs.task.ActorTask.new.Goals as goal

pub invariant_of-result : goal.invariant_of-result
invariant_of-result g c = λ going.
    kept_begins g.I.RunOf.image c.args.new.resident c.args.new.stamp _ _ _ c.args.new.begins c.args.new.cells (search rules) (search rules)
