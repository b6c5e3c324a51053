use Rattle.std.proofs.Common.{rules}
use Rattle.actor_task.proofs.Progressing.{kept_rests}
use Rattle.actor_task.proofs.task.ActorTask.rest.Goals as goal

pub invariant_of-self : goal.invariant_of-self
invariant_of-self g c = λ going.
    kept_rests g.I.RunOf.image c.self.inside.run.progress _ _ _ (c.self.invariant (search rules)) (search rules)
