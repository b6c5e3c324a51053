use Rattle.std.proofs.Common.{rules}
use Rattle.actor_task.proofs.Progressing.{kept_creates_ended}
use Rattle.actor_task.proofs.creating.Creating.adopt_ended.Goals as goal

pub invariant_of-result : goal.invariant_of-result
invariant_of-result g c = λ going.
    kept_creates_ended g.I.RunOf.image _ _ c.self.inside.created.items _ c.args.returned.end _ c.self.invariant.created c.self.invariant.cells (search rules) (search rules) (search rules) (search rules)
