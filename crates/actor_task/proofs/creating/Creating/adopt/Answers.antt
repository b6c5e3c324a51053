use Rattle.std.proofs.Common.{rules}
use Rattle.actor_task.proofs.Progressing.{kept_creates}
use Rattle.actor_task.proofs.creating.Creating.adopt.Goals as goal

pub invariant_of-result : goal.invariant_of-result
invariant_of-result g c = λ going.
    kept_creates g.I.RunOf.image _ _ c.self.inside.created.items _ c.args.one _ c.self.invariant.created c.self.invariant.cells (search rules) (search rules) (search rules) (search rules)
