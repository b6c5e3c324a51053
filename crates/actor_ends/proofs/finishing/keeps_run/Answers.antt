use Rattle.std.proofs.Common.{◌≡◌, false, sym, subst}
use Rattle.actor_task.proofs.Progressing.{account}
use Rattle.actor_ends.proofs.finishing.keeps_run.Goals as goal

pub returns : goal.returns
returns g c =
    let going = subst (λ k. k.stopped ≡ false) (sym c.task.view_is) c.requires in
    subst (λ k. k.progress.state.run_of ≡ k.progress.began.run_of) c.task.view_is
    (account g.I.RunOf.image c.task.inside.run.progress c.task.inside.created.items (c.task.invariant going).task).run_of
