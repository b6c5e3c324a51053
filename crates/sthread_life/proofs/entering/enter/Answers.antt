use Rattle.std.proofs.Common.{◌≡◌, sym, ap, ◌∙◌}
use Rattle.machine.specs.declared.phase.Phase.TheVariants as phase
use Rattle.machine.specs.Actors.{ActorRecord, whole}
use Rattle.machine.specs.Take.{has_entered}
use Rattle.sthread_life.proofs.entering.enter.Goals as goal

pub returns-in-Entering-clause-takes : goal.returns-in-Entering-clause-takes
returns-in-Entering-clause-takes c m =
    let now = c.args.actor.now in
    let at : phase.Entering c.in-Entering.entrance ≡ now.phase = sym (sym c.replace.ensures.value ∙ c.in-Entering.is) ∙ ap (λ (r : ActorRecord). r.phase) c.actor.view_is in
    c.in_ok-begin_run-in-Entering.ensures.takes m ∙ (ap (λ (r : ActorRecord). has_entered (whole r m) (phase.Entering c.in-Entering.entrance)) c.actor.view_is ∙ ap (has_entered (whole now m)) at)
