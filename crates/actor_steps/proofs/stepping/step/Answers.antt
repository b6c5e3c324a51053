use Rattle.std.proofs.Common.{◌≡◌, suc, subst, ap, ◌∙◌}
use Rattle.thread_laws.specs.ActorProgresses.{ActorProgress, after_rest}
use Rattle.actor_task.specs.Tasks.{TaskState}
use Rattle.actor_steps.specs.Logged.{HasLogged}
use Rattle.actor_steps.proofs.stepping.step.Goals as goal

pub loop-preserved-in-Load : goal.loop-preserved-in-Load
loop-preserved-in-Load g c =
    let i = g.I.RunOf.image in
    let was = c.loop.task.progress in
    let inv = c.loop.invariant in
    let new = c.load.new.task.progress in
    let did = c.in_ok-load-in-Load.ensures in
    let rested : c.rest.new.task.progress ≡ after_rest i was = ap (λ (k : TaskState). k.progress) c.in_ok-rest.ensures.rests in (
      record { began = did.same.began ∙ (ap (λ (r : ActorProgress). r.began) rested ∙ inv.0.began); low = did.same.low ∙ (ap (λ (r : ActorProgress). r.low) rested ∙ inv.0.low) },
      did.tracked,
      suc inv.2,
      (was, inv.3, subst (λ (r : ActorProgress). HasLogged i r new) rested did.logged),
    )

pub loop-preserved : goal.loop-preserved
loop-preserved g c =
    let i = g.I.RunOf.image in
    let was = c.loop.task.progress in
    let inv = c.loop.invariant in
    let new = c.store.new.task.progress in
    let did = c.in_ok-store-in-Store.ensures in
    let rested : c.rest.new.task.progress ≡ after_rest i was = ap (λ (k : TaskState). k.progress) c.in_ok-rest.ensures.rests in (
      record { began = did.same.began ∙ (ap (λ (r : ActorProgress). r.began) rested ∙ inv.0.began); low = did.same.low ∙ (ap (λ (r : ActorProgress). r.low) rested ∙ inv.0.low) },
      did.tracked,
      suc inv.2,
      (was, inv.3, subst (λ (r : ActorProgress). HasLogged i r new) rested did.logged),
    )
