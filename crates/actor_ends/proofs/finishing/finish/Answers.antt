use Rattle.std.proofs.Common.{◌≡◌, ◌∷◌, false, sym, subst, ap, ◌∙◌}
use Rattle.tag_laws.specs.DeclaredTags.{entries_on_declared}
use Rattle.run_cells.specs.TagPasses.{all_entered}
use Rattle.run_cells.proofs.OnDeclared.{whole_family}
use Rattle.actor_task.specs.declared.created.Returned.{Returned}
use Rattle.actor_task.specs.Returning.{IsReturned}
use Rattle.actor_task.specs.Tasks.{TaskState}
use Rattle.actor_task.proofs.Progressing.{returned_so}
use Rattle.actor_ends.proofs.finishing.finish.Goals as goal

pub returns-clause-returned : goal.returns-clause-returned
returns-clause-returned g c =
    let i = g.I.RunOf.image in
    let n = g.T.TableOf.table.slots in
    let way = c.task.inside.run.progress in
    let going = subst (λ k. k.stopped ≡ false) (sym c.task.view_is) c.requires.going in
    let task = (c.task.invariant going).task in
    let all = c.in_ok-others.field-0 in
    let r : Returned _ _ = record { log = c.finish-log.result.0; end = c.finish-log.result.1; others = all.others; gates = c.into_histories.new.histories; passes = all.passes } in
    let tracked = c.requires.tracked ∙ ap (λ (k : TaskState). entries_on_declared n k.progress.entries) (sym c.task.view_is) in
    subst (λ k. IsReturned i n k.progress.began k.progress.low r) c.task.view_is
    (returned_so i n way c.task.inside.created.items r task (c.in_ok-others.ensures.families way task) c.finish-log.ensures.entries c.finish-log.ensures.log c.finish-log.ensures.end c.in_ok-into_histories.ensures.legal
    (whole_family n c.args.pass (all_entered all.passes.items) way.entries c.finish-log.result.0 all.others.items tracked c.finish-log.ensures.entries c.in_ok-others.ensures.passes))
