use Rattle.std.proofs.Common.{rules, ◌≡◌, false, true, sym, subst, length}
use Rattle.machine.specs.Children.{is_child}
use Rattle.actor_task.specs.Tasks.{IsIndexed, TaskState, HasLearned}
use Rattle.actor_task.proofs.Progressing.{child_indexed, kept_waits, if_ok}
use Rattle.actor_ends.proofs.joining.learn_child.Goals as goal

pub index_of-index-requires : goal.index_of-index-requires
index_of-index-requires g c =
    let going = subst (λ k. k.stopped ≡ false) (sym c.task.view_is) c.requires.going in
    let child = subst (λ k. is_child k.progress.state.unjoined c.args.number ≡ true) (sym c.task.view_is) c.requires.child in
    subst (λ xs. IsIndexed (length xs) c.args.number) (search rules) (child_indexed g.I.RunOf.image c.task.inside.run.progress c.task.inside.created.items c.args.number (c.task.invariant going).task child)

pub invariant_of-task : goal.invariant_of-task
invariant_of-task g c = λ going.
    kept_waits g.I.RunOf.image c.task.inside.run.progress c.task.inside.created.items c.learn.new.created.items c.task.inside.gates c.index_of-index.result c.learn.result (c.task.invariant going) c.learn.ensures.learned c.learn.ensures.err

pub returns-clause-learned : goal.returns-clause-learned
returns-clause-learned g c =
    let index = c.index_of-index.result in
    let new = c.learn.new.created.items in
    if_ok _ _ c.learn.result
    (λ t l. record { index = index; number_ = c.index_of-index.ensures.is; learned_ = subst (λ (k : TaskState). HasLearned k.created new index t) c.task.view_is l })
    c.learn.ensures.learned
