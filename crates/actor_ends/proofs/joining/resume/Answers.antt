use Rattle.std.proofs.Common.{rules, sym, subst, ap, length, ◌∙◌}
use Rattle.thread_laws.specs.ActorProgresses.{after_run}
use Rattle.actor_task.specs.Tasks.{Waits, IsIndexed}
use Rattle.actor_task.proofs.Progressing.{kept_resumes, child_indexed, learned_within, waits_so}
use Rattle.actor_run.specs.Runs.{RunState}
use Rattle.actor_task.specs.Tasks.{HasLearned, IsBesideSlots, TaskState}
use Rattle.actor_task.proofs.Tracking.{beside_run}
use Rattle.actor_ends.proofs.joining.resume.Goals as goal

pub index_of-index-requires : goal.index_of-index-requires
index_of-index-requires g c =
    let w = subst (λ k. Waits k c.args.number) (sym c.task.view_is) c.requires in
    subst (λ xs. IsIndexed (length xs) c.args.number) (search rules) (child_indexed g.I.RunOf.image c.task.inside.run.progress c.task.inside.created.items c.args.number (c.task.invariant w.going).task w.child)

pub resume-requires-clause-waits : goal.resume-requires-clause-waits
resume-requires-clause-waits g c =
    let w = subst (λ k. Waits k c.args.number) (sym c.task.view_is) c.requires in
    waits_so c.task.inside.run.progress.state.phase c.args.number w.waits

pub resume-requires-clause-back : goal.resume-requires-clause-back
resume-requires-clause-back g c =
    let w = subst (λ k. Waits k c.args.number) (sym c.task.view_is) c.requires in
    learned_within g.I.RunOf.image c.task.inside.run.progress c.task.inside.created.items _ c.args.number c.index_of-index.result c.in_ok-end.end (c.task.invariant w.going).task w.child c.index_of-index.ensures.is c.in_ok-end.ensures.learned

pub invariant_of-result : goal.invariant_of-result
invariant_of-result g c = λ going.
    let w = subst (λ k. Waits k c.args.number) (sym c.task.view_is) c.requires in
    kept_resumes g.I.RunOf.image c.task.inside.run.progress _ c.task.inside.created.items _ _ c.args.number c.index_of-index.result c.in_ok-end.end (c.task.invariant w.going) w.child c.index_of-index.ensures.is c.in_ok-end.ensures.learned
    (waits_so c.task.inside.run.progress.state.phase c.args.number w.waits) (search rules)

pub returns-clause-beside : goal.returns-clause-beside
returns-clause-beside g c = subst (λ k. IsBesideSlots k.progress c.resume.new.self.progress) c.task.view_is (beside_run c.task.inside.run.progress c.resume.new.self.progress c.args.number c.in_ok-end.end (ap (λ (x : RunState). x.progress) c.resume.ensures))

pub returns-clause-resumed : goal.returns-clause-resumed
returns-clause-resumed g c =
    let end = c.in_ok-end.end in
    let index = c.index_of-index.result in
    let new = c.learn.new.created.items in
    record {
      end_ = end;
      learned_ = record { index = index; number_ = c.index_of-index.ensures.is; learned_ = subst (λ (k : TaskState). HasLearned k.created new index end) c.task.view_is c.in_ok-end.ensures.learned };
      progress_ = ap (λ (x : RunState). x.progress) c.resume.ensures ∙ ap (λ (k : TaskState). after_run k.progress c.args.number end) c.task.view_is;
    }
