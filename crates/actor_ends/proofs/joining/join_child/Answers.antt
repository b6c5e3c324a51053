use Rattle.std.proofs.Common.{OnOk, sym, subst, ap, ◌∙◌}
use Rattle.thread_laws.specs.ActorProgresses.{ActorProgress, after_entry}
use Rattle.actor_task.specs.Tasks.{IsBesideSlots, IsJoinEntry, TaskState}
use Rattle.actor_task.proofs.Progressing.{learned_of_number}
use Rattle.actor_task.proofs.Tracking.{if_done}
use Rattle.actor_ends.specs.Joins.{LearnsJust}
use Rattle.actor_ends.proofs.joining.join_child.Goals as goal

pub take_join-requires-clause-joins : goal.take_join-requires-clause-joins
take_join-requires-clause-joins g c =
    let end = c.in_ok-end.end in
    let entry = c.in_ok-entry.entry in
    let l = c.in_ok-end.ensures.learned in
    record {
      end_ = end;
      learned_ = learned_of_number c.args.task.now.created c.learn_child.new.task.created c.args.number l.index end l.number_ l.learned_;
      entry_ = subst (λ (r : ActorProgress). IsJoinEntry r c.args.number end entry) (ap (λ (k : TaskState). k.progress) c.task.view_is) c.in_ok-entry.ensures;
    }

pub returns-clause-beside : goal.returns-clause-beside
returns-clause-beside g c =
    subst (λ p. OnOk c.take_join.result (IsBesideSlots p c.take_join.new.task.progress)) c.in_ok-end.ensures.progress c.take_join.ensures.beside

pub returns-clause-joined : goal.returns-clause-joined
returns-clause-joined g c =
    let i = g.I.RunOf.image in
    let end = c.in_ok-end.end in
    let entry = c.in_ok-entry.entry in
    let same = c.in_ok-end.ensures.progress in
    if_done c.take_join.result
    (λ is. record {
      end_ = end;
      entry = entry;
      learned_ = subst (λ (k : TaskState). LearnsJust c.args.number c.args.task.now.created k.created end) (sym is) c.in_ok-end.ensures.learned;
      entry_ = subst (λ (r : ActorProgress). IsJoinEntry r c.args.number end entry) (ap (λ (k : TaskState). k.progress) c.task.view_is ∙ same) c.in_ok-entry.ensures;
      progress_ = ap (λ (k : TaskState). k.progress) is ∙ ap (λ (r : ActorProgress). after_entry i r entry) same;
    })
    c.take_join.ensures.takes
