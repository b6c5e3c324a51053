use Rattle.std.proofs.Common.{refl, sym, subst, ap}
use Rattle.wedge_events.specs.declared.events.Want.TheVariants as want
use Rattle.thread_laws.specs.ActorProgresses.{after_entry}
use Rattle.actor_task.specs.Tasks.{Wants, IsJoinOf}
use Rattle.actor_task.proofs.EntriesFit.{join_own, join_fits, join_none}
use Rattle.actor_task.proofs.Progressing.{kept_joins, kept_takes, joined_within}
use Rattle.wedge_events.specs.declared.events.Event.TheVariants as event
use Rattle.actor_run.specs.Runs.{RunState}
use Rattle.actor_task.specs.Tasks.{IsBesideSlots}
use Rattle.actor_task.proofs.Tracking.{if_done, beside_after}
use Rattle.run_cells.proofs.OnDeclared.{event_on_no_slot}
use Rattle.actor_ends.proofs.joining.take_join.Goals as goal

pub take_alone-requires-clause-own : goal.take_alone-requires-clause-own
take_alone-requires-clause-own g c =
    let w = subst (λ k. Wants k (want.Join c.args.number)) (sym c.task.view_is) c.requires.wants in
    let j = subst (λ k. IsJoinOf k c.args.number c.args.entry) (sym c.task.view_is) c.requires.joins in
    join_own c.task.inside.run.progress c.args.number j.end_ c.args.entry w.wants j.entry_

pub take_alone-requires-clause-fits : goal.take_alone-requires-clause-fits
take_alone-requires-clause-fits g c =
    let w = subst (λ k. Wants k (want.Join c.args.number)) (sym c.task.view_is) c.requires.wants in
    let j = subst (λ k. IsJoinOf k c.args.number c.args.entry) (sym c.task.view_is) c.requires.joins in
    join_fits c.task.inside.run.progress c.args.number j.end_ c.args.entry j.entry_
    (joined_within g.I.RunOf.image c.task.inside.run.progress c.task.inside.created.items c.args.number j.end_ (c.task.invariant w.going).task w.fits j.learned_)

pub take_alone-requires-clause-alone : goal.take_alone-requires-clause-alone
take_alone-requires-clause-alone g c =
    let j = subst (λ k. IsJoinOf k c.args.number c.args.entry) (sym c.task.view_is) c.requires.joins in
    join_none g.I.RunOf.image c.task.inside.run.progress c.args.number j.end_ c.args.entry j.entry_

pub invariant_of-task : goal.invariant_of-task
invariant_of-task g c = λ still.
    let w = subst (λ k. Wants k (want.Join c.args.number)) (sym c.task.view_is) c.requires.wants in
    let j = subst (λ k. IsJoinOf k c.args.number c.args.entry) (sym c.task.view_is) c.requires.joins in
    let i = g.I.RunOf.image in
    let r = c.task.inside.run.progress in
    kept_takes i c.task.inside.run c.take_alone.new.self (after_entry i r c.args.entry) c.task.inside.created.items c.task.inside.gates c.take_alone.result c.task.invariant
    (kept_joins i r _ c.task.inside.created.items c.task.inside.gates c.args.number j.end_ c.args.entry (c.task.invariant w.going) w.fits j.learned_
    (join_own r c.args.number j.end_ c.args.entry w.wants j.entry_) j.entry_ refl)
    c.take_alone.ensures.entered c.take_alone.ensures.err still

pub returns-clause-beside : goal.returns-clause-beside
returns-clause-beside g c =
    let j = c.requires.joins in
    let r = c.task.inside.run.progress in
    let none = event_on_no_slot c.args.entry (event.Join c.args.number j.end_.how j.end_.fuel) j.entry_.joins (λ slot at. cc) in
    if_done c.take_alone.result
    (λ is. subst (λ k. IsBesideSlots k.progress c.take_alone.new.self.progress) c.task.view_is (beside_after g.I.RunOf.image r c.take_alone.new.self.progress c.args.entry (ap (λ (x : RunState). x.progress) is) none))
    c.take_alone.ensures.entered
