use Rattle.std.proofs.Common.{◌≡◌, ap, sym, subst, ◌∙◌}
use Rattle.wedge_events.specs.declared.events.Event.TheVariants as event
use Rattle.wedge_events.specs.declared.events.LogEntry.{LogEntry}
use Rattle.machine.specs.Take.{actor_begun}
use Rattle.run_cells.specs.Entries.{IsCreatingEntry}
use Rattle.actor_task.specs.Tasks.{TaskState, cellless_entry_of}
use Rattle.actor_task.proofs.EntriesFit.{start_fits, child_unlocked}
use Rattle.actor_task.proofs.Progressing.{if_ok}
use Rattle.actor_task.proofs.task.ActorTask.start.Goals as goal

pub create-requires-clause-creates : goal.create-requires-clause-creates
create-requires-clause-creates g c =
    let r = c.args.self.progress in
    let is : c.in_ok-entry.entry ≡ cellless_entry_of r (event.Start c.args.child) = c.in_ok-entry.ensures ∙ ap (λ (k : TaskState). cellless_entry_of k.progress (event.Start c.args.child)) c.self.view_is in
    subst (IsCreatingEntry g.I.RunOf.image r) (sym is) (start_fits g.I.RunOf.image r c.args.child c.requires.wants.wants c.requires.wants.fits)

pub returns-clause-unlocked : goal.returns-clause-unlocked
returns-clause-unlocked g c =
    let r = c.args.self.progress in
    let is : c.in_ok-entry.entry ≡ cellless_entry_of r (event.Start c.args.child) = c.in_ok-entry.ensures ∙ ap (λ (k : TaskState). cellless_entry_of k.progress (event.Start c.args.child)) c.self.view_is in
    if_ok _ _ c.create.result (λ p begun. child_unlocked g.I.RunOf.image r.state c.args.child p.1.resident (ap (λ (e : LogEntry). actor_begun g.I.RunOf.image r.state e.event) (sym is) ∙ begun)) c.create.ensures.begun
