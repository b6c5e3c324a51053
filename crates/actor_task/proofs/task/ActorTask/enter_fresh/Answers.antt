use Rattle.std.proofs.Common.{◌≡◌, ap, sym, subst, ◌∙◌}
use Rattle.wedge_events.specs.declared.events.Event.TheVariants as event
use Rattle.wedge_events.specs.declared.events.LogEntry.{LogEntry}
use Rattle.machine.specs.Take.{actor_begun}
use Rattle.actor_run.specs.Runs.{AffordsGate}
use Rattle.run_cells.specs.Entries.{IsCreatingEntry}
use Rattle.actor_task.specs.Tasks.{TaskState, cellless_entry_of}
use Rattle.actor_task.proofs.EntriesFit.{enter_fits, fresh_unlocked}
use Rattle.actor_task.proofs.Progressing.{if_ok}
use Rattle.actor_task.proofs.task.ActorTask.enter_fresh.Goals as goal

pub create-requires-clause-creates : goal.create-requires-clause-creates
create-requires-clause-creates g c =
    let r = c.args.self.progress in
    let is : c.in_ok-entry.entry ≡ cellless_entry_of r (event.Enter c.args.run) = c.in_ok-entry.ensures ∙ ap (λ (k : TaskState). cellless_entry_of k.progress (event.Enter c.args.run)) c.self.view_is in
    let affords : AffordsGate r.state.phase r.state.fuel = subst (λ (k : TaskState). AffordsGate k.progress.state.phase k.progress.state.fuel) c.self.view_is c.affords_gate.ensures in
    subst (IsCreatingEntry g.I.RunOf.image r) (sym is) (enter_fits g.I.RunOf.image r c.args.run c.requires.wants.wants c.requires.wants.fits affords)

pub returns-clause-unlocked : goal.returns-clause-unlocked
returns-clause-unlocked g c =
    let r = c.args.self.progress in
    let is : c.in_ok-entry.entry ≡ cellless_entry_of r (event.Enter c.args.run) = c.in_ok-entry.ensures ∙ ap (λ (k : TaskState). cellless_entry_of k.progress (event.Enter c.args.run)) c.self.view_is in
    if_ok _ _ c.create.result (λ p begun. fresh_unlocked g.I.RunOf.image r.state c.args.run p.1.resident c.requires.wants.wants c.requires.wants.fits (ap (λ (e : LogEntry). actor_begun g.I.RunOf.image r.state e.event) (sym is) ∙ begun)) c.create.ensures.begun
