use Rattle.std.proofs.Common.{◌≡◌, ap, sym, subst, ◌∙◌}
use Rattle.wedge_events.specs.declared.events.Event.TheVariants as event
use Rattle.wedge_events.specs.declared.events.LogEntry.{LogEntry}
use Rattle.run_cells.specs.Entries.{IsPlainEntry}
use Rattle.actor_task.specs.Tasks.{TaskState, cellless_entry_of}
use Rattle.actor_task.proofs.EntriesFit.{leave_fits, leave_ends}
use Rattle.actor_task.proofs.Tracking.{still_tracked}
use Rattle.run_cells.proofs.OnDeclared.{event_on_no_slot}
use Rattle.actor_ends.proofs.finishing.leave_fresh.Goals as goal

pub take_plain-requires-clause-entry : goal.take_plain-requires-clause-entry
take_plain-requires-clause-entry g c =
    let r = c.args.task.progress in
    let is : c.in_ok-entry.entry ≡ cellless_entry_of r (event.Leave c.args.end) = c.in_ok-entry.ensures ∙ ap (λ (k : TaskState). cellless_entry_of k.progress (event.Leave c.args.end)) c.leaving.view_is in
    subst (IsPlainEntry g.I.RunOf.image r) (sym is) (leave_fits g.I.RunOf.image r c.args.end c.requires.wants.wants)

pub finish-requires-clause-ended : goal.finish-requires-clause-ended
finish-requires-clause-ended g c =
    let r = c.args.task.progress in
    let is : c.in_ok-entry.entry ≡ cellless_entry_of r (event.Leave c.args.end) = c.in_ok-entry.ensures ∙ ap (λ (k : TaskState). cellless_entry_of k.progress (event.Leave c.args.end)) c.leaving.view_is in
    leave_ends g.I.RunOf.image r c.take_plain.new.self.progress c.in_ok-entry.entry c.args.end (ap (λ (k : TaskState). k.progress) c.in_ok-take_plain.ensures) (ap (λ (e : LogEntry). e.event) is)

pub finish-requires-clause-tracked : goal.finish-requires-clause-tracked
finish-requires-clause-tracked g c =
    let r = c.args.task.progress in
    let is : c.in_ok-entry.entry ≡ cellless_entry_of r (event.Leave c.args.end) = c.in_ok-entry.ensures ∙ ap (λ (k : TaskState). cellless_entry_of k.progress (event.Leave c.args.end)) c.leaving.view_is in
    still_tracked g.T.TableOf.table.slots c.args.pass g.I.RunOf.image r c.take_plain.new.self.progress c.in_ok-entry.entry c.requires.tracked (ap (λ (k : TaskState). k.progress) c.in_ok-take_plain.ensures)
    (event_on_no_slot c.in_ok-entry.entry (event.Leave c.args.end) (ap (λ (e : LogEntry). e.event) is) (λ slot at. cc))
