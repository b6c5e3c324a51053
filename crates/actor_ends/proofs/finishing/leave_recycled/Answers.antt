use Rattle.std.proofs.Common.{ap, subst, ◌∙◌}
use Rattle.actor_task.proofs.Progressing.{if_ok}
use Rattle.wedge_events.specs.declared.cells.GateReply.TheVariants as gate_reply
use Rattle.run_cells.specs.Entries.{IsKeptInGate}
use Rattle.actor_task.specs.Tasks.{TaskState}
use Rattle.actor_task.proofs.EntriesFit.{gate_leave_ends}
use Rattle.wedge_events.specs.declared.cells.GateAsk.TheVariants as gate_ask
use Rattle.wedge_events.specs.declared.events.Event.TheVariants as event
use Rattle.actor_task.proofs.Tracking.{still_tracked}
use Rattle.run_cells.proofs.OnDeclared.{event_on_no_slot}
use Rattle.actor_ends.proofs.finishing.leave_recycled.Goals as goal

pub finish-requires-clause-ended : goal.finish-requires-clause-ended
finish-requires-clause-ended g c =
    gate_leave_ends g.I.RunOf.image c.args.task.progress c.take_plain.new.self.progress c.in_ok-entry.entry c.args.gate c.args.end c.args.memory gate_reply.Left (ap (λ (k : TaskState). k.progress) c.in_ok-take_plain.ensures) c.in_ok-entry.ensures.event

pub finish-requires-clause-tracked : goal.finish-requires-clause-tracked
finish-requires-clause-tracked g c =
    still_tracked g.T.TableOf.table.slots c.args.pass g.I.RunOf.image c.args.task.progress c.take_plain.new.self.progress c.in_ok-entry.entry c.requires.tracked (ap (λ (k : TaskState). k.progress) c.in_ok-take_plain.ensures)
    (event_on_no_slot c.in_ok-entry.entry (event.Gate c.args.gate (gate_ask.Leave c.args.end c.args.memory) gate_reply.Left) c.in_ok-entry.ensures.event (λ slot at. cc))

pub returns-clause-left : goal.returns-clause-left
returns-clause-left g c =
    let is = ap (λ (k : TaskState). k.progress.entries) c.in_ok-take_plain.ensures in
    let q = gate_ask.Leave c.args.end c.args.memory in
    let kept = subst (λ (k : TaskState). IsKeptInGate c.args.gate q k.progress c.args.locked.now c.leave_gate.new.locked c.in_ok-entry.entry) c.leaving.view_is c.in_ok-entry.ensures.kept in
    if_ok _ _ c.finish.result (λ t log. record { entry = c.in_ok-entry.entry; kept_ = kept; log_ = log ∙ is }) c.finish.ensures.log
