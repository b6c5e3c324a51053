use Rattle.std.proofs.Common.{subst}
use Rattle.wedge_events.specs.declared.cells.GateAsk.TheVariants as gate_ask
use Rattle.run_cells.specs.Entries.{IsKeptInGate}
use Rattle.actor_task.specs.Tasks.{TaskState}
use Rattle.actor_task.proofs.Progressing.{if_ok}
use Rattle.actor_task.proofs.task.ActorTask.enter_recycled.Goals as goal

pub returns-clause-kept : goal.returns-clause-kept
returns-clause-kept g c =
    let q = gate_ask.Enter c.args.entry.run c.args.entry.memory in
    let kept = subst (λ (k : TaskState). IsKeptInGate c.args.entry.gate q k.progress c.args.locked.now c.enter_gate.new.locked c.in_ok-entry.entry) c.self.view_is c.in_ok-entry.ensures.kept in
    if_ok _ _ c.create.result (λ p now. record { entry = c.in_ok-entry.entry; kept_ = kept; progress_ = now }) c.create.ensures.progress
