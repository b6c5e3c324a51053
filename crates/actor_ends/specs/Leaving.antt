-- The leave of a recycled gate, whose lock is held.
use Rattle.std.specs.Prelude.{◌≡◌, ◌++◌, ◌∷◌, []}
use Rattle.cow_pages.specs.PrivateMemory.{PrivateMemory}
use Rattle.wedge_base.specs.declared.grants.GateId.{GateId}
use Rattle.wedge_base.specs.declared.rights.End.{End}
use Rattle.wedge_events.specs.Gates.{Kept}
use Rattle.wedge_events.specs.declared.cells.GateAsk.{GateAsk}
use Rattle.wedge_events.specs.declared.cells.GateAsk.TheVariants as gate_ask
use Rattle.wedge_events.specs.declared.cells.GateReply.{GateReply}
use Rattle.wedge_events.specs.declared.events.LogEntry.{LogEntry}
use Rattle.journal_cell.specs.Histories.{CellState}
use Rattle.thread_laws.specs.ActorProgresses.{ActorProgress}
use Rattle.thread_laws.specs.declared.gathered.ActorLog.{ActorLog}
use Rattle.run_cells.specs.Entries.{IsKeptInGate}
use Rattle.actor_task.specs.declared.step.Last.{Last}
use Rattle.actor_task.specs.declared.step.Last.TheVariants as last

-- an actor left the gate: its log has just the entry more that the gate's cell kept
pub record HasLeftGate (id : GateId) (end_ : End) (memory : PrivateMemory) (old : ActorProgress) (log : ActorLog)
    (was now_ : CellState Kept GateAsk GateReply) : Type 0 where
  pub entry : LogEntry
  pub kept_ : IsKeptInGate id (gate_ask.Leave end_ memory) old was now_ entry
  pub log_ : log.entries ≡ old.entries ++ entry ∷ []

-- what is left to do of an actor changes the cell of the gate that it leaves, and no other
abbrev pub LeavesCell : Last → ActorProgress → ActorLog → CellState Kept GateAsk GateReply
    → CellState Kept GateAsk GateReply → Type 0
LeavesCell (last.LeaveRecycled id end_ memory) old log was now_ = HasLeftGate id end_ memory old log was now_
LeavesCell l old log was now_ = now_ ≡ was
