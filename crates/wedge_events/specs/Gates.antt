-- The cell of a recycled gate: whether a run is in it, and what the last run left.
use Rattle.std.specs.Prelude.{◌≡◌, Bool, true, false, Option, Some, None, unwrap_or}
use Rattle.cow_pages.specs.PrivateMemory.{PrivateMemory}
use Rattle.wedge_events.specs.declared.cells.GateAsk.{GateAsk}
use Rattle.wedge_events.specs.declared.cells.GateAsk.TheVariants as ask
use Rattle.wedge_events.specs.declared.cells.GateReply.{GateReply}
use Rattle.wedge_events.specs.declared.cells.GateReply.TheVariants as reply

-- whether a run is in the gate, and the memory that is kept for the next one
pub record Kept : Type 0 where
  pub entered : Bool
  pub kept : Option PrivateMemory

-- a gate begins free, with nothing kept
abbrev pub gate_opening : Kept
gate_opening = record { entered = false; kept = None }

-- Enter is answered with the memory that is kept, or else with the memory in the ask.
abbrev pub gate_reply : Kept → GateAsk → GateReply
gate_reply k (ask.Enter run memory) = reply.Entered (unwrap_or k.kept memory)
gate_reply k (ask.Leave end memory) = reply.Left

abbrev pub gate_next : Kept → GateAsk → Kept
gate_next k (ask.Enter run memory) = record { entered = true; kept = None }
gate_next k (ask.Leave end memory) = record { entered = false; kept = Some memory }

-- a run enters where the gate is free, and leaves where one is in it
abbrev pub GateFits : Kept → GateAsk → Type 0
GateFits k (ask.Enter run memory) = k.entered ≡ false
GateFits k (ask.Leave end memory) = k.entered ≡ true
