-- A gate that an actor is about to enter.

use Rattle.callgate.specs.declared.gate.Gate.{Gate}
use Rattle.wedge_base.specs.Sheets.{Sheet}

-- the gate, and the sheet with which its run begins: the gate's, with what the caller lends
pub record Entrance : Type 0 where
  pub gate : Gate
  pub sheet : Sheet
