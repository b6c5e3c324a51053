use Rattle.std.proofs.Common.{◌≡◌, drop}
use Rattle.run_cells.specs.RecycledGates.{has_cell}
use Rattle.run_cells.proofs.gate_cells.GateCells.find.Given as goal

abbrev pub invariant-loop-known : goal.invariant-loop-known
invariant-loop-known g l = has_cell (drop l.known-index l.fn.self.gates) l.fn.gate ≡ has_cell l.fn.self.gates l.fn.gate
