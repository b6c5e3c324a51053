use Rattle.std.proofs.Common.{◌≡◌, ◌≤◌, ◌-◌, length, map}
use Rattle.std.specs.Arc.{arc_value}
use Rattle.run_cells.specs.RecycledGates.{HasCells}
use Rattle.run_cells.proofs.gate_cells.GateCells.create_for.Given as goal

abbrev pub invariant-loop-self : goal.invariant-loop-self
invariant-loop-self g l = HasCells l.self (map arc_value l.gates) × (l.self.seen ≤ length l.gates) × (l.self.inherited ≡ l.fn.self.inherited)

abbrev pub decreases-loop-self : goal.decreases-loop-self
decreases-loop-self g l = length l.gates - l.self.seen
