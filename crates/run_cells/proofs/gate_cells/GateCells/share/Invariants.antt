use Rattle.std.proofs.Common.{◌≡◌, ◌≤◌, ◌-◌, length, take}
use Rattle.run_cells.proofs.gate_cells.GateCells.share.Given as goal

abbrev pub invariant-loop-list : goal.invariant-loop-list
invariant-loop-list g l = (l.list.items ≡ take (length l.list.items) l.fn.self.gates) × (length l.list.items ≤ length l.fn.self.gates)

abbrev pub decreases-loop-list : goal.decreases-loop-list
decreases-loop-list g l = length l.fn.self.gates - length l.list.items
