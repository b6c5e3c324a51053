use Rattle.std.proofs.Common.{◌≤◌, ◌-◌, length}
use Rattle.run_cells.specs.TagPasses.{AreUnentered}
use Rattle.run_cells.proofs.opening.tag_cells.Given as goal

abbrev pub invariant-loop-alloc : goal.invariant-loop-alloc
invariant-loop-alloc g l = (length l.cells.items ≤ l.count) × AreUnentered 0 l.cells.items

abbrev pub decreases-loop-alloc : goal.decreases-loop-alloc
decreases-loop-alloc g l = l.count - length l.cells.items
