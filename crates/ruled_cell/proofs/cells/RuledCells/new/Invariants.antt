use Rattle.std.proofs.Common.{◌≡◌, replicate}
use Rattle.ruled_cell.proofs.cells.RuledCells.new.Given as goal

abbrev pub invariant-loop : goal.invariant-loop
invariant-loop g l = l.words.items ≡ replicate l.counter 0
