use Rattle.std.proofs.Common.{rules}
use Rattle.ruled_cell.proofs.PassSteps.{splits, numbers_it}
use Rattle.ruled_cell.proofs.cells.RuledCells.split.Goals as goal

pub split_seat-seat-requires : goal.split_seat-seat-requires
split_seat-seat-requires g c = let idle = c.pass.invariant.1 in (search rules, search rules, splits _ _ _ _ _ idle.2 idle.1)

pub load-requires : goal.load-requires
load-requires g c = (search rules, search rules, numbers_it _ _ _ _ _ _)
