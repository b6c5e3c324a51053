use Rattle.std.proofs.Common.{◌+◌, ◌*◌, arith}
use Rattle.ruled_cell.proofs.cells.RuledCells.outside.Goals as goal

pub returns-clause-odd : goal.returns-clause-odd
returns-clause-odd g c = (8 * c.args.cell + 4, omega arith)
