use Rattle.std.proofs.Common.{◌+◌, ◌*◌, ◌%◌, arith}
use Rattle.ruled_cell.proofs.cells.RuledCells.bell.Goals as goal

pub returns-clause-odd : goal.returns-clause-odd
returns-clause-odd g c = (8 * c.self.inside.count + 8 + c.args.ticket % 256, omega arith)
