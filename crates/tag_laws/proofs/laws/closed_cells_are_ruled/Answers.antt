use Rattle.tag_laws.proofs.ClosedCells.{closed_cells_are_ruled}
use Rattle.tag_laws.proofs.laws.closed_cells_are_ruled.Goals as goal

pub returns : goal.returns
returns c = closed_cells_are_ruled
