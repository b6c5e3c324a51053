use Rattle.run_laws.proofs.Opening.{cells_open}
use Rattle.run_laws.proofs.laws.cells_open_by_their_rules.Goals as goal

pub returns : goal.returns
returns c = cells_open
