use Rattle.run_laws.proofs.FittingAsks.{asks_fit}
use Rattle.run_laws.proofs.laws.asks_fit_their_cells.Goals as goal

pub returns : goal.returns
returns c = asks_fit
