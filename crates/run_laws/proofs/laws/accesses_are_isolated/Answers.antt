use Rattle.run_laws.proofs.Isolation.{isolated}
use Rattle.run_laws.proofs.laws.accesses_are_isolated.Goals as goal

pub returns : goal.returns
returns c = isolated
