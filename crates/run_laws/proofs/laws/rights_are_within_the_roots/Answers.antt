use Rattle.run_laws.proofs.BoundedGates.{root_bounds}
use Rattle.run_laws.proofs.laws.rights_are_within_the_roots.Goals as goal

pub returns : goal.returns
returns c = root_bounds
