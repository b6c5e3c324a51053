use Rattle.run_laws.proofs.Walking.{roots_walk}
use Rattle.run_laws.proofs.laws.actors_walk.Goals as goal

pub returns : goal.returns
returns c = roots_walk
