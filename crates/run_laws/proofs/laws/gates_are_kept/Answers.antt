use Rattle.run_laws.proofs.KnownGates.{gates_kept}
use Rattle.run_laws.proofs.laws.gates_are_kept.Goals as goal

pub returns : goal.returns
returns c = gates_kept
