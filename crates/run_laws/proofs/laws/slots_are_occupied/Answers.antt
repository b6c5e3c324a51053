use Rattle.run_laws.proofs.OccupiedRuns.{slots_occupied}
use Rattle.run_laws.proofs.laws.slots_are_occupied.Goals as goal

pub returns : goal.returns
returns c = slots_occupied
