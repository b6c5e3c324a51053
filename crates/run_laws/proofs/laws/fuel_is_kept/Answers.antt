use Rattle.run_laws.proofs.FamilyRuns.{fuel_kept}
use Rattle.run_laws.proofs.WorkLeft.{runs_end}
use Rattle.run_laws.proofs.laws.fuel_is_kept.Goals as goal

pub returns-clause-sum : goal.returns-clause-sum
returns-clause-sum c = fuel_kept

pub returns-clause-ends : goal.returns-clause-ends
returns-clause-ends c = runs_end
