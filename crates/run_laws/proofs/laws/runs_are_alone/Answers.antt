use Rattle.run_laws.proofs.GrantedCopies.{runs_alone}
use Rattle.run_laws.proofs.laws.runs_are_alone.Goals as goal

pub returns : goal.returns
returns c = runs_alone
