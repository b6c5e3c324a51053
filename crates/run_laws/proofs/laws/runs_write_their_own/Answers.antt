use Rattle.run_laws.proofs.Writing.{runs_write_their_own}
use Rattle.run_laws.proofs.laws.runs_write_their_own.Goals as goal

pub returns : goal.returns
returns c = runs_write_their_own
