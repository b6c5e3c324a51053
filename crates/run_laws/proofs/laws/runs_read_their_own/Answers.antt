use Rattle.run_laws.proofs.Readers.{runs_read_their_own}
use Rattle.run_laws.proofs.laws.runs_read_their_own.Goals as goal

pub returns : goal.returns
returns c = runs_read_their_own
