use Rattle.run_log.proofs.Makers.{makers_known}
use Rattle.run_log.proofs.laws.makers_are_of_the_run.Goals as goal

pub returns : goal.returns
returns c = makers_known
