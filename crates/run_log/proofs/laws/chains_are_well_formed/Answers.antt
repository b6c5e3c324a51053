use Rattle.run_log.proofs.FramedLogs.{chains_well_formed}
use Rattle.run_log.proofs.laws.chains_are_well_formed.Goals as goal

pub returns : goal.returns
returns c = chains_well_formed
