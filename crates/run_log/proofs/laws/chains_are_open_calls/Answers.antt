use Rattle.run_log.proofs.OpenCalls.{open_calls}
use Rattle.run_log.proofs.laws.chains_are_open_calls.Goals as goal

pub returns : goal.returns
returns c = open_calls
