use Rattle.cli_inputs.proofs.OwnTraces.{own_traces_permit}
use Rattle.cli_inputs.proofs.enforcing.own_traces_permit.Goals as goal

pub returns : goal.returns
returns c = own_traces_permit
