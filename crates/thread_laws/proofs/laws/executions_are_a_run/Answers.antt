use Rattle.thread_laws.proofs.Merging.{executions_are_a_run}
use Rattle.thread_laws.proofs.laws.executions_are_a_run.Goals as goal

pub returns : goal.returns
returns c = executions_are_a_run
