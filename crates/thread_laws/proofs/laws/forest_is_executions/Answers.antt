use Rattle.thread_laws.proofs.Forests.{forest_is_executions}
use Rattle.thread_laws.proofs.laws.forest_is_executions.Goals as goal

pub returns : goal.returns
returns c = forest_is_executions
