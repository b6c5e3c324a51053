use Rattle.run_laws.proofs.RootBegins.{root_begins}
use Rattle.run_laws.proofs.laws.root_begins_as_declared.Goals as goal

pub returns : goal.returns
returns c = root_begins
