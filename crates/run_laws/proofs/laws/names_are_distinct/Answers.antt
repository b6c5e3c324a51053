use Rattle.run_laws.proofs.FamilyRuns.{names_distinct}
use Rattle.run_laws.proofs.laws.names_are_distinct.Goals as goal

pub returns : goal.returns
returns c = names_distinct
