use Rattle.sheet_enforce.proofs.Permitted.{no_violation_is_permitted}
use Rattle.sheet_enforce.proofs.laws.no_violation_is_permitted.Goals as goal

pub returns : goal.returns
returns c = no_violation_is_permitted
