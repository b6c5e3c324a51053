use Rattle.grant_sheet.proofs.Missing.{names_missing}
use Rattle.grant_sheet.proofs.laws.excess_names_the_missing_grant.Goals as goal

pub returns : goal.returns
returns c = names_missing
