use Rattle.grant_sheet.proofs.Editing.{one_grant_taken}
use Rattle.grant_sheet.proofs.laws.drafts_take_one_grant.Goals as goal

pub returns : goal.returns
returns c = one_grant_taken
