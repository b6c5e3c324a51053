use Rattle.sheet_enforce.proofs.Permitted.{own_sheets_permit}
use Rattle.sheet_enforce.proofs.laws.own_sheets_permit.Goals as goal

pub returns : goal.returns
returns c = own_sheets_permit
