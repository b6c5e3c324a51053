use Rattle.grant_sheet.proofs.RootSheets.{root_declared}
use Rattle.grant_sheet.proofs.laws.root_sheets_are_declared.Goals as goal

pub returns : goal.returns
returns c = root_declared
