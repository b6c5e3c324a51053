use Rattle.tag_laws.proofs.SlotHistories.{ruled_cells_agree}
use Rattle.tag_laws.proofs.laws.ruled_cells_agree.Goals as goal

pub returns : goal.returns
returns c = ruled_cells_agree
