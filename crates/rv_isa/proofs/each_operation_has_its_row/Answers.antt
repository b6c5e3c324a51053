use Rattle.rv_isa.proofs.Rows.{own_row}
use Rattle.rv_isa.proofs.each_operation_has_its_row.Goals as goal

pub returns : goal.returns
returns c = own_row
