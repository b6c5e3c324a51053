use Rattle.rv_isa.proofs.Rows.{one_operation}
use Rattle.rv_isa.proofs.rows_are_apart.Goals as goal

pub returns : goal.returns
returns c = λ word o p h k. one_operation word o p h k
