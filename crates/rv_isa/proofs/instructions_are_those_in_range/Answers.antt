use Rattle.rv_isa.proofs.Rows.{IsOfRow-in_range, IsInRange-of_row}
use Rattle.rv_isa.proofs.Words.{HasRegisters-of_row}
use Rattle.rv_isa.proofs.instructions_are_those_in_range.Goals as goal

pub returns-clause-range : goal.returns-clause-range
returns-clause-range c = λ i. (IsInRange-of_row i, IsOfRow-in_range i)

pub returns-clause-registers : goal.returns-clause-registers
returns-clause-registers c = HasRegisters-of_row
