-- The statement of a line, in which names have no values yet.
use Rattle.std.specs.Prelude.{ℕ, Bool, List}
use Rattle.rv_isa.specs.declared.Op.{Op}
use Rattle.rv_asm.specs.Numbers.{Number}
use Rattle.wedge_base.specs.declared.service.Service as service
use Rattle.rv_asm.specs.declared.fault.Why.{Why}

-- an instruction whose immediate is an operand that may be a name; an operand that its form lacks
-- is 0
pub record Template : Type 0 where
  pub op : Op
  pub rd : ℕ
  pub rs1 : ℕ
  pub rs2 : ℕ
  pub imm : Number

abbrev pub template : Op → ℕ → ℕ → ℕ → Number → Template
template op rd rs1 rs2 imm = record { op = op; rd = rd; rs1 = rs1; rs2 = rs2; imm = imm }

-- `Label` and `Procedure` carry the name, and whether the line is well formed. `Faulty` is a line
-- that is invalid whatever its names mean, with the reason and the number of words that it counts.
-- `FaultyLoad` is an `li` whose operands are invalid but whose second is a number: it counts the
-- words that the number takes.
pub data Statement : Type 0 where
  Blank : Statement
  Label : List ℕ → Bool → Statement
  Procedure : List ℕ → Bool → Statement
  Word : Number → Statement
  Instruction : Template → Statement
  LoadNumber : ℕ → Number → Statement
  LoadAddress : ℕ → List ℕ → Statement
  Service : service.Service → Statement
  Faulty : Why → ℕ → Statement
  FaultyLoad : Number → Statement
