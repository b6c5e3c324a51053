-- Which operands an instruction of a form may have. Sections 2.2 and 2.3 of the manual.
use Rattle.std.specs.Prelude.{ℕ, ◌-◌, ◌%◌, ◌^◌, ◌<◌, ◌≡◌, ℤ, pos, negsuc, ◌≤ℤ◌}
use Rattle.rv_isa.specs.Numbers.{word_of}
use Rattle.rv_isa.specs.declared.Form.{Form}
use Rattle.rv_isa.specs.declared.Form.TheVariants as form
use Rattle.rv_isa.specs.declared.Instr.{Instr}
use Rattle.rv_isa.specs.Table.{form_of}

-- the operands that a form allows: registers below a limit (a limit of 1 allows register 0 only),
-- and an immediate from `low` to `high` that is a multiple of `step`
pub record Ranges : Type 0 where
  pub rd : ℕ
  pub rs1 : ℕ
  pub rs2 : ℕ
  pub low : ℤ
  pub high : ℤ
  pub step : ℕ

abbrev pub to : ℕ → ℕ → ℕ → ℤ → ℤ → ℕ → Ranges
to rd rs1 rs2 low high step = record { rd = rd; rs1 = rs1; rs2 = rs2; low = low; high = high; step = step }

-- `negsuc n` is -(n + 1)
abbrev pub ranges : Form → Ranges
ranges form.Upper = to 32 1 1 (negsuc (2 ^ 31 - 1)) (pos (2 ^ 31 - 2 ^ 12)) (2 ^ 12)
ranges form.Jump = to 32 1 1 (negsuc (2 ^ 20 - 1)) (pos (2 ^ 20 - 2)) 2
ranges form.Branch = to 1 32 32 (negsuc (2 ^ 12 - 1)) (pos (2 ^ 12 - 2)) 2
ranges form.Offset = to 32 32 1 (negsuc (2 ^ 11 - 1)) (pos (2 ^ 11 - 1)) 1
ranges form.Store = to 1 32 32 (negsuc (2 ^ 11 - 1)) (pos (2 ^ 11 - 1)) 1
ranges form.Immediate = to 32 32 1 (negsuc (2 ^ 11 - 1)) (pos (2 ^ 11 - 1)) 1
ranges form.Shift = to 32 32 1 (pos 0) (pos 31) 1
ranges form.Register = to 32 32 32 (pos 0) (pos 0) 1
ranges form.Whole = to 1 1 1 (pos 0) (pos 0) 1

pub record HasOperandsIn (r : Ranges) (i : Instr) : Type 0 where
  pub rd : i.rd < r.rd
  pub rs1 : i.rs1 < r.rs1
  pub rs2 : i.rs2 < r.rs2
  pub low : r.low ≤ℤ i.imm
  pub high : i.imm ≤ℤ r.high
  pub step : word_of i.imm % r.step ≡ 0

-- each operand is in the range that the form has for it
abbrev pub IsInRange : Instr → Type 0
IsInRange i = HasOperandsIn (ranges (form_of i.op)) i
