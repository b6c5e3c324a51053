-- The instruction table of RV32I and the M extension: which words are instructions, and which ones.
-- RISC-V Unprivileged ISA manual, document 20191213: chapter 2 (RV32I), chapter 7 (M), chapter 24
-- (the listings).
use Rattle.std.specs.Prelude.{ℕ, ◌+◌, ◌*◌, ◌/◌, ◌^◌, ◌<◌, ◌≡◌, ◌==◌, ℤ, pos, Bool, true, ◌&&◌, not, List, [], ◌∷◌, find, Option, Some, map, option_map, bit_and}
use Rattle.std.specs.List.{list_all}
use Rattle.rv_isa.specs.Numbers.{field, signed}
use Rattle.rv_isa.specs.declared.Op.{Op}
use Rattle.rv_isa.specs.declared.Op.TheVariants as op
use Rattle.rv_isa.specs.declared.Form.{Form}
use Rattle.rv_isa.specs.declared.Form.TheVariants as form
use Rattle.rv_isa.specs.declared.Instr.{Instr}

-- a row: an operation, its form, a mask of the bits that are fixed in its words, and their values
pub record Row : Type 0 where
  pub op : Op
  pub form : Form
  pub mask : ℕ
  pub value : ℕ

abbrev pub row : Op → Form → ℕ → ℕ → Row
row op form mask value = record { op = op; form = form; mask = mask; value = value }

-- the row of an operation
abbrev pub row_for : Op → Row
row_for op.Lui = row op.Lui form.Upper 0x7f 0x37
row_for op.Auipc = row op.Auipc form.Upper 0x7f 0x17
row_for op.Jal = row op.Jal form.Jump 0x7f 0x6f
row_for op.Jalr = row op.Jalr form.Offset 0x707f 0x67
row_for op.Beq = row op.Beq form.Branch 0x707f 0x63
row_for op.Bne = row op.Bne form.Branch 0x707f 0x1063
row_for op.Blt = row op.Blt form.Branch 0x707f 0x4063
row_for op.Bge = row op.Bge form.Branch 0x707f 0x5063
row_for op.Bltu = row op.Bltu form.Branch 0x707f 0x6063
row_for op.Bgeu = row op.Bgeu form.Branch 0x707f 0x7063
row_for op.Lb = row op.Lb form.Offset 0x707f 0x3
row_for op.Lh = row op.Lh form.Offset 0x707f 0x1003
row_for op.Lw = row op.Lw form.Offset 0x707f 0x2003
row_for op.Lbu = row op.Lbu form.Offset 0x707f 0x4003
row_for op.Lhu = row op.Lhu form.Offset 0x707f 0x5003
row_for op.Sb = row op.Sb form.Store 0x707f 0x23
row_for op.Sh = row op.Sh form.Store 0x707f 0x1023
row_for op.Sw = row op.Sw form.Store 0x707f 0x2023
row_for op.Addi = row op.Addi form.Immediate 0x707f 0x13
row_for op.Slti = row op.Slti form.Immediate 0x707f 0x2013
row_for op.Sltiu = row op.Sltiu form.Immediate 0x707f 0x3013
row_for op.Xori = row op.Xori form.Immediate 0x707f 0x4013
row_for op.Ori = row op.Ori form.Immediate 0x707f 0x6013
row_for op.Andi = row op.Andi form.Immediate 0x707f 0x7013
row_for op.Slli = row op.Slli form.Shift 0xfe00707f 0x1013
row_for op.Srli = row op.Srli form.Shift 0xfe00707f 0x5013
row_for op.Srai = row op.Srai form.Shift 0xfe00707f 0x40005013
row_for op.Add = row op.Add form.Register 0xfe00707f 0x33
row_for op.Sll = row op.Sll form.Register 0xfe00707f 0x1033
row_for op.Slt = row op.Slt form.Register 0xfe00707f 0x2033
row_for op.Sltu = row op.Sltu form.Register 0xfe00707f 0x3033
row_for op.Xor = row op.Xor form.Register 0xfe00707f 0x4033
row_for op.Srl = row op.Srl form.Register 0xfe00707f 0x5033
row_for op.Or = row op.Or form.Register 0xfe00707f 0x6033
row_for op.And = row op.And form.Register 0xfe00707f 0x7033
row_for op.Sub = row op.Sub form.Register 0xfe00707f 0x40000033
row_for op.Sra = row op.Sra form.Register 0xfe00707f 0x40005033
row_for op.Mul = row op.Mul form.Register 0xfe00707f 0x2000033
row_for op.Mulh = row op.Mulh form.Register 0xfe00707f 0x2001033
row_for op.Mulhsu = row op.Mulhsu form.Register 0xfe00707f 0x2002033
row_for op.Mulhu = row op.Mulhu form.Register 0xfe00707f 0x2003033
row_for op.Div = row op.Div form.Register 0xfe00707f 0x2004033
row_for op.Divu = row op.Divu form.Register 0xfe00707f 0x2005033
row_for op.Rem = row op.Rem form.Register 0xfe00707f 0x2006033
row_for op.Remu = row op.Remu form.Register 0xfe00707f 0x2007033
row_for op.Fence = row op.Fence form.Immediate 0x707f 0xf
row_for op.Ecall = row op.Ecall form.Whole 0xffffffff 0x73
row_for op.Ebreak = row op.Ebreak form.Whole 0xffffffff 0x100073

-- every operation
abbrev pub ops : List Op
ops =
    op.Lui ∷ op.Auipc ∷ op.Jal ∷ op.Jalr ∷
    op.Beq ∷ op.Bne ∷ op.Blt ∷ op.Bge ∷ op.Bltu ∷ op.Bgeu ∷
    op.Lb ∷ op.Lh ∷ op.Lw ∷ op.Lbu ∷ op.Lhu ∷ op.Sb ∷ op.Sh ∷ op.Sw ∷
    op.Addi ∷ op.Slti ∷ op.Sltiu ∷ op.Xori ∷ op.Ori ∷ op.Andi ∷ op.Slli ∷ op.Srli ∷ op.Srai ∷
    op.Add ∷ op.Sll ∷ op.Slt ∷ op.Sltu ∷ op.Xor ∷ op.Srl ∷ op.Or ∷ op.And ∷ op.Sub ∷ op.Sra ∷
    op.Mul ∷ op.Mulh ∷ op.Mulhsu ∷ op.Mulhu ∷ op.Div ∷ op.Divu ∷ op.Rem ∷ op.Remu ∷
    op.Fence ∷ op.Ecall ∷ op.Ebreak ∷ []

-- the table
abbrev pub rows : List Row
rows = map row_for ops

-- the form of an operation: which operands it has, and in which bits of the word they are
abbrev pub form_of : Op → Form
form_of o = (row_for o).form

-- whether the word has the row's fixed fields
abbrev pub has_fields : ℕ → Row → Bool
has_fields word r = bit_and word r.mask == r.value

-- the row of a word, if it has one
unfoldable pub row_of : ℕ → Option Row
row_of word = find (has_fields word) rows

-- the immediates, as section 2.3 of the manual puts them together
abbrev pub upper_imm : ℕ → ℤ
upper_imm w = signed 32 (w / 2 ^ 12 * 2 ^ 12)

abbrev pub jump_imm : ℕ → ℤ
jump_imm w = signed 21 (field w 31 1 * 2 ^ 20 + field w 12 8 * 2 ^ 12 + field w 20 1 * 2 ^ 11 + field w 21 10 * 2)

abbrev pub branch_imm : ℕ → ℤ
branch_imm w = signed 13 (field w 31 1 * 2 ^ 12 + field w 7 1 * 2 ^ 11 + field w 25 6 * 2 ^ 5 + field w 8 4 * 2)

abbrev pub immediate : ℕ → ℤ
immediate w = signed 12 (field w 20 12)

abbrev pub store_imm : ℕ → ℤ
store_imm w = signed 12 (field w 25 7 * 2 ^ 5 + field w 7 5)

abbrev pub rd : ℕ → ℕ
rd w = field w 7 5

abbrev pub rs1 : ℕ → ℕ
rs1 w = field w 15 5

abbrev pub rs2 : ℕ → ℕ
rs2 w = field w 20 5

abbrev pub instr : Op → ℕ → ℕ → ℕ → ℤ → Instr
instr op rd rs1 rs2 imm = record { op = op; rd = rd; rs1 = rs1; rs2 = rs2; imm = imm }

-- the operands that a form takes from a word; one that it lacks is 0
abbrev pub instr_of_form : Form → Op → ℕ → Instr
instr_of_form form.Upper o w = instr o (rd w) 0 0 (upper_imm w)
instr_of_form form.Jump o w = instr o (rd w) 0 0 (jump_imm w)
instr_of_form form.Branch o w = instr o 0 (rs1 w) (rs2 w) (branch_imm w)
instr_of_form form.Offset o w = instr o (rd w) (rs1 w) 0 (immediate w)
instr_of_form form.Store o w = instr o 0 (rs1 w) (rs2 w) (store_imm w)
instr_of_form form.Immediate o w = instr o (rd w) (rs1 w) 0 (immediate w)
instr_of_form form.Shift o w = instr o (rd w) (rs1 w) 0 (pos (field w 20 5))
instr_of_form form.Register o w = instr o (rd w) (rs1 w) (rs2 w) (pos 0)
instr_of_form form.Whole o w = instr o 0 0 0 (pos 0)

-- the instruction of a word that has this row
abbrev pub instr_at : ℕ → Row → Instr
instr_at word r = instr_of_form (form_of r.op) r.op word

-- the instruction that a word encodes, if the word has a row
abbrev pub decode : ℕ → Option Instr
decode word = option_map (instr_at word) (row_of word)

-- whether no word has the fixed fields of both rows
abbrev pub are_apart : Row → Row → Bool
are_apart r s = not (bit_and r.value s.mask == bit_and s.value r.mask)

abbrev pub each_apart : List Row → Bool
each_apart [] = true
each_apart (r ∷ rs) = list_all (are_apart r) rs && each_apart rs

-- some word decodes to the instruction
pub record IsOfRow (i : Instr) : Type 0 where
  pub word : ℕ
  pub fits : word < 2 ^ 32
  pub is : decode word ≡ Some i

-- each register of the instruction is one of the 32
pub record HasRegisters (i : Instr) : Type 0 where
  pub rd : i.rd < 32
  pub rs1 : i.rs1 < 32
  pub rs2 : i.rs2 < 32
