-- The assembler text of an instruction. Chapter 25 of the manual has the registers' names.
use Rattle.std.specs.Prelude.{ℕ, ◌/◌, ◌^◌, List, [], ◌∷◌, ◌++◌, codes, false, slice_index_or}
use Rattle.std.specs.Fmt.{digits, signed_decimal}
use Rattle.rv_isa.specs.Numbers.{word_of}
use Rattle.rv_isa.specs.declared.Op.{Op}
use Rattle.rv_isa.specs.declared.Op.TheVariants as op
use Rattle.rv_isa.specs.declared.Form.{Form}
use Rattle.rv_isa.specs.declared.Form.TheVariants as form
use Rattle.rv_isa.specs.declared.Instr.{Instr}
use Rattle.rv_isa.specs.Table.{form_of}

abbrev pub register_names : List (List ℕ)
register_names =
    codes "zero" ∷ codes "ra" ∷ codes "sp" ∷ codes "gp" ∷ codes "tp" ∷ codes "t0" ∷ codes "t1" ∷ codes "t2" ∷
    codes "s0" ∷ codes "s1" ∷ codes "a0" ∷ codes "a1" ∷ codes "a2" ∷ codes "a3" ∷ codes "a4" ∷ codes "a5" ∷
    codes "a6" ∷ codes "a7" ∷ codes "s2" ∷ codes "s3" ∷ codes "s4" ∷ codes "s5" ∷ codes "s6" ∷ codes "s7" ∷
    codes "s8" ∷ codes "s9" ∷ codes "s10" ∷ codes "s11" ∷ codes "t3" ∷ codes "t4" ∷ codes "t5" ∷ codes "t6" ∷
    []

abbrev pub register_name : ℕ → List ℕ
register_name n = slice_index_or register_names n []

-- the mnemonic of an operation. Chapter 24 of the manual
abbrev pub mnemonic : Op → List ℕ
mnemonic op.Lui = codes "lui"
mnemonic op.Auipc = codes "auipc"
mnemonic op.Jal = codes "jal"
mnemonic op.Jalr = codes "jalr"
mnemonic op.Beq = codes "beq"
mnemonic op.Bne = codes "bne"
mnemonic op.Blt = codes "blt"
mnemonic op.Bge = codes "bge"
mnemonic op.Bltu = codes "bltu"
mnemonic op.Bgeu = codes "bgeu"
mnemonic op.Lb = codes "lb"
mnemonic op.Lh = codes "lh"
mnemonic op.Lw = codes "lw"
mnemonic op.Lbu = codes "lbu"
mnemonic op.Lhu = codes "lhu"
mnemonic op.Sb = codes "sb"
mnemonic op.Sh = codes "sh"
mnemonic op.Sw = codes "sw"
mnemonic op.Addi = codes "addi"
mnemonic op.Slti = codes "slti"
mnemonic op.Sltiu = codes "sltiu"
mnemonic op.Xori = codes "xori"
mnemonic op.Ori = codes "ori"
mnemonic op.Andi = codes "andi"
mnemonic op.Slli = codes "slli"
mnemonic op.Srli = codes "srli"
mnemonic op.Srai = codes "srai"
mnemonic op.Add = codes "add"
mnemonic op.Sll = codes "sll"
mnemonic op.Slt = codes "slt"
mnemonic op.Sltu = codes "sltu"
mnemonic op.Xor = codes "xor"
mnemonic op.Srl = codes "srl"
mnemonic op.Or = codes "or"
mnemonic op.And = codes "and"
mnemonic op.Sub = codes "sub"
mnemonic op.Sra = codes "sra"
mnemonic op.Mul = codes "mul"
mnemonic op.Mulh = codes "mulh"
mnemonic op.Mulhsu = codes "mulhsu"
mnemonic op.Mulhu = codes "mulhu"
mnemonic op.Div = codes "div"
mnemonic op.Divu = codes "divu"
mnemonic op.Rem = codes "rem"
mnemonic op.Remu = codes "remu"
mnemonic op.Fence = codes "fence"
mnemonic op.Ecall = codes "ecall"
mnemonic op.Ebreak = codes "ebreak"

-- the upper 20 bits of the immediate
abbrev pub upper : Instr → ℕ
upper i = word_of i.imm / 2 ^ 12

-- the operands as they are written after the mnemonic
abbrev pub operand_text : Form → Instr → List ℕ
operand_text form.Upper i = codes " " ++ register_name i.rd ++ codes ", 0x" ++ digits 16 false (upper i)
operand_text form.Jump i = codes " " ++ register_name i.rd ++ codes ", " ++ signed_decimal i.imm
operand_text form.Branch i =
    codes " " ++ register_name i.rs1 ++ codes ", " ++ register_name i.rs2 ++ codes ", " ++ signed_decimal i.imm
operand_text form.Offset i =
    codes " " ++ register_name i.rd ++ codes ", " ++
    signed_decimal i.imm ++ codes "(" ++ register_name i.rs1 ++ codes ")"
operand_text form.Store i =
    codes " " ++ register_name i.rs2 ++ codes ", " ++
    signed_decimal i.imm ++ codes "(" ++ register_name i.rs1 ++ codes ")"
operand_text form.Immediate i =
    codes " " ++ register_name i.rd ++ codes ", " ++ register_name i.rs1 ++ codes ", " ++ signed_decimal i.imm
operand_text form.Shift i =
    codes " " ++ register_name i.rd ++ codes ", " ++ register_name i.rs1 ++ codes ", " ++ signed_decimal i.imm
operand_text form.Register i =
    codes " " ++ register_name i.rd ++ codes ", " ++ register_name i.rs1 ++ codes ", " ++ register_name i.rs2
operand_text form.Whole i = []

abbrev pub text : Instr → List ℕ
text i = mnemonic i.op ++ operand_text (form_of i.op) i
