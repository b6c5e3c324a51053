-- Instructions by their mnemonics, and registers by their names: chapters 24 and 25 of the manual.
use Rattle.std.specs.Prelude.{ℕ, zero, suc, ℤ, pos, negsuc, List, [], ◌∷◌}
use Rattle.wedge_base.specs.declared.service.Service.{Service}
use Rattle.wedge_base.specs.Services.{service_number}
use Rattle.rv_isa.specs.declared.Op.TheVariants as op
use Rattle.rv_isa.specs.declared.Instr.{Instr}
use Rattle.rv_isa.specs.Table.{instr}

-- ---- the numbers of the registers

abbrev pub x0 : ℕ
x0 = 0

abbrev pub sp : ℕ
sp = 2

abbrev pub t0 : ℕ
t0 = 5

abbrev pub s0 : ℕ
s0 = 8

abbrev pub s1 : ℕ
s1 = 9

abbrev pub a0 : ℕ
a0 = 10

abbrev pub a1 : ℕ
a1 = 11

abbrev pub a2 : ℕ
a2 = 12

abbrev pub a3 : ℕ
a3 = 13

abbrev pub a7 : ℕ
a7 = 17

abbrev pub s2 : ℕ
s2 = 18

abbrev pub s3 : ℕ
s3 = 19

-- ---- instructions

-- an immediate of -n
abbrev pub minus : ℕ → ℤ
minus zero = pos 0
minus (suc n) = negsuc n

abbrev pub addi : ℕ → ℕ → ℤ → Instr
addi rd rs imm = instr op.Addi rd rs 0 imm

-- rd becomes n, which is below 2,048
abbrev pub li : ℕ → ℕ → Instr
li rd n = addi rd x0 (pos n)

abbrev pub mv : ℕ → ℕ → Instr
mv rd rs = addi rd rs (pos 0)

-- rd becomes n, whose low 12 bits are 0
abbrev pub lui : ℕ → ℕ → Instr
lui rd n = instr op.Lui rd 0 0 (pos n)

abbrev pub add : ℕ → ℕ → ℕ → Instr
add rd rs1 rs2 = instr op.Add rd rs1 rs2 (pos 0)

-- the word at the address in a register is loaded into rd, or is stored
abbrev pub lw : ℕ → ℕ → Instr
lw rd base = instr op.Lw rd base 0 (pos 0)

abbrev pub sw : ℕ → ℕ → Instr
sw rs base = instr op.Sw 0 base rs (pos 0)

-- a jump over so many bytes, if rs is 0, and one that is always taken
abbrev pub beqz : ℕ → ℕ → Instr
beqz rs distance = instr op.Beq 0 rs x0 (pos distance)

abbrev pub j : ℤ → Instr
j distance = instr op.Jal x0 0 0 distance

abbrev pub ecall : Instr
ecall = instr op.Ecall 0 0 0 (pos 0)

-- a service call: its number in a7, and ECALL
abbrev pub svc : Service → List Instr
svc s = li a7 (service_number s) ∷ ecall ∷ []
