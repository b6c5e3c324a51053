-- The local step of a hart: what an instruction does to its registers and pc, or the one thing that
-- it needs first. RISC-V Unprivileged ISA manual, document 20191213, chapters 2 and 7.
use Rattle.std.specs.Prelude.{ℕ, ◌≡◌, ◌⊎◌, ◌+◌, ◌*◌, ◌/◌, ◌%◌, ◌^◌, ◌==◌, Bool, true, false, not, List, Option, Some, None, pos, ◌+ℤ◌, int_lt, nat_lt, bit_and, bit_or, bit_xor, slice_index, slice_set, if◌then◌else◌}
use Rattle.rv_isa.specs.Numbers.{signed}
use Rattle.rv_isa.specs.declared.Op.{Op}
use Rattle.rv_isa.specs.declared.Op.TheVariants as op
use Rattle.rv_isa.specs.declared.Instr.{Instr}
use Rattle.rv_hart.specs.declared.Hart.{Hart}
use Rattle.rv_hart.specs.declared.Need.{Need}
use Rattle.rv_hart.specs.declared.Need.TheVariants as need
use Rattle.rv_hart.specs.declared.Reply.{Reply}
use Rattle.rv_hart.specs.declared.Reply.TheVariants as reply
use Rattle.rv_hart.specs.Alu as alu

-- a pc, and the list of the registers
abbrev pub HartState : Type 0
HartState = Hart

-- register 0 reads 0
abbrev pub reg : List ℕ → ℕ → ℕ
reg regs n = if n == 0 then 0 else slice_index regs n

-- sets a register; register 0 is never changed
abbrev pub put : List ℕ → ℕ → ℕ → List ℕ
put regs n value = if n == 0 then regs else slice_set regs n value

-- the hart once its step has begun, and what the step still needs
pub record Began : Type 0 where
  pub hart : HartState
  pub need : Need

abbrev pub next_pc : ℕ → ℕ
next_pc pc = (pc + 4) % 2 ^ 32

-- the step is complete: rd is set, and pc advances by 4
abbrev pub sets : Instr → HartState → ℕ → Began
sets i h value = record { hart = record { pc = next_pc h.pc; regs = put h.regs i.rd value }; need = need.Done }

-- the step is complete: pc advances by 4
abbrev pub advances_pc : HartState → Began
advances_pc h = record { hart = record h { pc = next_pc h.pc }; need = need.Done }

-- the step needs this first, and nothing is changed yet
abbrev pub needs_first : HartState → Need → Began
needs_first h n = record { hart = h; need = n }

-- a jump: pc becomes the target, and rd the return address; where the target is no multiple of 4,
-- nothing is changed
abbrev pub goes : Instr → HartState → ℕ → Began
goes i h target =
    if target % 4 == 0
    then record { hart = record { pc = target; regs = put h.regs i.rd (next_pc h.pc) }; need = need.Done }
    else needs_first h need.JumpMisaligned

-- a taken branch: the same without a return address
abbrev pub turns : HartState → ℕ → Began
turns h target =
    if target % 4 == 0 then record { hart = record h { pc = target }; need = need.Done }
    else needs_first h need.JumpMisaligned

-- a branch, whose offset is from its own pc
abbrev pub branches : Instr → HartState → Bool → Began
branches i h taken = if taken then turns h (alu.as_word (pos h.pc +ℤ i.imm)) else advances_pc h

-- the values of rs1 and of rs2
abbrev pub a : Instr → HartState → ℕ
a i h = reg h.regs i.rs1

abbrev pub b : Instr → HartState → ℕ
b i h = reg h.regs i.rs2

-- rs1 plus the immediate, modulo 2^32: the address of a load or a store, or the target of JALR
-- before its bit 0 is cleared
abbrev pub address : Instr → HartState → ℕ
address i h = alu.as_word (pos (reg h.regs i.rs1) +ℤ i.imm)

-- the immediate as a word
abbrev pub imm_word : Instr → ℕ
imm_word i = alu.as_word i.imm

-- the step of an instruction, one line an operation
unfoldable pub local : Instr → HartState → Began
local i h = elim i.op [
  | op.Lui ↦ sets i h (imm_word i)
  | op.Auipc ↦ sets i h (alu.add h.pc (imm_word i))
  | op.Jal ↦ goes i h (alu.as_word (pos h.pc +ℤ i.imm))
  | op.Jalr ↦ goes i h (address i h / 2 * 2)
  | op.Beq ↦ branches i h (a i h == b i h)
  | op.Bne ↦ branches i h (not (a i h == b i h))
  | op.Blt ↦ branches i h (int_lt (alu.as_signed (a i h)) (alu.as_signed (b i h)))
  | op.Bge ↦ branches i h (not (int_lt (alu.as_signed (a i h)) (alu.as_signed (b i h))))
  | op.Bltu ↦ branches i h (nat_lt (a i h) (b i h))
  | op.Bgeu ↦ branches i h (not (nat_lt (a i h) (b i h)))
  | op.Lb ↦ needs_first h (need.Load (address i h) 1 true)
  | op.Lh ↦ needs_first h (need.Load (address i h) 2 true)
  | op.Lw ↦ needs_first h (need.Load (address i h) 4 false)
  | op.Lbu ↦ needs_first h (need.Load (address i h) 1 false)
  | op.Lhu ↦ needs_first h (need.Load (address i h) 2 false)
  | op.Sb ↦ needs_first h (need.Store (address i h) 1 (b i h))
  | op.Sh ↦ needs_first h (need.Store (address i h) 2 (b i h))
  | op.Sw ↦ needs_first h (need.Store (address i h) 4 (b i h))
  | op.Addi ↦ sets i h (alu.add (a i h) (imm_word i))
  | op.Slti ↦ sets i h (alu.slt (a i h) (imm_word i))
  | op.Sltiu ↦ sets i h (alu.sltu (a i h) (imm_word i))
  | op.Xori ↦ sets i h (bit_xor (a i h) (imm_word i))
  | op.Ori ↦ sets i h (bit_or (a i h) (imm_word i))
  | op.Andi ↦ sets i h (bit_and (a i h) (imm_word i))
  | op.Slli ↦ sets i h (alu.sll (a i h) (imm_word i))
  | op.Srli ↦ sets i h (alu.srl (a i h) (imm_word i))
  | op.Srai ↦ sets i h (alu.sra (a i h) (imm_word i))
  | op.Add ↦ sets i h (alu.add (a i h) (b i h))
  | op.Sll ↦ sets i h (alu.sll (a i h) (b i h))
  | op.Slt ↦ sets i h (alu.slt (a i h) (b i h))
  | op.Sltu ↦ sets i h (alu.sltu (a i h) (b i h))
  | op.Xor ↦ sets i h (bit_xor (a i h) (b i h))
  | op.Srl ↦ sets i h (alu.srl (a i h) (b i h))
  | op.Or ↦ sets i h (bit_or (a i h) (b i h))
  | op.And ↦ sets i h (bit_and (a i h) (b i h))
  | op.Sub ↦ sets i h (alu.sub (a i h) (b i h))
  | op.Sra ↦ sets i h (alu.sra (a i h) (b i h))
  | op.Mul ↦ sets i h (alu.mul (a i h) (b i h))
  | op.Mulh ↦ sets i h (alu.mulh (a i h) (b i h))
  | op.Mulhsu ↦ sets i h (alu.mulhsu (a i h) (b i h))
  | op.Mulhu ↦ sets i h (alu.mulhu (a i h) (b i h))
  | op.Div ↦ sets i h (alu.div (a i h) (b i h))
  | op.Divu ↦ sets i h (alu.divu (a i h) (b i h))
  | op.Rem ↦ sets i h (alu.rem (a i h) (b i h))
  | op.Remu ↦ sets i h (alu.remu (a i h) (b i h))
  | op.Fence ↦ advances_pc h
  | op.Ecall ↦ needs_first h need.Call
  | op.Ebreak ↦ needs_first h need.Break
]

-- a load or a store is of 1, 2 or 4 bytes
abbrev pub HasWidth : Need → Type 0
HasWidth (need.Load address width is_signed) = (width ≡ 1) ⊎ (width ≡ 2) ⊎ (width ≡ 4)
HasWidth (need.Store address width value) = (width ≡ 1) ⊎ (width ≡ 2) ⊎ (width ≡ 4)
HasWidth n = Unit {0}

-- whether a need is a load
abbrev pub is_load_need : Need → Bool
is_load_need (need.Load address width is_signed) = true
is_load_need n = false

-- a loaded value of `width` bytes, extended to a word by its sign or by zeros
abbrev pub extended : ℕ → Bool → ℕ → ℕ
extended width is_signed value = if is_signed then alu.as_word (signed (8 * width) value) else value

-- the value that the load of an operation gives: the same, by the operation
abbrev pub loaded_value : Op → ℕ → ℕ
loaded_value op.Lb value = extended 1 true value
loaded_value op.Lh value = extended 2 true value
loaded_value o value = value

-- the hart after a load: rd has the value, and pc advances by 4
abbrev pub hart_after_load : Instr → HartState → ℕ → HartState
hart_after_load i h value = record { pc = next_pc h.pc; regs = put h.regs i.rd value }

-- the hart after a store: pc advances by 4
abbrev pub hart_after_store : HartState → HartState
hart_after_store h = record h { pc = next_pc h.pc }

-- the hart after a call: a0 has the value, a1 the code and, where the call gives one, a2 a further
-- value; pc advances by 4
abbrev pub hart_after_call_with : HartState → ℕ → ℕ → Option ℕ → HartState
hart_after_call_with h value code None = record { pc = next_pc h.pc; regs = put (put h.regs 10 value) 11 code }
hart_after_call_with h value code (Some more) =
    record { pc = next_pc h.pc; regs = put (put (put h.regs 10 value) 11 code) 12 more }

-- the same where the call gives no further value
abbrev pub hart_after_call : HartState → ℕ → ℕ → HartState
hart_after_call h value code = hart_after_call_with h value code None

-- whether a reply is of the kind that was needed
abbrev pub is_reply_to : Need → Reply → Bool
is_reply_to (need.Load address width is_signed) (reply.Loaded value) = true
is_reply_to (need.Store address width value) reply.Stored = true
is_reply_to need.Call (reply.Answered value code more) = true
is_reply_to n r = false

-- The hart after its step, with the reply to what the step needed. A reply of another kind changes
-- nothing; `finish` requires that there is none.
abbrev pub hart_after_reply : Instr → HartState → Need → Reply → HartState
hart_after_reply i h (need.Load address width is_signed) (reply.Loaded value) = hart_after_load i h (extended width is_signed value)
hart_after_reply i h (need.Store address width value) reply.Stored = hart_after_store h
hart_after_reply i h need.Call (reply.Answered value code more) = hart_after_call_with h value code more
hart_after_reply i h n r = h
