-- What a finished load leaves, by its operation.
use Rattle.std.proofs.Common.{◌≡◌, ℕ, true, refl, ℤ, arith}
use Rattle.rv_isa.specs.declared.Op.{Op}
use Rattle.rv_isa.specs.declared.Op.TheVariants as op
use Rattle.rv_isa.specs.declared.Instr.{Instr}
use Rattle.rv_isa.specs.Table.{instr}
use Rattle.rv_hart.specs.declared.Reply.TheVariants as reply
use Rattle.rv_hart.specs.Local.{HartState, local, is_reply_to, hart_after_reply, hart_after_load, loaded_value}

by_op : (o : Op) (rd rs1 rs2 : ℕ) (imm : ℤ) (h : HartState) (value : ℕ) → is_reply_to (local (instr o rd rs1 rs2 imm) h).need (reply.Loaded value) ≡ true → hart_after_reply (instr o rd rs1 rs2 imm) h (local (instr o rd rs1 rs2 imm) h).need (reply.Loaded value) ≡ hart_after_load (instr o rd rs1 rs2 imm) h (loaded_value o value)
unfolding local
by_op op.Lb rd rs1 rs2 imm h value k = refl
by_op op.Lh rd rs1 rs2 imm h value k = refl
by_op op.Lw rd rs1 rs2 imm h value k = refl
by_op op.Lbu rd rs1 rs2 imm h value k = refl
by_op op.Lhu rd rs1 rs2 imm h value k = refl
by_op _ rd rs1 rs2 imm h value k = absurd (grind arith)

pub finished_load : (i : Instr) (h : HartState) (value : ℕ) → is_reply_to (local i h).need (reply.Loaded value) ≡ true → hart_after_reply i h (local i h).need (reply.Loaded value) ≡ hart_after_load i h (loaded_value i.op value)
finished_load i h value k = by_op i.op i.rd i.rs1 i.rs2 i.imm h value k
