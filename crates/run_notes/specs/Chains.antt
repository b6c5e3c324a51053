-- Chains of calls: the procedures that an actor has called and has not returned from, as the
-- conventions of the RISC-V calling standard show them. A jump that puts the return address into ra
-- is a call, and the jump to ra that keeps no address is a return.
use Rattle.std.specs.Prelude.{ℕ, ◌+◌, ◌-◌, ◌==◌, Bool, true, false, ◌&&◌, [], ◌∷◌, ◌++◌, length, take, nat_lt, pos, if◌then◌else◌}
use Rattle.std.specs.Ordering.{int_eq}
use Rattle.wedge_base.specs.Images.{Image, in_text}
use Rattle.image_form.specs.Address.{proc_of}
use Rattle.rv_isa.specs.declared.Op.{Op}
use Rattle.rv_isa.specs.declared.Op.TheVariants as op
use Rattle.rv_isa.specs.declared.Instr.{Instr}
use Rattle.rv_hart.specs.declared.Need.{Need}
use Rattle.rv_hart.specs.declared.Need.TheVariants as need
use Rattle.run_notes.specs.declared.chain.CallChain.{CallChain}

-- the most frames of a chain
abbrev pub most_frames : ℕ
most_frames = 64

-- that with which an actor begins: its compartment alone
abbrev pub opening_chain : ℕ → CallChain
opening_chain compartment = record { frames = compartment ∷ []; beyond = 0 }

-- a procedure is called: where the chain is full, the call is counted and not added
abbrev pub with_call : CallChain → ℕ → CallChain
with_call c procedure =
    if nat_lt (length c.frames) most_frames then record c { frames = c.frames ++ procedure ∷ [] }
    else record c { beyond = c.beyond + 1 }

-- a call returns: those that were counted first, then the innermost frame, and never the first one
abbrev pub with_return : CallChain → CallChain
with_return c =
    if nat_lt 0 c.beyond then record c { beyond = c.beyond - 1 }
    else if nat_lt 1 (length c.frames) then record c { frames = take (length c.frames - 1) c.frames }
    else c

abbrev pub is_jalr : Op → Bool
is_jalr op.Jalr = true
is_jalr o = false

abbrev pub is_jump : Op → Bool
is_jump op.Jal = true
is_jump o = is_jalr o

-- JAL or JALR with rd = ra, and JALR with rd = x0, rs1 = ra and no offset
abbrev pub is_call : Instr → Bool
is_call ins = is_jump ins.op && (ins.rd == 1)

abbrev pub is_return : Instr → Bool
is_return ins = is_jalr ins.op && ((ins.rd == 0) && ((ins.rs1 == 1) && int_eq ins.imm (pos 0)))

-- the procedure of a target is called: the one with the greatest address not above it; a target
-- outside the text is in none
abbrev pub with_target : Image → ℕ → CallChain → CallChain
with_target i target c = if in_text i target 1 then with_call c (proc_of i target) else c

-- an instruction that was made, after which the pc is this
abbrev pub chain_after : Image → Instr → ℕ → CallChain → CallChain
chain_after i ins target c =
    if is_call ins then with_target i target c
    else if is_return ins then with_return c
    else c

-- the same, by what the instruction needs first: one that needs something is no jump that was made
abbrev pub chain_by : Image → Instr → Need → ℕ → CallChain → CallChain
chain_by i ins need.Done target c = chain_after i ins target c
chain_by i ins n target c = c
