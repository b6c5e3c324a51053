-- What jumps make of a chain of calls: of all procedures that were called and have not returned, it
-- has the first 64, and counts the others.
use Rattle.std.specs.Prelude.{◌≡◌, ◌⊎◌, ℕ, ◌-◌, ◌<◌, true, false, List, [], ◌∷◌, ◌++◌, length, take, pos}
use Rattle.wedge_base.specs.Images.{Image, in_text}
use Rattle.image_form.specs.Address.{proc_of}
use Rattle.rv_isa.specs.declared.Op.TheVariants as op
use Rattle.rv_isa.specs.declared.Instr.{Instr}
use Rattle.rv_hart.specs.declared.Need.TheVariants as need
use Rattle.run_notes.specs.Chains.{opening_chain, chain_by}
use Rattle.run_notes.specs.declared.chain.CallChain.{CallChain}

pub record IsFirstOf (open_calls : List ℕ) (c : CallChain) : Type 0 where
  pub frames : c.frames ≡ take 64 open_calls
  pub beyond : c.beyond ≡ length open_calls - 64

-- a jump that links with ra, and the return of the calling standard
abbrev pub IsLink : Instr → Type 0
IsLink ins = ((ins.op ≡ op.Jal) ⊎ (ins.op ≡ op.Jalr)) × (ins.rd ≡ 1)

abbrev pub IsReturn : Instr → Type 0
IsReturn ins = (ins.op ≡ op.Jalr) × (ins.rd ≡ 0) × (ins.rs1 ≡ 1) × (ins.imm ≡ pos 0)

-- a jump that was made calls the procedure of its target in the text, or returns from the last one
-- that was called, but never from the compartment; no other instruction changes a chain
pub record AreOpenCalls (i : Image) (ins : Instr) (target : ℕ) (c : CallChain) : Type 0 where
  pub calls : (all : List ℕ) → IsLink ins → in_text i target 1 ≡ true → IsFirstOf all c
      → IsFirstOf (all ++ proc_of i target ∷ []) (chain_by i ins need.Done target c)
  pub outside : IsLink ins → in_text i target 1 ≡ false → chain_by i ins need.Done target c ≡ c
  pub returns : (all : List ℕ) (f : ℕ) → IsReturn ins → 0 < length all
      → IsFirstOf (all ++ f ∷ []) c → IsFirstOf all (chain_by i ins need.Done target c)
  pub first : (compartment : ℕ) → IsReturn ins → IsFirstOf (compartment ∷ []) c
      → chain_by i ins need.Done target c ≡ c
  pub others : (IsLink ins → ⊥) → (IsReturn ins → ⊥) → chain_by i ins need.Done target c ≡ c

pub record ChainsAreOpenCalls : Type 0 where
  pub begins : (compartment : ℕ) → IsFirstOf (compartment ∷ []) (opening_chain compartment)
  pub each : (i : Image) (ins : Instr) (target : ℕ) (c : CallChain) → AreOpenCalls i ins target c
