-- An instruction leaves an actor's private copies at the slots of grants of copies on its sheet.
use Rattle.std.proofs.Common.{◌≡◌, ℕ, zero, suc, Bool, true, false, List, refl, sym, ap, ◌∙◌}
use Rattle.std.specs.Prelude.{Option, Some, None, not, is_some, option_and_then, ◌&&◌, ◌==◌, ◌%◌, if◌then◌else◌}
use Rattle.cow_pages.specs.Copies.{is_slot, copy_at, read_copy}
use Rattle.cow_pages.specs.PrivateMemory.{PrivateMemory}
use Rattle.wedge_base.specs.Bytes.{bytes_of}
use Rattle.wedge_base.specs.Images.{Image, fetch, in_text, slot_of}
use Rattle.wedge_base.specs.Memory.{range_at}
use Rattle.wedge_base.specs.Sheets.{Sheet}
use Rattle.wedge_base.specs.declared.address.Place.{Place}
use Rattle.wedge_base.specs.declared.image.MemoryRange.{MemoryRange}
use Rattle.rv_isa.specs.declared.Instr.{Instr}
use Rattle.rv_isa.specs.Table.{decode}
use Rattle.rv_hart.specs.declared.Need.{Need}
use Rattle.rv_hart.specs.declared.Need.TheVariants as need
use Rattle.rv_hart.specs.Local.{local}
use Rattle.machine.specs.Actors.{ActorState}
use Rattle.machine.specs.Local.{step}
use Rattle.machine.proofs.ByNumber.{same_number, number_itself}
use Rattle.machine.proofs.Resting.{steps_step}
use Rattle.run_laws.specs.CopiesGranted.{grants_copy, AreOwnCopiesGranted}
use Rattle.run_laws.specs.Remembering.{copied_bytes, Elsewhere, copy_target, target_among, LoadGives, StoreWrites, NeedRemembers, InstrRemembers, WordRemembers}
use Rattle.run_laws.proofs.Keeping.{step_remembers}

-- an instruction gives an actor no copy at a slot at which it has none
abbrev KeepsSlots : ActorState → ActorState → Type 0
KeepsSlots a b = (slot : ℕ) → is_some (copy_at b.memory.copies slot) ≡ true → is_some (copy_at a.memory.copies slot) ≡ true

same_slots : (a b : ActorState) → b.memory ≡ a.memory → KeepsSlots a b
same_slots a b is slot there = ap (λ (m : PrivateMemory). is_some (copy_at m.copies slot)) (sym is) ∙ there

copy_slots : (a b : ActorState) (address width : ℕ) (new : List ℕ) (p : Place) (o : Option (List ℕ)) → copied_bytes a.memory.copies width (Some p) ≡ o
    → StoreWrites a address new (copy_target (Some p) o) b → KeepsSlots a b
copy_slots a b address width new p None is h = same_slots a b h
copy_slots a b address width new p (Some bytes) is h = λ slot there. by_slot slot there (is_slot slot p.slot) refl
  where
    was_there : (c : Option (List ℕ)) → option_and_then (read_copy p.offset width) c ≡ Some bytes → is_some c ≡ true
    was_there None e = absurd cc
    was_there (Some old) e = refl

    by_slot : (slot : ℕ) → is_some (copy_at b.memory.copies slot) ≡ true → (t : Bool) → is_slot slot p.slot ≡ t → is_some (copy_at a.memory.copies slot) ≡ true
    by_slot slot there true e = ap (λ n. is_some (copy_at a.memory.copies n)) (same_number slot p.slot e) ∙ was_there (copy_at a.memory.copies p.slot) is
    by_slot slot there false e =
        ap is_some (sym (h.0.beside slot (λ same. let both : true ≡ false = sym (number_itself p.slot) ∙ (ap (λ n. is_slot n p.slot) (sym same) ∙ e) in absurd cc))) ∙ there

place_slots : (a b : ActorState) (address width : ℕ) (new : List ℕ) (p : Option Place) → StoreWrites a address new (copy_target p (copied_bytes a.memory.copies width p)) b → KeepsSlots a b
place_slots a b address width new None h = same_slots a b h
place_slots a b address width new (Some p) h = copy_slots a b address width new p (copied_bytes a.memory.copies width (Some p)) refl h

range_slots : (a b : ActorState) (address width : ℕ) (new : List ℕ) (r : Option MemoryRange) → StoreWrites a address new (target_among a address width r) b → KeepsSlots a b
range_slots a b address width new (Some r) h = λ slot there. ap (λ cs. is_some (copy_at cs slot)) (sym h.1) ∙ there
range_slots a b address width new None h = place_slots a b address width new (slot_of address) h

store_slots : (a b : ActorState) (address width : ℕ) (new : List ℕ) (t : Bool) → StoreWrites a address new (if t then target_among a address width (range_at a.memory.ranges address width) else Elsewhere) b → KeepsSlots a b
store_slots a b address width new true h = range_slots a b address width new (range_at a.memory.ranges address width) h
store_slots a b address width new false h = same_slots a b h

load_slots : (a b : ActorState) (rd : ℕ) (s : Bool) (width : ℕ) (o : Option (List ℕ)) → LoadGives a rd s width o b → KeepsSlots a b
load_slots a b rd s width None h = same_slots a b h
load_slots a b rd s width (Some bytes) h = same_slots a b (ap (λ (x : ActorState). x.memory) h)

need_slots : (i : Image) (rd : ℕ) (a b : ActorState) (n : Need) → NeedRemembers i rd a n b → KeepsSlots a b
need_slots i rd a b (need.Load address width s) h = load_slots a b rd s width _ h
need_slots i rd a b (need.Store address width value) h = store_slots a b address width (bytes_of width value) ((address % width == 0) && not (in_text i address width)) h
need_slots i rd a b need.Done h = same_slots a b h
need_slots i rd a b need.Call h = same_slots a b h
need_slots i rd a b need.Break h = same_slots a b h
need_slots i rd a b need.JumpMisaligned h = same_slots a b h

instr_slots : (i : Image) (a b : ActorState) (o : Option Instr) → InstrRemembers i a o b → KeepsSlots a b
instr_slots i a b None h = same_slots a b h
instr_slots i a b (Some ins) h = need_slots i ins.rd a b (local ins a.hart).need h

word_slots : (i : Image) (a b : ActorState) (o : Option Instr) (n : ℕ) → WordRemembers i a o n b → KeepsSlots a b
word_slots i a b o zero h = same_slots a b h
word_slots i a b o (suc n) h = instr_slots i (record a { fuel = n }) b o h

pub step_granted : (i : Image) (a : ActorState) → AreOwnCopiesGranted a → AreOwnCopiesGranted (step i a)
step_granted i a own slot there =
    ap (λ (s : Sheet). grants_copy s.tags slot) (steps_step i a).sheet
    ∙ own slot (word_slots i a (step i a) (option_and_then decode (fetch i a.hart.pc)) a.fuel (step_remembers i a) slot there)
