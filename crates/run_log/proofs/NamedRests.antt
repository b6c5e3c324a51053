-- What is noted of an actor that comes to rest has a name.
use Rattle.std.proofs.Common.{◌≡◌, ℕ, zero, suc, ◌+◌, Bool, true, false, List, refl, sym, subst}
use Rattle.std.specs.List.{AllByRecursion}
use Rattle.std.specs.Prelude.{Option, Some, None, option_map}
use Rattle.wedge_base.specs.Images.{Image}
use Rattle.rv_isa.specs.declared.Instr.{Instr}
use Rattle.rv_hart.specs.declared.Need.{Need}
use Rattle.rv_hart.specs.declared.Need.TheVariants as need
use Rattle.rv_hart.specs.Local.{local}
use Rattle.machine.specs.Actors.{ActorState}
use Rattle.machine.specs.Local.{step, is_running}
use Rattle.machine.proofs.Resting.{steps_step}
use Rattle.trace_form.specs.declared.words.Kind.TheVariants as kind
use Rattle.trace_form.specs.declared.words.Mode.TheVariants as mode
use Rattle.run_notes.specs.Doers.{doer_of}
use Rattle.run_notes.specs.Items.{tag_item, greatest_copy}
use Rattle.run_notes.specs.Notes.{Noted, note_by, with_note, copy_note, copy_reached, note_of_need, noted_instr, instr_at, noted_step, noted_local, noted_rest}
use Rattle.run_notes.specs.declared.chain.CallChain.{CallChain}
use Rattle.run_notes.specs.declared.items.Makings.{Makings}
use Rattle.run_notes.specs.declared.note.Note.{Note}
use Rattle.run_log.specs.NamedNotes.{BeginsAt, IsNamed}
use Rattle.run_log.proofs.FramedChains.{all_push}
use Rattle.run_log.proofs.KnownItems.{CopiesAreNamed}

abbrev pub AreNamed : Image → List Note → Type 0
AreNamed i notes = AllByRecursion (IsNamed i) notes

-- a note, if there is one, has names
abbrev pub IsOptionNamed : Image → Option Note → Type 0
IsOptionNamed i None = Unit {0}
IsOptionNamed i (Some n) = IsNamed i n

pub note_named : (i : Image) (notes : List Note) (o : Option Note) → AreNamed i notes → IsOptionNamed i o → AreNamed i (with_note notes o)
note_named i notes None all one = all
note_named i notes (Some n) all one = all_push (IsNamed i) notes n all one

-- a load or a store of a private copy
load_named : (i : Image) (m : Makings) (a : ActorState) (c : CallChain) (o : Option ℕ) → BeginsAt i a.compartment → CopiesAreNamed i m a.sheet → IsOptionNamed i (copy_note i m a c kind.Load o)
load_named i m a c None own copies = tt
load_named i m a c (Some slot) own copies = by_tag (greatest_copy slot None a.sheet.tags) refl
  where
    by_tag : (t : Option ℕ) → greatest_copy slot None a.sheet.tags ≡ t → IsOptionNamed i (option_map (note_by (doer_of a) c kind.Load mode.Private) (option_map (tag_item i m) t))
    by_tag None e = tt
    by_tag (Some tag) e = record { compartment = own; mode = refl; item = copies slot tag e }

store_named : (i : Image) (m : Makings) (a : ActorState) (c : CallChain) (o : Option ℕ) → BeginsAt i a.compartment → CopiesAreNamed i m a.sheet → IsOptionNamed i (copy_note i m a c kind.Store o)
store_named i m a c None own copies = tt
store_named i m a c (Some slot) own copies = by_tag (greatest_copy slot None a.sheet.tags) refl
  where
    by_tag : (t : Option ℕ) → greatest_copy slot None a.sheet.tags ≡ t → IsOptionNamed i (option_map (note_by (doer_of a) c kind.Store mode.Private) (option_map (tag_item i m) t))
    by_tag None e = tt
    by_tag (Some tag) e = record { compartment = own; mode = refl; item = copies slot tag e }

need_named : (i : Image) (m : Makings) (a : ActorState) (c : CallChain) (n : Need) → BeginsAt i a.compartment → CopiesAreNamed i m a.sheet → IsOptionNamed i (note_of_need i m a c n)
need_named i m a c need.Done own copies = tt
need_named i m a c (need.Load address width s) own copies = load_named i m a c (copy_reached i a.memory address width) own copies
need_named i m a c (need.Store address width v) own copies = store_named i m a c (copy_reached i a.memory address width) own copies
need_named i m a c need.Call own copies = tt
need_named i m a c need.Break own copies = tt
need_named i m a c need.JumpMisaligned own copies = tt

step_named : (i : Image) (m : Makings) (a : ActorState) (l : Noted) → BeginsAt i a.compartment → CopiesAreNamed i m a.sheet → AreNamed i l.notes → AreNamed i (noted_step i m a l).notes
step_named i m a l own copies all = by_instr (instr_at i a)
  where
    by_instr : (o : Option Instr) → AreNamed i (noted_instr i m a l o).notes
    by_instr None = all
    by_instr (Some ins) =
        let n = (local ins a.hart).need in
        note_named i l.notes (note_of_need i m a l.chain n) all (need_named i m a l.chain n own copies)

local_named : (i : Image) (m : Makings) (n : ℕ) (a : ActorState) (l : Noted) → BeginsAt i a.compartment → CopiesAreNamed i m a.sheet → AreNamed i l.notes → AreNamed i (noted_local i m n a l).notes
unfolding noted_local
local_named i m zero a l own copies all = all
local_named i m (suc n) a l own copies all =
    let s = steps_step i a in
    by_running (is_running a.phase) (local_named i m n (step i a) (noted_step i m a l) (subst (BeginsAt i) (sym s.compartment) own) (subst (CopiesAreNamed i m) (sym s.sheet) copies) (step_named i m a l own copies all))
  where
    by_running : (t : Bool) → AreNamed i (noted_local i m n (step i a) (noted_step i m a l)).notes → (let after : Noted = elim t [ true ↦ noted_local i m n (step i a) (noted_step i m a l) | false ↦ l ] in AreNamed i after.notes)
    by_running true more = more
    by_running false more = all

pub rest_named : (i : Image) (m : Makings) (a : ActorState) (l : Noted) → BeginsAt i a.compartment → CopiesAreNamed i m a.sheet → AreNamed i l.notes → AreNamed i (noted_rest i m a l).notes
unfolding noted_rest
rest_named i m a l own copies all = local_named i m (a.fuel + 1) a l own copies all
