-- Each load and each store of a private copy is noted, of a tag of which the actor's sheet grants a copy.
use Rattle.std.proofs.Common.{◌≡◌, inl, inr, ℕ, zero, suc, ◌+◌, ◌≤◌, Bool, true, false, List, [], ◌∷◌, ◌++◌, refl, sym, ap, subst, ◌∙◌, append_assoc, append-nil, arith}
use Rattle.std.proofs.lemmas.Bool.{eqb-true}
use Rattle.std.specs.Prelude.{Option, Some, None, is_some, max, not, option_map, option_and_then, slice_range, ◌⊎◌, ◌&&◌, ◌||◌, ◌==◌, ◌%◌, if◌then◌else◌}
use Rattle.cow_pages.specs.Copies.{copy_at, holds_copy, read_copy}
use Rattle.cow_pages.specs.PrivateMemory.{PrivateMemory}
use Rattle.wedge_base.specs.Images.{Image, fetch, in_text, slot_of}
use Rattle.wedge_base.specs.Maps.{Map}
use Rattle.wedge_base.specs.Memory.{range_at}
use Rattle.wedge_base.specs.declared.address.Place.{Place}
use Rattle.wedge_base.specs.declared.image.MemoryRange.{MemoryRange}
use Rattle.wedge_base.specs.declared.rights.Grant.{Grant}
use Rattle.rv_isa.specs.declared.Instr.{Instr}
use Rattle.rv_isa.specs.Table.{decode}
use Rattle.rv_hart.specs.declared.Need.{Need}
use Rattle.rv_hart.specs.declared.Need.TheVariants as need
use Rattle.rv_hart.specs.Local.{local}
use Rattle.machine.specs.Actors.{ActorState}
use Rattle.machine.specs.Local.{step, is_running}
use Rattle.run_laws.specs.CopiesGranted.{grants_copy, AreOwnCopiesGranted}
use Rattle.run_laws.specs.Remembering.{copied_bytes, Elsewhere, copy_target, target_among, target_of}
use Rattle.trace_form.specs.declared.words.Kind.{Kind}
use Rattle.trace_form.specs.declared.words.Kind.TheVariants as kind
use Rattle.trace_form.specs.declared.words.Mode.TheVariants as mode
use Rattle.run_notes.specs.Doers.{doer_of}
use Rattle.run_notes.specs.Items.{tag_item, is_copy_in, greater_so_far, greatest_copy}
use Rattle.run_notes.specs.Notes.{Noted, note_by, with_note, copy_note, copy_in_window, copy_past_range, held_copy, copy_reached, note_of_need, noted_instr, instr_at, noted_step, noted_local, noted_rest}
use Rattle.run_notes.specs.declared.chain.CallChain.{CallChain}
use Rattle.run_notes.specs.declared.items.Makings.{Makings}
use Rattle.run_notes.specs.declared.note.Note.{Note}
use Rattle.run_log.specs.NoteLaws.{chain_past_instr, chain_past_with, chain_past, chain_past_local, chain_at_rest, CopyAccess, slot_of_target, copy_access_at, copy_access_of, copy_access_by, copy_access_with, copy_access, grants_copy_of, IsCopyNote, BeginWith, AreCopyNotes}
use Rattle.run_log.proofs.CopiesKept.{step_granted}
use Rattle.run_log.proofs.KnownItems.{max_is}
use Rattle.run_log.proofs.NotedItems.{tag_item_is}

-- ---- the greatest tag of which a copy in a slot is granted

-- it is granted, or the best so far, and none is greater
record IsGreatest (slot : ℕ) (best : Option ℕ) (gs : Map Grant) (tag : ℕ) : Type 0 where
  is : (best ≡ Some tag) ⊎ (grants_copy_of gs slot tag ≡ true)
  before : (t : ℕ) → best ≡ Some t → t ≤ tag
  others : (t : ℕ) → grants_copy_of gs slot t ≡ true → t ≤ tag

max_least : (a b : ℕ) → (a ≤ max a b) × (b ≤ max a b)
max_least a b = (grind arith, grind arith)

greatest_is : (slot : ℕ) (gs : Map Grant) (best : Option ℕ) (tag : ℕ) → greatest_copy slot best gs ≡ Some tag → IsGreatest slot best gs tag
greatest_is slot [] best tag e = record { is = inl e; before = λ t f. (let both : Some t ≡ Some tag = sym f ∙ e in let same_tag : t ≡ tag = cc in omega (arith, same_tag)); others = λ t f. absurd cc }
greatest_is slot (x ∷ gs) best tag e =
    let p = by_copy (is_copy_in slot x.1) (greatest_is slot gs (if is_copy_in slot x.1 then Some (greater_so_far x.0 best) else best) tag e) in
    record { is = p.0; before = p.1; others = p.2 }
  where
    further : (t : Bool) (u : Bool) → u ≡ true → (t || u) ≡ true
    further true u h = refl
    further false u h = h

    here : (n : ℕ) → (true && (n == n)) ≡ true
    here n = grind arith

    of_best : (b : Option ℕ) → Some (greater_so_far x.0 b) ≡ Some tag → (b ≡ Some tag) ⊎ (((true && (x.0 == tag)) || grants_copy_of gs slot tag) ≡ true)
    of_best None is = let same_tag : x.0 ≡ tag = cc in inr (ap (λ n. (true && (x.0 == n)) || grants_copy_of gs slot tag) (sym same_tag) ∙ ap (λ t. t || grants_copy_of gs slot tag) (here x.0))
    of_best (Some b) is =
        let same_tag : max b x.0 ≡ tag = cc in
        elim (max_is b x.0) [
          | inl old ↦ inl (ap (λ n. Some n) (sym old ∙ same_tag))
          | inr new ↦ inr (ap (λ n. (true && (x.0 == n)) || grants_copy_of gs slot tag) (sym (sym new ∙ same_tag)) ∙ ap (λ t. t || grants_copy_of gs slot tag) (here x.0))
        ]

    is_here : ((Some (greater_so_far x.0 best)) ≡ Some tag) ⊎ (grants_copy_of gs slot tag ≡ true) → (best ≡ Some tag) ⊎ (((true && (x.0 == tag)) || grants_copy_of gs slot tag) ≡ true)
    is_here (inl is) = of_best best is
    is_here (inr there) = inr (further (true && (x.0 == tag)) (grants_copy_of gs slot tag) there)

    best_below : (b : Option ℕ) → greater_so_far x.0 b ≤ tag → (t : ℕ) → b ≡ Some t → t ≤ tag
    best_below None le t is = absurd cc
    best_below (Some b) le t is = let same_best : b ≡ t = cc in let m = (max_least b x.0).0 in omega (arith, le, same_best, m)

    first_below : (b : Option ℕ) → greater_so_far x.0 b ≤ tag → x.0 ≤ tag
    first_below None le = le
    first_below (Some b) le = let m = (max_least b x.0).1 in omega (arith, le, m)

    all_below : (t : ℕ) (u : Bool) → x.0 ≤ tag → (grants_copy_of gs slot t ≡ true → t ≤ tag) → (x.0 == t) ≡ u → ((true && u) || grants_copy_of gs slot t) ≡ true → t ≤ tag
    all_below t true le more same_one h = let is : x.0 ≡ t = eqb-true x.0 t same_one in omega (arith, le, is)
    all_below t false le more same_one h = more h

    by_copy : (t : Bool) → IsGreatest slot (if t then Some (greater_so_far x.0 best) else best) gs tag
        → ((best ≡ Some tag) ⊎ (((t && (x.0 == tag)) || grants_copy_of gs slot tag) ≡ true)) × ((n : ℕ) → best ≡ Some n → n ≤ tag) × ((n : ℕ) → ((t && (x.0 == n)) || grants_copy_of gs slot n) ≡ true → n ≤ tag)
    by_copy true g =
        let le : greater_so_far x.0 best ≤ tag = g.before (greater_so_far x.0 best) refl in
        (is_here g.is, best_below best le, λ n h. all_below n (x.0 == n) (first_below best le) (g.others n) refl h)
    by_copy false g = (g.is, g.before, g.others)

-- where a copy in a slot is granted, there is one
granted_some : (slot : ℕ) (gs : Map Grant) (best : Option ℕ) → (is_some best || grants_copy gs slot) ≡ true → is_some (greatest_copy slot best gs) ≡ true
granted_some slot [] best h = by_best best h
  where
    by_best : (b : Option ℕ) → (is_some b || false) ≡ true → is_some b ≡ true
    by_best None e = e
    by_best (Some n) e = refl
granted_some slot (x ∷ gs) best h = granted_some slot gs (if is_copy_in slot x.1 then Some (greater_so_far x.0 best) else best) (by_copy (is_copy_in slot x.1) h)
  where
    by_copy : (t : Bool) → (is_some best || (t || grants_copy gs slot)) ≡ true → (is_some (if t then Some (greater_so_far x.0 best) else best) || grants_copy gs slot) ≡ true
    by_copy true e = refl
    by_copy false e = e

-- ---- an access of a private copy

-- it reaches one that is there
reached_there : (i : Image) (m : PrivateMemory) (address width slot : ℕ) → copy_reached i m address width ≡ Some slot → is_some (copy_at m.copies slot) ≡ true
reached_there i m address width slot e = by_aligned (not (address % width == 0)) e
  where
    by_bytes : (p : Place) (o : Option (List ℕ)) → copy_at m.copies p.slot ≡ o → held_copy p width o ≡ Some slot → is_some (copy_at m.copies slot) ≡ true
    by_bytes p None is h = absurd cc
    by_bytes p (Some bytes) is h = by_held (holds_copy p.offset width bytes) h
      where
        by_held : (t : Bool) → (if t then Some p.slot else None) ≡ Some slot → is_some (copy_at m.copies slot) ≡ true
        by_held false k = absurd cc
        by_held true k = let same_slot : p.slot ≡ slot = cc in ap (λ s. is_some (copy_at m.copies s)) (sym same_slot) ∙ ap is_some is

    by_place : (p : Option Place) → copy_in_window m width p ≡ Some slot → is_some (copy_at m.copies slot) ≡ true
    by_place None h = absurd cc
    by_place (Some p) h = by_bytes p (copy_at m.copies p.slot) refl h

    by_range : (r : Option MemoryRange) → copy_past_range m address width r ≡ Some slot → is_some (copy_at m.copies slot) ≡ true
    by_range (Some r) h = absurd cc
    by_range None h = by_place (slot_of address) h

    by_text : (t : Bool) → (if t then None else copy_past_range m address width (range_at m.ranges address width)) ≡ Some slot → is_some (copy_at m.copies slot) ≡ true
    by_text true h = absurd cc
    by_text false h = by_range (range_at m.ranges address width) h

    by_aligned : (t : Bool) → (if t then None else if in_text i address width then None else copy_past_range m address width (range_at m.ranges address width)) ≡ Some slot → is_some (copy_at m.copies slot) ≡ true
    by_aligned true h = absurd cc
    by_aligned false h = by_text (in_text i address width) h

-- it is the one to which a store there goes
reached_is : (i : Image) (a : ActorState) (address width : ℕ) → copy_reached i a.memory address width ≡ slot_of_target (target_of i a address width)
reached_is i a address width = by_tests (address % width == 0) (in_text i address width)
  where
    by_bytes : (p : Place) (o : Option (List ℕ)) → held_copy p width o ≡ slot_of_target (copy_target (Some p) (option_and_then (read_copy p.offset width) o))
    by_bytes p None = refl
    by_bytes p (Some bytes) = by_held (holds_copy p.offset width bytes)
      where
        by_held : (t : Bool) → (if t then Some p.slot else None) ≡ slot_of_target (copy_target (Some p) (if t then Some (slice_range bytes p.offset (p.offset + width)) else None))
        by_held true = refl
        by_held false = refl

    by_place : (p : Option Place) → slot_of address ≡ p → copy_in_window a.memory width (slot_of address) ≡ slot_of_target (target_among a address width None)
    by_place None e = subst (λ q. copy_in_window a.memory width q ≡ slot_of_target (copy_target q (copied_bytes a.memory.copies width q))) (sym e) refl
    by_place (Some p) e = subst (λ q. copy_in_window a.memory width q ≡ slot_of_target (copy_target q (copied_bytes a.memory.copies width q))) (sym e) (by_bytes p (copy_at a.memory.copies p.slot))

    by_range : (r : Option MemoryRange) → copy_past_range a.memory address width r ≡ slot_of_target (target_among a address width r)
    by_range (Some r) = refl
    by_range None = by_place (slot_of address) refl

    by_tests : (t u : Bool) → (if not t then None else if u then None else copy_past_range a.memory address width (range_at a.memory.ranges address width))
        ≡ slot_of_target (if t && not u then target_among a address width (range_at a.memory.ranges address width) else Elsewhere)
    by_tests false u = refl
    by_tests true true = refl
    by_tests true false = by_range (range_at a.memory.ranges address width)

-- whether an access is noted, and by what
abbrev IsNotedAs : Image → Makings → ActorState → CallChain → Option CopyAccess → Option Note → Type 0
IsNotedAs i m a ch None o = o ≡ None
IsNotedAs i m a ch (Some x) o = (n : Note) × (o ≡ Some n) × IsCopyNote i m a ch x n

copy_noted : (i : Image) (m : Makings) (a : ActorState) (ch : CallChain) (k : Kind) (o : Option ℕ) → ((slot : ℕ) → o ≡ Some slot → grants_copy a.sheet.tags slot ≡ true)
    → IsNotedAs i m a ch (option_map (copy_access_at k) o) (copy_note i m a ch k o)
copy_noted i m a ch k None granted = refl
copy_noted i m a ch k (Some slot) granted = by_tag (greatest_copy slot None a.sheet.tags) refl (granted_some slot a.sheet.tags None (granted slot refl))
  where
    by_tag : (t : Option ℕ) → greatest_copy slot None a.sheet.tags ≡ t → is_some (greatest_copy slot None a.sheet.tags) ≡ true
        → (n : Note) × (option_map (note_by (doer_of a) ch k mode.Private) (option_map (tag_item i m) t) ≡ Some n) × IsCopyNote i m a ch (record { kind = k; slot = slot }) n
    by_tag None e there = let f : false ≡ true = ap is_some (sym e) ∙ there in absurd cc
    by_tag (Some tag) e there =
        let g = greatest_is slot a.sheet.tags None tag e in
        let own : grants_copy_of a.sheet.tags slot tag ≡ true = elim g.is [ inl none ↦ absurd (let f : None ≡ Some tag = none in cc) | inr here ↦ here ] in
        (note_by (doer_of a) ch k mode.Private (tag_item i m tag), refl, record { of = record { actor = refl; pc = refl; compartment = refl; chain = refl; kind = refl; mode = refl }; tag = tag; granted = own; greatest = g.others; item = tag_item_is i m tag })

reached_noted : (i : Image) (m : Makings) (a : ActorState) (ch : CallChain) (k : Kind) (address width : ℕ) → AreOwnCopiesGranted a
    → IsNotedAs i m a ch (option_map (copy_access_at k) (slot_of_target (target_of i a address width))) (copy_note i m a ch k (copy_reached i a.memory address width))
reached_noted i m a ch k address width own =
    let reached = copy_reached i a.memory address width in
    subst (λ o. IsNotedAs i m a ch (option_map (copy_access_at k) o) (copy_note i m a ch k reached)) (reached_is i a address width) (copy_noted i m a ch k reached (λ slot is. own slot (reached_there i a.memory address width slot is)))

need_noted : (i : Image) (m : Makings) (a : ActorState) (ch : CallChain) (n : Need) → AreOwnCopiesGranted a → IsNotedAs i m a ch (copy_access_of i a n) (note_of_need i m a ch n)
need_noted i m a ch (need.Load address width s) own = reached_noted i m a ch kind.Load address width own
need_noted i m a ch (need.Store address width value) own = reached_noted i m a ch kind.Store address width own
need_noted i m a ch need.Done own = refl
need_noted i m a ch need.Call own = refl
need_noted i m a ch need.Break own = refl
need_noted i m a ch need.JumpMisaligned own = refl

-- ---- instructions

-- one instruction adds its note, if it has one, and the chain goes on
record StepNotes (i : Image) (m : Makings) (a : ActorState) (l : Noted) : Type 0 where
  note : Option Note
  notes : (noted_step i m a l).notes ≡ with_note l.notes note
  chain : (noted_step i m a l).chain ≡ chain_past i a l.chain
  is : IsNotedAs i m a l.chain (copy_access i a) note

-- the access is that of the instruction for which there is fuel, and so is the chain
is_some_fuel : (n : ℕ) → (suc n == 0) ≡ false
is_some_fuel n = grind arith

access_is : (i : Image) (a : ActorState) → copy_access_by i a (instr_at i a) ≡ copy_access i a
access_is i a = by_fuel a.fuel
  where
    by_fuel : (n : ℕ) → copy_access_by i a (if n == 0 then None else option_and_then decode (fetch i a.hart.pc)) ≡ copy_access_with i a n
    by_fuel zero = refl
    by_fuel (suc n) = ap (λ t. copy_access_by i a (if t then None else option_and_then decode (fetch i a.hart.pc))) (is_some_fuel n)

chain_is : (i : Image) (a : ActorState) (ch : CallChain) → chain_past_instr i a (instr_at i a) ch ≡ chain_past i a ch
chain_is i a ch = by_fuel a.fuel
  where
    by_fuel : (n : ℕ) → chain_past_instr i a (if n == 0 then None else option_and_then decode (fetch i a.hart.pc)) ch ≡ chain_past_with i a n ch
    by_fuel zero = refl
    by_fuel (suc n) = ap (λ t. chain_past_instr i a (if t then None else option_and_then decode (fetch i a.hart.pc)) ch) (is_some_fuel n)

step_notes : (i : Image) (m : Makings) (a : ActorState) (l : Noted) → AreOwnCopiesGranted a → StepNotes i m a l
step_notes i m a l own = by_instr (instr_at i a) refl
  where
    by_instr : (o : Option Instr) → instr_at i a ≡ o → StepNotes i m a l
    by_instr None e = record {
      note = None;
      notes = ap (λ q. (noted_instr i m a l q).notes) e;
      chain = ap (λ q. (noted_instr i m a l q).chain) e ∙ (ap (λ q. chain_past_instr i a q l.chain) (sym e) ∙ chain_is i a l.chain);
      is = subst (λ x. IsNotedAs i m a l.chain x None) (ap (copy_access_by i a) (sym e) ∙ access_is i a) refl;
    }
    by_instr (Some ins) e = record {
      note = note_of_need i m a l.chain (local ins a.hart).need;
      notes = ap (λ q. (noted_instr i m a l q).notes) e;
      chain = ap (λ q. (noted_instr i m a l q).chain) e ∙ (ap (λ q. chain_past_instr i a q l.chain) (sym e) ∙ chain_is i a l.chain);
      is = subst (λ x. IsNotedAs i m a l.chain x (note_of_need i m a l.chain (local ins a.hart).need)) (ap (copy_access_by i a) (sym e) ∙ access_is i a) (need_noted i m a l.chain (local ins a.hart).need own);
    }

-- the notes of instructions, and the chain after them
record LocalNotes (i : Image) (m : Makings) (n : ℕ) (a : ActorState) (ch : CallChain) (old : List Note) (after : Noted) : Type 0 where
  own : List Note
  notes : after.notes ≡ old ++ own
  are : AreCopyNotes i m n a ch own
  chain : after.chain ≡ chain_past_local i n a ch

behind_step : (i : Image) (m : Makings) (n : ℕ) (a : ActorState) (l : Noted) (after : Noted) → StepNotes i m a l → LocalNotes i m n (step i a) (chain_past i a l.chain) (noted_step i m a l).notes after
    → (own : List Note) × (after.notes ≡ l.notes ++ own) × BeginWith i m a l.chain (copy_access i a) (AreCopyNotes i m n (step i a) (chain_past i a l.chain)) own
behind_step i m n a l after s more = by_access (copy_access i a) s.note s.notes s.is
  where
    by_access : (x : Option CopyAccess) (o : Option Note) → (noted_step i m a l).notes ≡ with_note l.notes o → IsNotedAs i m a l.chain x o
        → (own : List Note) × (after.notes ≡ l.notes ++ own) × BeginWith i m a l.chain x (AreCopyNotes i m n (step i a) (chain_past i a l.chain)) own
    by_access None o notes is =
        (more.own, more.notes ∙ ap (λ ns. ns ++ more.own) (notes ∙ ap (with_note l.notes) is), more.are)
    by_access (Some x) o notes is =
        let first = is.0 in
        (first ∷ more.own, more.notes ∙ (ap (λ ns. ns ++ more.own) (notes ∙ ap (with_note l.notes) is.1) ∙ append_assoc l.notes (first ∷ []) more.own), (is.2, more.are))

abbrev AreFrom : Image → Makings → ℕ → ActorState → CallChain → Bool → List Note → Type 0
AreFrom i m n a ch t own = elim t [ true ↦ BeginWith i m a ch (copy_access i a) (AreCopyNotes i m n (step i a) (chain_past i a ch)) own | false ↦ own ≡ [] ]

abbrev chain_from : Image → ℕ → ActorState → CallChain → Bool → CallChain
chain_from i n a ch t = elim t [ true ↦ chain_past_local i n (step i a) (chain_past i a ch) | false ↦ ch ]

local_notes : (i : Image) (m : Makings) (n : ℕ) (a : ActorState) (l : Noted) → AreOwnCopiesGranted a → LocalNotes i m n a l.chain l.notes (noted_local i m n a l)
unfolding noted_local
local_notes i m zero a l own = record { own = []; notes = sym (append-nil l.notes); are = refl; chain = refl }
local_notes i m (suc n) a l own =
    let s = step_notes i m a l own in
    let more = local_notes i m n (step i a) (noted_step i m a l) (step_granted i a own) in
    let later : LocalNotes i m n (step i a) (chain_past i a l.chain) (noted_step i m a l).notes (noted_local i m n (step i a) (noted_step i m a l)) =
    subst (λ ch. LocalNotes i m n (step i a) ch (noted_step i m a l).notes (noted_local i m n (step i a) (noted_step i m a l))) s.chain more in
    let so = by_running (is_running a.phase) (behind_step i m n a l (noted_local i m n (step i a) (noted_step i m a l)) s later) later.chain in
    record { own = so.0; notes = so.1; are = so.2; chain = so.3 }
  where
    by_running : (t : Bool) → (own : List Note) × ((noted_local i m n (step i a) (noted_step i m a l)).notes ≡ l.notes ++ own) × BeginWith i m a l.chain (copy_access i a) (AreCopyNotes i m n (step i a) (chain_past i a l.chain)) own
        → (noted_local i m n (step i a) (noted_step i m a l)).chain ≡ chain_past_local i n (step i a) (chain_past i a l.chain)
        → (let after : Noted = elim t [ true ↦ noted_local i m n (step i a) (noted_step i m a l) | false ↦ l ] in
        (own : List Note) × (after.notes ≡ l.notes ++ own) × AreFrom i m n a l.chain t own × (after.chain ≡ chain_from i n a l.chain t))
    by_running true more goes = (more.0, more.1, more.2, goes)
    by_running false more goes = ([], sym (append-nil l.notes), refl, refl)

pub record RestNotes (i : Image) (m : Makings) (a : ActorState) (l : Noted) : Type 0 where
  pub own : List Note
  pub notes : (noted_rest i m a l).notes ≡ l.notes ++ own
  pub are : AreCopyNotes i m (a.fuel + 1) a l.chain own
  pub chain : (noted_rest i m a l).chain ≡ chain_at_rest i a l.chain

pub rest_notes : (i : Image) (m : Makings) (a : ActorState) (l : Noted) → AreOwnCopiesGranted a → RestNotes i m a l
unfolding noted_rest
rest_notes i m a l own = (let n = local_notes i m (a.fuel + 1) a l own in record { own = n.own; notes = n.notes; are = n.are; chain = n.chain })
