-- What is prepared for a child, or for the runs of a gate, has copies at the slots of grants of copies alone.
use Rattle.std.proofs.Common.{◌≡◌, ℕ, Bool, true, false, List, [], ◌∷◌, refl, sym, ap, subst, ◌∙◌}
use Rattle.std.specs.Prelude.{◌++◌}
use Rattle.std.specs.Prelude.{Option, Some, None, is_some, ◌&&◌, ◌||◌, ◌==◌, if◌then◌else◌}
use Rattle.std.specs.Option.{option_or}
use Rattle.machine.specs.CopyGrant.{copy_grants, is_copy_alone}
use Rattle.machine.specs.Preparation.{Preparation, copied_from, prepare_copies}
use Rattle.cow_pages.specs.Copies.{Copies, is_slot, copy_at, without_copy}
use Rattle.run_laws.specs.CopiesGranted.{grants_copy, AreGranted}
use Rattle.cow_pages.specs.PrivateMemory.{PrivateMemory}
use Rattle.machine.specs.Calls.{a0, draft_at}
use Rattle.machine.specs.Actors.{ActorState}
use Rattle.wedge_base.specs.declared.rights.Grant.{Grant}
use Rattle.run_laws.specs.ChildCopies.{IsPrepared, own_at}
use Rattle.std.specs.List.{AllByRecursion}
use Rattle.machine.proofs.ByNumber.{same_number, number_itself, found_with, found_elsewhere, found_gone}
use Rattle.wedge_base.specs.Sheets.{Sheet, Made, sheet_of_draft, right_on, is_copy}
use Rattle.wedge_base.specs.Maps.{Map}
use Rattle.std.proofs.lemmas.Bool.{eq-eqb}
use Rattle.std.proofs.lemmas.Bool.{eqb-true}
use Rattle.machine.specs.declared.copy_grant.CopyGrant.{CopyGrant}

-- ---- copies that are put, and taken out

pub or_true : (t u : Bool) → u ≡ true → (t || u) ≡ true
or_true true u e = refl
or_true false u e = e

-- one at the slot of a grant
pub copied_granted : (gs : Map Grant) (o : Option (List ℕ)) (slot : ℕ) (m : PrivateMemory) → AreGranted gs m.copies → grants_copy gs slot ≡ true → AreGranted gs (copied_from o slot m).copies
copied_granted gs None slot m all here s there = all s there
copied_granted gs (Some bytes) slot m all here s there = by_slot (is_slot s slot) refl (ap is_some (sym (found_with m.copies slot bytes s)) ∙ there)
  where
    by_slot : (t : Bool) → is_slot s slot ≡ t → is_some (if t then Some bytes else copy_at m.copies s) ≡ true → grants_copy gs s ≡ true
    by_slot true e h = ap (grants_copy gs) (same_number s slot e) ∙ here
    by_slot false e h = all s h

pub without_granted : (gs : Map Grant) (copies : Copies) (slot : ℕ) → AreGranted gs copies → AreGranted gs (without_copy copies slot)
without_granted gs copies slot all s there = by_slot (is_slot s slot) refl
  where
    by_slot : (t : Bool) → is_slot s slot ≡ t → grants_copy gs s ≡ true
    by_slot true e =
        let is : s ≡ slot = same_number s slot e in
        let gone : is_some (copy_at (without_copy copies slot) s) ≡ false = ap (λ n. is_some (copy_at (without_copy copies slot) n)) is ∙ ap is_some (found_gone copies slot) in
        let both : true ≡ false = sym there ∙ gone in
        absurd cc
    by_slot false e = all s (ap is_some (sym (found_elsewhere copies slot s (λ is. let both : true ≡ false = sym (number_itself slot) ∙ (ap (λ n. is_slot n slot) (sym is) ∙ e) in absurd cc))) ∙ there)

-- ---- a child's copies, and those of a gate's runs

abbrev pub AreAllGranted : Map Grant → List CopyGrant → Type 0
AreAllGranted gs left = AllByRecursion (λ g. grants_copy gs g.slot ≡ true) left

more_granted : (e : ℕ × Grant) (gs : Map Grant) (left : List CopyGrant) → AreAllGranted gs left → AreAllGranted (e ∷ gs) left
more_granted e gs [] all = tt
more_granted e gs (g ∷ left) all = (or_true _ (grants_copy gs g.slot) all.0, more_granted e gs left all.1)

pub grants_granted : (gs : Map Grant) → AreAllGranted gs (copy_grants gs)
grants_granted [] = tt
grants_granted (e ∷ gs) = by_right (is_copy e.1.right) refl (more_granted e gs (copy_grants gs) (grants_granted gs))
  where
    by_right : (t : Bool) → is_copy e.1.right ≡ t → AreAllGranted (e ∷ gs) (copy_grants gs)
        → AreAllGranted (e ∷ gs) (if t then record { tag = e.0; slot = e.1.slot } ∷ copy_grants gs else copy_grants gs)
    by_right true is later = (ap (λ t. (t && (e.1.slot == e.1.slot)) || grants_copy gs e.1.slot) is ∙ ap (λ t. t || grants_copy gs e.1.slot) (eq-eqb e.1.slot e.1.slot refl), later)
    by_right false is later = later

-- a child's memory so far, and what is left to do
pub record IsGranted (gs : Map Grant) (p : Preparation) : Type 0 where
  pub copies : AreGranted gs p.memory.copies
  pub left : AreAllGranted gs p.left

pub prepared_granted : (gs : Map Grant) (s : Sheet) (made : Made) (own : Copies) (m : PrivateMemory) (left : List CopyGrant) → AreGranted gs m.copies → AreAllGranted gs left → IsGranted gs (prepare_copies s made own m left)
prepared_granted gs s made own m [] all each = record { copies = all; left = tt }
prepared_granted gs s made own m (g ∷ left) all each =
    by_right (is_copy_alone (right_on s made g.tag)) (prepared_granted gs s made own (copied_from (copy_at own g.slot) g.slot m) left (copied_granted gs (copy_at own g.slot) g.slot m all each.0) each.1)
  where
    by_right : (t : Bool) → IsGranted gs (prepare_copies s made own (copied_from (copy_at own g.slot) g.slot m) left)
        → IsGranted gs (if t then prepare_copies s made own (copied_from (copy_at own g.slot) g.slot m) left else record { memory = m; left = g ∷ left })
    by_right true later = later
    by_right false later = record { copies = all; left = each }

-- what is prepared by its second statement: own copies for the first grants, and the others left
own_copies : (tags : Map Grant) (own : Copies) (slot : ℕ) (gs : List CopyGrant) → AreAllGranted tags gs → is_some (own_at own slot gs) ≡ true → grants_copy tags slot ≡ true
own_copies tags own slot [] all e = absurd cc
own_copies tags own slot (g ∷ gs) all e = by_later (own_at own slot gs) refl (own_copies tags own slot gs all.1) e
  where
    by_slot : (t : Bool) → (g.slot == slot) ≡ t → is_some (if t then copy_at own slot else None) ≡ true → grants_copy tags slot ≡ true
    by_slot true is k = ap (grants_copy tags) (sym (eqb-true g.slot slot is)) ∙ all.0
    by_slot false is k = absurd cc

    by_later : (o : Option (List ℕ)) → own_at own slot gs ≡ o → (is_some (own_at own slot gs) ≡ true → grants_copy tags slot ≡ true) → is_some (option_or o (if g.slot == slot then copy_at own slot else None)) ≡ true → grants_copy tags slot ≡ true
    by_later None is later k = by_slot (g.slot == slot) refl k
    by_later (Some bytes) is later k = later (ap is_some is)

first_granted : (tags : Map Grant) (first second : List CopyGrant) → AreAllGranted tags (first ++ second) → AreAllGranted tags first
first_granted tags [] second all = tt
first_granted tags (g ∷ gs) second all = (all.0, first_granted tags gs second all.1)

second_granted : (tags : Map Grant) (first second : List CopyGrant) → AreAllGranted tags (first ++ second) → AreAllGranted tags second
second_granted tags [] second all = all
second_granted tags (g ∷ gs) second all = second_granted tags gs second all.1

pub so_prepared : (tags : Map Grant) (a : ActorState) (m : PrivateMemory) (gs : List CopyGrant) (p : Preparation) → IsPrepared a m gs p → AreGranted tags m.copies → AreAllGranted tags gs → IsGranted tags p
so_prepared tags a m gs p so all each =
    let whole = subst (AreAllGranted tags) so.split each in
    record { copies = at_slot (first_granted tags so.done p.left whole); left = second_granted tags so.done p.left whole }
  where
    at_slot : AreAllGranted tags so.done → AreGranted tags p.memory.copies
    at_slot done slot there = by_own (own_at a.memory.copies slot so.done) refl (ap is_some (sym (so.copies slot)) ∙ there)
      where
        by_own : (o : Option (List ℕ)) → own_at a.memory.copies slot so.done ≡ o → is_some (option_or o (copy_at m.copies slot)) ≡ true → grants_copy tags slot ≡ true
        by_own None is k = all slot k
        by_own (Some bytes) is k = own_copies tags a.memory.copies slot so.done done (ap is_some is)

-- the grants of the child that an actor prepares, and of the gate that it makes
abbrev pub child_grants : ActorState → Map Grant
child_grants a = (sheet_of_draft a.sheet a.made (draft_at a.drafts (a0 a))).tags
