-- Reading the text from an address on, and the greatest address that is not above another.
use Rattle.std.proofs.Common.{◌≡◌, ◌⊎◌, inl, inr, ℕ, suc, ◌+◌, ◌-◌, ◌<◌, ◌≤◌, Bool, true, ◌||◌, eqb, List, [], ◌∷◌, All, refl, sym, ap, ◌∙◌, arith}
use Rattle.std.proofs.lemmas.Bool.Decides.{nat_tests}
use Rattle.std.proofs.lemmas.List.Elements.{All-from_recursion}
use Rattle.std.specs.List.{AllByRecursion}
use Rattle.std.specs.Ordering.{nat_cmp, is_eq}
use Rattle.wedge_base.specs.Images.{Image, in_text, text_byte, read_text, begins_at}
use Rattle.wedge_base.specs.declared.image.Procedure.{Procedure}
use Rattle.wedge_base.specs.Maps.{is_among}
use Rattle.image_form.specs.Rules.{addresses}
use Rattle.image_form.specs.Address.{better, greatest_from}

pub read_next : (i : Image) (address size k : ℕ) → k < size → read_text i (address + k) (size - k) ≡ text_byte i (address + k) ∷ read_text i (address + (k + 1)) (size - (k + 1))
read_next i address size k h =
    let count : size - k ≡ suc (size - (k + 1)) = omega arith in
    let next : address + k + 1 ≡ address + (k + 1) = omega arith in
    rw count (ap (λ (x : ℕ). text_byte i (address + k) ∷ read_text i x (size - (k + 1))) next)

-- one step
better_least : (best address a : ℕ) → best ≤ better best address a
better_least best address a = grind (arith, nat_tests)

better_bounded : (best address a : ℕ) → best ≤ address → better best address a ≤ address
better_bounded best address a h = grind (arith, nat_tests)

better_covers : (best address a : ℕ) → a ≤ address → a ≤ better best address a
better_covers best address a h = grind (arith, nat_tests)

better_is : (best address a : ℕ) → (better best address a ≡ best) ⊎ (better best address a ≡ a)
better_is best address a = grind (arith, nat_tests)

-- all steps
pub greatest_least : (best address : ℕ) (ns : List ℕ) → best ≤ greatest_from best address ns
greatest_least best address [] = omega arith
greatest_least best address (a ∷ ns) = omega (arith, better_least best address a, greatest_least (better best address a) address ns)

pub greatest_bounded : (best address : ℕ) (ns : List ℕ) → best ≤ address → greatest_from best address ns ≤ address
greatest_bounded best address [] h = h
greatest_bounded best address (a ∷ ns) h = greatest_bounded (better best address a) address ns (better_bounded best address a h)

covers : (best address : ℕ) (ns : List ℕ) → AllByRecursion (λ a. a ≤ address → a ≤ greatest_from best address ns) ns
covers best address [] = tt
covers best address (a ∷ ns) = (λ h. omega (arith, better_covers best address a h, greatest_least (better best address a) address ns), covers (better best address a) address ns)

pub greatest_covers : (best address : ℕ) (ns : List ℕ) → All (λ a. a ≤ address → a ≤ greatest_from best address ns) ns
greatest_covers best address ns = All-from_recursion (λ a. a ≤ address → a ≤ greatest_from best address ns) ns (covers best address ns)

first_among : (a : ℕ) (ns : List ℕ) (n : ℕ) → a ≡ n → is_among (a ∷ ns) n ≡ true
first_among a ns n h = grind (arith, nat_tests)

later_among : (a : ℕ) (ns : List ℕ) (n : ℕ) → is_among ns n ≡ true → is_among (a ∷ ns) n ≡ true
later_among a ns n h = grind (arith, nat_tests)

either : (a n : ℕ) (b : Bool) → (is_eq (nat_cmp n a) || b) ≡ true → (a ≡ n) ⊎ (b ≡ true)
either a n b h = grind (arith, nat_tests)

pub greatest_is : (best address : ℕ) (ns : List ℕ) → (greatest_from best address ns ≡ best) ⊎ (is_among ns (greatest_from best address ns) ≡ true)
greatest_is best address [] = inl refl
greatest_is best address (a ∷ ns) =
    let r = greatest_from (better best address a) address ns in
    elim (greatest_is (better best address a) address ns) [
      | inr h ↦ inr (later_among a ns r h)
      | inl e ↦ elim (better_is best address a) [
        | inl same ↦ inl (e ∙ same)
        | inr new ↦ inr (first_among a ns r (sym (e ∙ new)))
      ]
    ]

among_covered : (best address : ℕ) (ns : List ℕ) (n : ℕ) → is_among ns n ≡ true → n ≤ address → n ≤ greatest_from best address ns
among_covered best address [] n h le = absurd cc
among_covered best address (a ∷ ns) n h le =
    elim (either a n (is_among ns n) h) [
      | inl e ↦ omega (arith, e, better_covers best address a, greatest_least (better best address a) address ns)
      | inr later ↦ among_covered (better best address a) address ns n later le
    ]

same_test : (a n : ℕ) → is_eq (nat_cmp n a) ≡ eqb a n
same_test a n = grind (arith, nat_tests)

begins_among : (ps : List Procedure) (address : ℕ) → is_among (addresses ps) address ≡ begins_at ps address
begins_among [] address = refl
begins_among (p ∷ ps) address = (λ i. same_test p.address address i || begins_among ps address i)

-- where a procedure begins at a positive address that is not above, the greatest is a procedure's
pub greatest_begins : (ps : List Procedure) (address n : ℕ) → begins_at ps n ≡ true → 0 < n → n ≤ address → begins_at ps (greatest_from 0 address (addresses ps)) ≡ true
greatest_begins ps address n h positive le =
    let covered : n ≤ greatest_from 0 address (addresses ps) = among_covered 0 address (addresses ps) n (begins_among ps n ∙ h) le in
    elim (greatest_is 0 address (addresses ps)) [
      | inl none ↦ absurd (omega (arith, none, covered))
      | inr found ↦ sym (begins_among ps (greatest_from 0 address (addresses ps))) ∙ found
    ]

pub base_not_above : (i : Image) (address n : ℕ) → in_text i address n ≡ true → i.base ≤ address
base_not_above i address n h = grind (arith, nat_tests)
