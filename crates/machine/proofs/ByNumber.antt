-- Entries by number: what is found once one is put in, and once those of a number are taken out.
use Rattle.std.proofs.Common.{◌≡◌, ℕ, Bool, true, false, not, List, [], ◌∷◌, refl, sym, ap, ◌∙◌, arith}
use Rattle.std.specs.Prelude.{Option, Some, None, if◌then◌else◌}
use Rattle.std.specs.BTreeMap.{insert_entry, is_at}
use Rattle.std.specs.List.{filter}
use Rattle.std.specs.Map.{lookup}
use Rattle.std.specs.Ordering.{nat_cmp, match_ordering}
use Rattle.std.specs.declared.cmp.Ordering.{Ordering}
use Rattle.std.specs.declared.cmp.Ordering.TheVariants.{Less, Equal, Greater}

abbrev is_number : ℕ → ℕ → Bool
is_number k n = is_at (nat_cmp k) n

pub same_number : (j k : ℕ) → is_number j k ≡ true → j ≡ k
same_number j k e = grind (arith, e)

pub number_itself : (k : ℕ) → is_number k k ≡ true
number_itself k = grind arith

module _ {X : Type 0} where
  abbrev found : List (ℕ × X) → ℕ → Option X
  found cs k = lookup (is_number k) cs

  abbrev with : List (ℕ × X) → ℕ → X → List (ℕ × X)
  with cs k x = insert_entry nat_cmp cs k x

  abbrev without : List (ℕ × X) → ℕ → List (ℕ × X)
  without cs k = filter (λ c. not (is_number k c.0)) cs

  pub found_with : (cs : List (ℕ × X)) (k : ℕ) (x : X) (j : ℕ) → found (with cs k x) j ≡ (if is_number j k then Some x else found cs j)
  found_with [] k x j = refl
  found_with (c ∷ cs) k x j = by_order (nat_cmp k c.0) refl (found_with cs k x j)
    where
      equal_case : k ≡ c.0 → (t : Bool) → is_number j k ≡ t → (if is_number j c.0 then Some x else found cs j) ≡ (if t then Some x else if is_number j c.0 then Some c.1 else found cs j)
      equal_case is true e = ap (λ u. if u then Some x else found cs j) (ap (is_number j) (sym is) ∙ e)
      equal_case is false e =
          let no : is_number j c.0 ≡ false = ap (is_number j) (sym is) ∙ e in
          ap (λ u. if u then Some x else found cs j) no ∙ sym (ap (λ u. if u then Some c.1 else found cs j) no)

      greater_case : (k ≡ c.0 → ⊥) → (t u : Bool) → is_number j k ≡ t → is_number j c.0 ≡ u → (if u then Some c.1 else if t then Some x else found cs j) ≡ (if t then Some x else if u then Some c.1 else found cs j)
      greater_case apart true true e f = absurd (apart (sym (same_number j k e) ∙ same_number j c.0 f))
      greater_case apart true false e f = refl
      greater_case apart false true e f = refl
      greater_case apart false false e f = refl

      by_order : (o : Ordering) → nat_cmp k c.0 ≡ o → found (with cs k x) j ≡ (if is_number j k then Some x else found cs j)
          → found (match_ordering o ((k, x) ∷ c ∷ cs) ((c.0, x) ∷ cs) (c ∷ with cs k x)) j ≡ (if is_number j k then Some x else if is_number j c.0 then Some c.1 else found cs j)
      by_order Less e others = refl
      by_order Equal e others = equal_case (grind (arith, e)) (is_number j k) refl
      by_order Greater e others = ap (λ o. if is_number j c.0 then Some c.1 else o) others ∙ greater_case (λ is. grind (arith, e, is)) (is_number j k) (is_number j c.0) refl refl

  pub found_there : (cs : List (ℕ × X)) (k : ℕ) (x : X) → found (with cs k x) k ≡ Some x
  found_there cs k x = found_with cs k x k ∙ ap (λ t. if t then Some x else found cs k) (number_itself k)

  pub found_beside : (cs : List (ℕ × X)) (k : ℕ) (x : X) (j : ℕ) → (j ≡ k → ⊥) → found (with cs k x) j ≡ found cs j
  found_beside cs k x j apart = found_with cs k x j ∙ by_test (is_number j k) refl
    where
      by_test : (t : Bool) → is_number j k ≡ t → (if t then Some x else found cs j) ≡ found cs j
      by_test true e = absurd (apart (same_number j k e))
      by_test false e = refl

  pub found_elsewhere : (cs : List (ℕ × X)) (k j : ℕ) → (j ≡ k → ⊥) → found (without cs k) j ≡ found cs j
  found_elsewhere [] k j apart = refl
  found_elsewhere (c ∷ cs) k j apart = by_test (is_number k c.0) (is_number j c.0) refl refl (found_elsewhere cs k j apart)
    where
      by_test : (t u : Bool) → is_number k c.0 ≡ t → is_number j c.0 ≡ u → found (without cs k) j ≡ found cs j
          → found (if not t then c ∷ without cs k else without cs k) j ≡ (if u then Some c.1 else found cs j)
      by_test true true e f others = absurd (apart (same_number j c.0 f ∙ sym (same_number k c.0 e)))
      by_test true false e f others = others
      by_test false true e f others = ap (λ x. if x then Some c.1 else found (without cs k) j) f
      by_test false false e f others = ap (λ x. if x then Some c.1 else found (without cs k) j) f ∙ others

  pub found_gone : (cs : List (ℕ × X)) (k : ℕ) → found (without cs k) k ≡ None
  found_gone [] k = refl
  found_gone (c ∷ cs) k = by_test (is_number k c.0) refl (found_gone cs k)
    where
      by_test : (t : Bool) → is_number k c.0 ≡ t → found (without cs k) k ≡ None → found (if not t then c ∷ without cs k else without cs k) k ≡ None
      by_test true e others = others
      by_test false e others = ap (λ x. if x then Some c.1 else found (without cs k) k) e ∙ others
