-- The greatest of numbers that is not above one: the same in any order, and in ascending numbers the
-- one before the first that is above it.
use Rattle.std.proofs.Common.{◌≡◌, ◌⊎◌, ℕ, zero, suc, ◌-◌, ◌<◌, ◌≤◌, Bool, true, false, List, [], ◌∷◌, length, get_or, refl, sym, subst, ◌∙◌, arith, inl, inr}
use Rattle.std.specs.List.{All, Contains}
use Rattle.std.specs.List.Sorted.{IsPermutation, IsNonDecreasing}
use Rattle.std.specs.Prelude.{nat_le}
use Rattle.std.proofs.lemmas.List.Sorted.{All-permutation, Contains-permutation}
use Rattle.image_form.specs.Address.{better, greatest_from}

-- a number that is at least `best`, at least each of these that is not above an address, and one of
-- them, or `best`
pub record IsGreatest (best address : ℕ) (numbers : List ℕ) (r : ℕ) : Type 0 where
  pub least : best ≤ r
  pub above : All (λ a. a ≤ address → a ≤ r) numbers
  pub is : (r ≡ best) ⊎ ((r ≤ address) × Contains numbers r)

above_first : (address r a : ℕ) (numbers : List ℕ) → (a ≤ address → a ≤ r) → All (λ x. x ≤ address → x ≤ r) numbers → All (λ x. x ≤ address → x ≤ r) (a ∷ numbers)
above_first address r a numbers first all zero d lt = first
above_first address r a numbers first all (suc k) d lt = all k d (omega (arith, lt))

contains_more : (a r : ℕ) (numbers : List ℕ) → Contains numbers r → Contains (a ∷ numbers) r
contains_more a r numbers c = (suc c.0, (let lt = c.1 in omega (arith, lt)), c.2)

contains_first : (a r : ℕ) (numbers : List ℕ) → r ≡ a → Contains (a ∷ numbers) r
contains_first a r numbers e = (0, omega arith, sym e)

-- the better of two
record IsBetter (best address a r : ℕ) : Type 0 where
  least : best ≤ r
  above : a ≤ address → a ≤ r
  is : (r ≡ best) ⊎ ((r ≤ address) × (r ≡ a))

is_better : (best address a : ℕ) → IsBetter best address a (better best address a)
is_better best address a = by_le (nat_le a address) refl
  where
    by_le : (t : Bool) → nat_le a address ≡ t → IsBetter best address a (better best address a)
    by_le true e = grind arith
    by_le false e = grind arith

pub greatest_is : (best address : ℕ) (numbers : List ℕ) → IsGreatest best address numbers (greatest_from best address numbers)
greatest_is best address [] = record { least = omega arith; above = λ k d lt. absurd (omega (arith, lt)); is = inl refl }
greatest_is best address (a ∷ rest) =
    let b = better best address a in
    let r = greatest_from b address rest in
    let one = is_better best address a in
    let more = greatest_is b address rest in
    let low = more.least in
    let low_one = one.least in
    record {
      least = omega (arith, low, low_one);
      above = above_first address r a rest (λ le. let up = one.above le in omega (arith, up, low)) more.above;
      is = elim more.is [
        | inl same ↦ elim one.is [
          | inl first ↦ inl (same ∙ first)
          | inr here ↦ inr (subst (λ x. x ≤ address) (sym same) here.0, contains_first a r rest (same ∙ here.1))
        ]
        | inr there ↦ inr (there.0, contains_more a r rest there.1)
      ];
    }

at_most : (best address : ℕ) (numbers : List ℕ) (r s : ℕ) → IsGreatest best address numbers r → IsGreatest best address numbers s → r ≤ s
at_most best address numbers r s one other = elim one.is [
  | inl same ↦ (let low = other.least in omega (arith, same, low))
  | inr there ↦
      let k = there.1.0 in
      let here : get_or numbers k r ≡ r = there.1.2 in
      let up : r ≤ address → r ≤ s = subst (λ x. x ≤ address → x ≤ s) here (other.above k r there.1.1) in
      up there.0
]

greatest_one : (best address : ℕ) (numbers : List ℕ) (r s : ℕ) → IsGreatest best address numbers r → IsGreatest best address numbers s → r ≡ s
greatest_one best address numbers r s one other =
    let le = at_most best address numbers r s one other in
    let ge = at_most best address numbers s r other one in
    omega (arith, le, ge)

-- in any order
pub greatest_permuted : (address : ℕ) (xs ys : List ℕ) → IsPermutation xs ys → greatest_from 0 address ys ≡ greatest_from 0 address xs
greatest_permuted address xs ys moved =
    let g = greatest_is 0 address xs in
    let r = greatest_from 0 address xs in
    greatest_one 0 address ys (greatest_from 0 address ys) r (greatest_is 0 address ys) (record {
      least = g.least;
      above = All-permutation (λ a. a ≤ address → a ≤ r) xs ys moved g.above;
      is = elim g.is [
        | inl same ↦ inl same
        | inr there ↦ inr (there.0, Contains-permutation xs ys r moved there.1)
      ];
    })

-- all are above the address
pub greatest_none : (address : ℕ) (numbers : List ℕ) → All (λ a. address < a) numbers → greatest_from 0 address numbers ≡ 0
greatest_none address numbers all =
    greatest_one 0 address numbers (greatest_from 0 address numbers) 0 (greatest_is 0 address numbers) (record {
      least = omega arith;
      above = λ k d lt le. (let up = all k d lt in absurd (omega (arith, up, le)));
      is = inl refl;
    })

-- the first `count` are not above the address, and the others are
pub greatest_last : (address : ℕ) (numbers : List ℕ) (count r : ℕ) → IsNonDecreasing numbers → 0 < count → count ≤ length numbers → r ≡ get_or numbers (count - 1) r → r ≤ address
    → ((k d : ℕ) → count ≤ k → k < length numbers → address < get_or numbers k d) → greatest_from 0 address numbers ≡ r
greatest_last address numbers count r rising some within is low beyond =
    greatest_one 0 address numbers (greatest_from 0 address numbers) r (greatest_is 0 address numbers) (record {
      least = omega arith;
      above = λ k d lt le. by_index k d lt le;
      is = inr (low, (count - 1, omega (arith, some, within), sym is));
    })
  where
    get_any : (xs : List ℕ) (k d e : ℕ) → k < length xs → get_or xs k d ≡ get_or xs k e
    get_any [] k d e lt = absurd (omega (arith, lt))
    get_any (x ∷ xs) zero d e lt = refl
    get_any (x ∷ xs) (suc k) d e lt = get_any xs k d e (omega (arith, lt))

    nat_split : (k n : ℕ) → (k < n) ⊎ (n ≤ k)
    nat_split k n = grind arith

    by_index : (k d : ℕ) → k < length numbers → get_or numbers k d ≤ address → get_or numbers k d ≤ r
    by_index k d lt le = elim (nat_split k count) [
      | inl before ↦ (let up = rising k (count - 1) d (omega (arith, before)) (omega (arith, some, within)) in
          let same : get_or numbers (count - 1) d ≡ get_or numbers (count - 1) r = get_any numbers (count - 1) d r (omega (arith, some, within)) in
          omega (arith, up, same, is))
      | inr after ↦ (let up = beyond k d after lt in absurd (omega (arith, up, le)))
    ]
