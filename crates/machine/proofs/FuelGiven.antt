-- Children by number: how much fuel they began with when one is added and when one is taken away.
use Rattle.std.proofs.Common.{◌≡◌, ℕ, ◌+◌, ◌≤◌, Bool, true, false, not, [], ◌∷◌, refl, sym, ap, subst, ◌∙◌, arith}
use Rattle.std.specs.Prelude.{Option, Some, None, IsSomeAnd, if◌then◌else◌}
use Rattle.std.specs.BTreeMap.{is_at}
use Rattle.std.specs.List.{AllByRecursion}
use Rattle.std.specs.List.Sorted.{IsStrictlySortedBy}
use Rattle.std.specs.Map.{remove_entry, keys_of}
use Rattle.std.specs.Ordering.{nat_cmp, is_eq, match_ordering}
use Rattle.std.specs.declared.cmp.Ordering.{Ordering}
use Rattle.std.specs.declared.cmp.Ordering.TheVariants.{Less, Equal, Greater}
use Rattle.machine.specs.Children.{Children, is_number, fuel_given, with_child, without_child, all_given}
use Rattle.machine.proofs.ByNumber.{same_number, number_itself, found_with, found_elsewhere, found_gone}

-- ---- one more

given_by_order : (o : Ordering) (k fuel : ℕ) (c : ℕ × ℕ) (cs rest_ : Children) → all_given rest_ ≤ all_given cs + fuel
    → all_given (match_ordering o ((k, fuel) ∷ c ∷ cs) ((c.0, fuel) ∷ cs) (c ∷ rest_)) ≤ c.1 + all_given cs + fuel
given_by_order Less k fuel c cs rest_ h = omega arith
given_by_order Equal k fuel c cs rest_ h = omega arith
given_by_order Greater k fuel c cs rest_ h = omega (arith, h)

pub given_with : (cs : Children) (k fuel : ℕ) → all_given (with_child cs k fuel) ≤ all_given cs + fuel
given_with [] k fuel = omega arith
given_with (c ∷ cs) k fuel = given_by_order (nat_cmp k c.0) k fuel c cs (with_child cs k fuel) (given_with cs k fuel)

-- ---- one less

less_if : (t : Bool) (c : ℕ × ℕ) (cs : Children) → all_given (if not t then c ∷ cs else cs) ≤ c.1 + all_given cs
less_if true c cs = omega arith
less_if false c cs = omega arith

given_without : (cs : Children) (k : ℕ) → all_given (without_child cs k) ≤ all_given cs
given_without [] k = omega arith
given_without (c ∷ cs) k = omega (arith, less_if (is_number k c.0) c (without_child cs k), given_without cs k)

-- those without a child began with less, by at least what it was given
pub taken_back : (cs : Children) (k g : ℕ) → fuel_given cs k ≡ Some g → g + all_given (without_child cs k) ≤ all_given cs
taken_back [] k g e = absurd cc
taken_back (c ∷ cs) k g e = by_test (is_number k c.0) (taken_back cs k g) e
  where
    by_test : (t : Bool) → (fuel_given cs k ≡ Some g → g + all_given (without_child cs k) ≤ all_given cs) → (if t then Some c.1 else fuel_given cs k) ≡ Some g → g + all_given (if not t then c ∷ without_child cs k else without_child cs k) ≤ c.1 + all_given cs
    by_test true others h = let is : c.1 ≡ g = cc in omega (arith, is, given_without cs k)
    by_test false others h = omega (arith, others h)

pub joined_fits : (cs : Children) (k fuel : ℕ) → IsSomeAnd (fuel_given cs k) (λ given. fuel ≤ given) → fuel + all_given (without_child cs k) ≤ all_given cs
joined_fits cs k fuel h = by_given (fuel_given cs k) refl h
  where
    by_given : (o : Option ℕ) → fuel_given cs k ≡ o → IsSomeAnd o (λ given. fuel ≤ given) → fuel + all_given (without_child cs k) ≤ all_given cs
    by_given None e h = absurd h
    by_given (Some g) e h = omega (arith, taken_back cs k g e, h)

-- the entry of a number is taken away: there is one at most, since the numbers rise
none_left : (k : ℕ) (cs : Children) → AllByRecursion (λ c. nat_cmp k c ≡ Less) (keys_of cs) → without_child cs k ≡ cs
none_left k [] h = refl
none_left k (c ∷ cs) h = ap (λ o. if not (is_eq o) then c ∷ without_child cs k else without_child cs k) h.0 ∙ ap (λ ds. c ∷ ds) (none_left k cs h.1)

pub removed_is : (k : ℕ) (cs : Children) → IsStrictlySortedBy nat_cmp (keys_of cs) → remove_entry (is_at (nat_cmp k)) cs ≡ without_child cs k
unfolding IsStrictlySortedBy
removed_is k [] h = refl
removed_is k (c ∷ cs) h = by_order (nat_cmp k c.0) refl (removed_is k cs h.1)
  where
    cmp_same : (x y : ℕ) → nat_cmp x y ≡ Equal → x ≡ y
    cmp_same x y e = grind (arith, e)

    by_order : (o : Ordering) → nat_cmp k c.0 ≡ o → remove_entry (is_at (nat_cmp k)) cs ≡ without_child cs k → (if is_eq o then cs else c ∷ remove_entry (is_at (nat_cmp k)) cs) ≡ (if not (is_eq o) then c ∷ without_child cs k else without_child cs k)
    by_order Less e others = ap (λ ds. c ∷ ds) others
    by_order Greater e others = ap (λ ds. c ∷ ds) others
    by_order Equal e others = sym (none_left k cs (subst (λ n. AllByRecursion (λ d. nat_cmp n d ≡ Less) (keys_of cs)) (sym (cmp_same k c.0 e)) h.0))

-- ---- who is among them

pub number_is : (j k : ℕ) → is_number j k ≡ true → j ≡ k
number_is j k e = same_number j k e

pub number_self : (k : ℕ) → is_number k k ≡ true
number_self k = number_itself k

pub given_there : (cs : Children) (k g j : ℕ) → fuel_given (with_child cs k g) j ≡ (if is_number j k then Some g else fuel_given cs j)
given_there cs k g j = found_with cs k g j

pub given_elsewhere : (cs : Children) (k j : ℕ) → (j ≡ k → ⊥) → fuel_given (without_child cs k) j ≡ fuel_given cs j
given_elsewhere cs k j apart = found_elsewhere cs k j apart

pub given_gone : (cs : Children) (k : ℕ) → fuel_given (without_child cs k) k ≡ None
given_gone cs k = found_gone cs k
