-- How what a directory keeps changes as places are claimed and released.
use Rattle.std.proofs.Common.{reverse, ◌≡◌, ◌≢◌, ℕ, ◌+◌, ◌<◌, ◌≤◌, ◌==◌, Bool, true, false, not, ◌&&◌, List, [], ◌∷◌, ◌++◌, length, set, get_or, sum_by, nat_lt, refl, sym, ◌∙◌, ap, subst, arith, inl, inr}
use Rattle.std.proofs.lemmas.Bool.{lt-ltb, eq-eqb, ne_eqb, cases_eq, and_right}
use Rattle.std.proofs.lemmas.List.{reverse-append, get_or-set_same, get_or-set_other, length-set}
use Rattle.std.proofs.lemmas.List.Sums.{sum_by-set}
use Rattle.wedge_events.specs.Directories.{contains_place}
use Rattle.tag_directory.specs.Tables.{weight, IsAllocatorState}

-- a write to the table leaves the other places
told_other : (t : Bool) (unused x p : ℕ) (xs : List ℕ) (table : List Bool) → p ≢ x → get_or table p false ≡ (nat_lt p unused && not (contains_place xs p)) → get_or (set table x t) p false ≡ (nat_lt p unused && not (contains_place xs p))
told_other t unused x p xs table other told = get_or-set_other table x p t false other ∙ told

among_other : (x p : ℕ) (xs : List ℕ) → p ≢ x → contains_place (x ∷ xs) p ≡ contains_place xs p
among_other x p xs other = let apart : (x == p) ≡ false = ne_eqb x p (λ e. other (sym e)) in rw apart

told_again : (unused x p : ℕ) (xs : List ℕ) (table : List Bool) → length table ≡ unused → x < unused → contains_place xs x ≡ false → get_or table p false ≡ (nat_lt p unused && not (contains_place (x ∷ xs) p)) → get_or (set table x true) p false ≡ (nat_lt p unused && not (contains_place xs p))
told_again unused x p xs table sized below apart told = elim (cases_eq p x) [
  | inl here ↦ rw here (get_or-set_same table x true false (omega arith) ∙ sym (rw (lt-ltb x unused below, apart)))
  | inr other ↦ told_other true unused x p xs table other (told ∙ ap (λ b. nat_lt p unused && not b) (among_other x p xs other))
]

released_tells : (unused x : ℕ) (xs : List ℕ) → (nat_lt x unused && not (contains_place (x ∷ xs) x)) ≡ false
released_tells unused x xs = rw (eq-eqb x x refl) (and_right (nat_lt x unused) false refl)

-- a place that was released is claimed
pub kept_again : (places unused room x : ℕ) (xs : List ℕ) (table : List Bool) → IsAllocatorState places unused room (x ∷ xs) table → IsAllocatorState places unused room xs (set table x true)
kept_again places unused room x xs table k =
    let free : weight (get_or table x false) ≡ 0 = ap weight (k.claims x ∙ released_tells unused x xs) in
    let write : sum_by weight (set table x true) + weight (get_or table x false) ≡ sum_by weight table + 1 = sum_by-set weight table x true false (omega (arith, k.apart.0, k.sized)) in
    record {
      within = k.within;
      roomy = k.roomy;
      apart = k.apart.2;
      sized = length-set table x true ∙ k.sized;
      claims = λ p. told_again unused x p xs table k.sized k.apart.0 k.apart.1 (k.claims p);
      counted = omega (arith, write, free, k.counted);
    }

-- the same, with the places released kept in a list of which the last is taken
pub kept_pop : (places unused room more x : ℕ) (ys zs : List ℕ) (table : List Bool) → IsAllocatorState places unused room (reverse ys) table → ys ≡ zs ++ x ∷ [] → room ≤ more → IsAllocatorState places unused more (reverse zs) (set table x true)
kept_pop places unused room more x ys zs table k is roomy =
    let P : List ℕ → Type 0 = λ xs. IsAllocatorState places unused room xs table in
    let k' = kept_again places unused room x (reverse zs) table (subst P (ap reverse is ∙ reverse-append zs (x ∷ [])) k) in
    record { within = k'.within; roomy = omega (arith, k'.roomy); apart = k'.apart; sized = k'.sized; claims = k'.claims; counted = k'.counted }
