-- What of a list follows its permutations, and lists that can be in one order alone.
use Rattle.std.proofs.Common.{◌≡◌, ℕ, zero, suc, ◌<◌, ◌≤◌, Bool, true, false, true≢false, cond, not, ◌&&◌, List, [], ◌∷◌, ◌++◌, length, get_or, set, swap, filter, flat_map, IsPermutation, refl, sym, ap, subst, ◌∙◌, append_assoc, append-nil, arith}
use Rattle.std.specs.Cmp.{IsStrictWeakOrder}
use Rattle.std.specs.List.Sorted.{ties}
use Rattle.std.proofs.lemmas.List.Sorted.{IsPermutation-refl, IsPermutation-trans, IsPermutation-cons, IsPermutation-append_left, IsPermutation-append_right, IsPermutation-append_comm, IsPermutation-middle, IsPermutation-keeps}
use Rattle.stable_sort.specs.Sorting.{insert_sorted, sorted_onto, sorted}
use Rattle.stable_sort.proofs.Sorted.{IsLow, Rises, one_order}

-- ---- lists that are made of a piece for each item

module _ {A B : Type 0} (f : A → List B) where
  pieces_exchanged : (a b rest : List B) → IsPermutation (a ++ (b ++ rest)) (b ++ (a ++ rest))
  pieces_exchanged a b rest =
      subst (λ l. IsPermutation l (b ++ (a ++ rest))) (append_assoc a b rest)
      (subst (IsPermutation ((a ++ b) ++ rest)) (append_assoc b a rest) (IsPermutation-append_left rest (a ++ b) (b ++ a) (IsPermutation-append_comm a b)))

  -- x takes the place of an item, which comes to the front
  put_at : (xs : List A) (k : ℕ) (x d : A) → k < length xs → IsPermutation (f x ++ flat_map f xs) (f (get_or xs k d) ++ flat_map f (set xs k x))
  put_at [] k x d less = absurd (omega (arith, less))
  put_at (z ∷ zs) zero x d less = pieces_exchanged (f x) (f z) (flat_map f zs)
  put_at (z ∷ zs) (suc k) x d less =
      let after = put_at zs k x d (omega (arith, less)) in
      IsPermutation-trans _ _ _ (pieces_exchanged (f x) (f z) (flat_map f zs))
      (IsPermutation-trans _ _ _ (IsPermutation-append_right (f z) _ _ after) (pieces_exchanged (f z) (f (get_or zs k d)) (flat_map f (set zs k x))))

  swapped : (xs : List A) (i j : ℕ) (d : A) → i < length xs → j < length xs → IsPermutation (flat_map f xs) (flat_map f (set (set xs i (get_or xs j d)) j (get_or xs i d)))
  swapped [] i j d p q = absurd (omega (arith, p))
  swapped (x ∷ xs) zero zero d p q = IsPermutation-refl (flat_map f (x ∷ xs))
  swapped (x ∷ xs) zero (suc j) d p q = put_at xs j x d (omega (arith, q))
  swapped (x ∷ xs) (suc i) zero d p q = put_at xs i x d (omega (arith, p))
  swapped (x ∷ xs) (suc i) (suc j) d p q = IsPermutation-append_right (f x) _ _ (swapped xs i j d (omega (arith, p)) (omega (arith, q)))

  module _ (xs : List A) where
    one_swap : (l : List A) (i j : ℕ) → i < length l → j < length l → IsPermutation (flat_map f xs) (flat_map f l) → IsPermutation (flat_map f xs) (flat_map f (swap l i j))
    one_swap [] i j p q h = absurd (omega (arith, p))
    one_swap (x ∷ l) i j p q h = IsPermutation-trans _ _ _ h (swapped (x ∷ l) i j x p q)

    pub flat_map-IsPermutation : (ys : List A) → IsPermutation xs ys → IsPermutation (flat_map f xs) (flat_map f ys)
    flat_map-IsPermutation = IsPermutation-keeps xs (λ l. IsPermutation (flat_map f xs) (flat_map f l)) (IsPermutation-refl (flat_map f xs)) one_swap

module _ {X : Type 0} (test : X → Bool) where
  abbrev if_kept : X → List X
  if_kept x = cond (test x) (x ∷ []) []

  kept_pieces : (xs : List X) → filter test xs ≡ flat_map if_kept xs
  kept_pieces [] = refl
  kept_pieces (x ∷ xs) = by_test (test x) (kept_pieces xs)
    where
      by_test : (b : Bool) → filter test xs ≡ flat_map if_kept xs → cond b (x ∷ filter test xs) (filter test xs) ≡ cond b (x ∷ []) [] ++ flat_map if_kept xs
      by_test true e = ap (λ l. x ∷ l) e
      by_test false e = e

  pub filter-IsPermutation : (xs ys : List X) → IsPermutation xs ys → IsPermutation (filter test xs) (filter test ys)
  filter-IsPermutation xs ys p =
      subst (λ l. IsPermutation l (filter test ys)) (sym (kept_pieces xs))
      (subst (IsPermutation (flat_map if_kept xs)) (sym (kept_pieces ys)) (flat_map-IsPermutation if_kept xs ys p))

-- ---- a stable sort is a permutation

module _ {X : Type 0} (before : X → X → Bool) where
  put_sorted : (x : X) (ys : List X) → IsPermutation (x ∷ ys) (insert_sorted before x ys)
  put_sorted x [] = IsPermutation-refl (x ∷ [])
  put_sorted x (y ∷ ys) = by_order (before x y) (put_sorted x ys)
    where
      by_order : (b : Bool) → IsPermutation (x ∷ ys) (insert_sorted before x ys) → IsPermutation (x ∷ y ∷ ys) (cond b (x ∷ y ∷ ys) (y ∷ insert_sorted before x ys))
      by_order true p = IsPermutation-refl (x ∷ y ∷ ys)
      by_order false p = IsPermutation-trans _ _ _ (IsPermutation-middle (x ∷ []) y ys) (IsPermutation-cons y _ _ p)

  onto_sorted : (done xs : List X) → IsPermutation (done ++ xs) (sorted_onto before done xs)
  onto_sorted done [] = subst (λ l. IsPermutation (done ++ []) l) (append-nil done) (IsPermutation-refl (done ++ []))
  onto_sorted done (x ∷ xs) =
      IsPermutation-trans _ _ _ (IsPermutation-middle done x xs)
      (IsPermutation-trans _ _ _ (IsPermutation-append_left xs (x ∷ done) (insert_sorted before x done) (put_sorted x done)) (onto_sorted (insert_sorted before x done) xs))

  pub sorted-IsPermutation : (xs : List X) → IsPermutation xs (sorted before xs)
  sorted-IsPermutation xs = onto_sorted [] xs

-- ---- a list of at most one item has one order

module _ {X : Type 0} where
  short_swap : (l : List X) (i j : ℕ) → length l ≤ 1 → i < length l → j < length l → swap l i j ≡ l
  short_swap [] i j short p q = absurd (omega (arith, p))
  short_swap (x ∷ []) zero zero short p q = refl
  short_swap (x ∷ []) zero (suc j) short p q = absurd (omega (arith, q))
  short_swap (x ∷ []) (suc i) j short p q = absurd (omega (arith, p))
  short_swap (x ∷ y ∷ l) i j short p q = absurd (omega (arith, short))

  pub short_order : (xs ys : List X) → length xs ≤ 1 → IsPermutation xs ys → ys ≡ xs
  short_order xs ys short =
      IsPermutation-keeps xs (λ l. l ≡ xs) refl (λ l i j p q same. short_swap l i j (subst (λ m. length m ≤ 1) (sym same) short) p q ∙ same) ys

-- ---- a list in which each item is less than those after it has one order

module _ {X : Type 0} (lt : X → X → Bool) (o : IsStrictWeakOrder lt) where
  -- x is less than each of them
  abbrev pub IsLessThanEach : X → List X → Type 0
  IsLessThanEach x [] = Unit {0}
  IsLessThanEach x (y ∷ ys) = (lt x y ≡ true) × IsLessThanEach x ys

  -- each item is less than those after it
  abbrev pub RisesStrictly : List X → Type 0
  RisesStrictly [] = Unit {0}
  RisesStrictly (x ∷ xs) = IsLessThanEach x xs × RisesStrictly xs

  low_below : (x : X) (ys : List X) → IsLessThanEach x ys → IsLow lt o x ys
  low_below x [] h = tt
  low_below x (y ∷ ys) h = (o.one_way x y h.0, low_below x ys h.1)

  rises_if_strict : (xs : List X) → RisesStrictly xs → Rises lt o xs
  rises_if_strict [] h = tt
  rises_if_strict (x ∷ xs) h = (low_below x xs h.0, rises_if_strict xs h.1)

  neither_less : (a b : Bool) → not a && not b ≡ true → (a ≡ false) × (b ≡ false)
  neither_less true b h = absurd (true≢false (sym h))
  neither_less false true h = absurd (true≢false (sym h))
  neither_less false false h = (refl, refl)

  -- what ties with x ties with nothing that x is less than
  none_ties : (t x : X) (ys : List X) → ties lt t x ≡ true → IsLessThanEach x ys → filter (ties lt t) ys ≡ []
  none_ties t x [] tie h = refl
  none_ties t x (y ∷ ys) tie h = by_tie (ties lt t y) refl (none_ties t x ys tie h.1)
    where
      by_tie : (b : Bool) → ties lt t y ≡ b → filter (ties lt t) ys ≡ [] → cond b (y ∷ filter (ties lt t) ys) (filter (ties lt t) ys) ≡ []
      by_tie true e none =
          let first = neither_less (lt t x) (lt x t) tie in
          let second = neither_less (lt t y) (lt y t) e in
          absurd (true≢false (sym h.0 ∙ o.chain x t y first.1 second.0))
      by_tie false e none = none

  one_ties : (t : X) (xs : List X) → RisesStrictly xs → length (filter (ties lt t) xs) ≤ 1
  one_ties t [] h = omega arith
  one_ties t (x ∷ xs) h = by_tie (ties lt t x) refl (one_ties t xs h.1)
    where
      by_tie : (b : Bool) → ties lt t x ≡ b → length (filter (ties lt t) xs) ≤ 1 → length (cond b (x ∷ filter (ties lt t) xs) (filter (ties lt t) xs)) ≤ 1
      by_tie true e few = let none = ap length (none_ties t x xs e h.0) in omega (arith, none)
      by_tie false e few = few

  pub one_strict_order : (xs ys : List X) → RisesStrictly xs → Rises lt o ys → IsPermutation xs ys → xs ≡ ys
  one_strict_order xs ys h u p =
      one_order lt o xs ys (rises_if_strict xs h) u
      (λ t. sym (short_order (filter (ties lt t) xs) (filter (ties lt t) ys) (one_ties t xs h) (filter-IsPermutation (ties lt t) xs ys p)))

  -- what a test keeps of a list in order is in order
  low_kept : (test : X → Bool) (x : X) (ys : List X) → IsLow lt o x ys → IsLow lt o x (filter test ys)
  low_kept test x [] h = tt
  low_kept test x (y ∷ ys) h = by_test (test y) (low_kept test x ys h.1)
    where
      by_test : (b : Bool) → IsLow lt o x (filter test ys) → IsLow lt o x (cond b (y ∷ filter test ys) (filter test ys))
      by_test true rest = (h.0, rest)
      by_test false rest = rest

  pub rises_kept : (test : X → Bool) (xs : List X) → Rises lt o xs → Rises lt o (filter test xs)
  rises_kept test [] h = tt
  rises_kept test (x ∷ xs) h = by_test (test x) (rises_kept test xs h.1)
    where
      by_test : (b : Bool) → Rises lt o (filter test xs) → Rises lt o (cond b (x ∷ filter test xs) (filter test xs))
      by_test true rest = (low_kept test x xs h.0, rest)
      by_test false rest = rest
