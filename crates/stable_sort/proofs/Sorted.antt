-- A list has one stable order by a strict weak order: the one that putting its items one after another gives.
use Rattle.std.proofs.Common.{◌≡◌, ℕ, ◌<◌, ◌≤◌, Bool, true, false, true≢false, cond, not, ◌&&◌, List, [], ◌∷◌, ◌++◌, length, refl, ap, sym, ◌∙◌, suc, drop, append-nil, append_assoc, arith}
use Rattle.std.specs.Prelude.{slice_index_or}
use Rattle.std.specs.List.{filter}
use Rattle.std.specs.Cmp.{IsStrictWeakOrder}
use Rattle.std.specs.List.Sorted.{ties, IsSortedBy, IsStableBy}
use Rattle.std.proofs.lemmas.List.Sorted.{sorted_far}
use Rattle.std.proofs.lemmas.List.Elements.{filter-append}
use Rattle.stable_sort.specs.Sorting.{insert_sorted, sorted_onto, sorted}

module _ {X : Type 0} (lt : X → X → Bool) (o : IsStrictWeakOrder lt) where
  -- no item of a list is less than x
  abbrev pub IsLow : X → List X → Type 0
  IsLow x [] = Unit {0}
  IsLow x (y ∷ ys) = (lt y x ≡ false) × IsLow x ys

  -- no item is less than one before it
  abbrev pub Rises : List X → Type 0
  Rises [] = Unit {0}
  Rises (x ∷ xs) = IsLow x xs × Rises xs

  -- ---- sorted lists rise

  low_of : (x : X) (xs : List X) → ((k : ℕ) → k < length xs → lt (slice_index_or xs k x) x ≡ false) → IsLow x xs
  low_of x [] h = tt
  low_of x (y ∷ ys) h = (h 0 (omega arith), low_of x ys (λ k p. h (suc k) (omega arith)))

  rises_of : (xs : List X) → ((i j : ℕ) (d : X) → i ≤ j → j < length xs → lt (slice_index_or xs j d) (slice_index_or xs i d) ≡ false) → Rises xs
  rises_of [] h = tt
  rises_of (x ∷ xs) h = (low_of x xs (λ k p. h 0 (suc k) x (omega arith) (omega arith)), rises_of xs (λ i j d p q. h (suc i) (suc j) d (omega arith) (omega arith)))

  pub rises_if_sorted : (xs : List X) → IsSortedBy lt xs → Rises xs
  rises_if_sorted xs up = rises_of xs (sorted_far lt o xs up)

  -- ---- ties

  not_less : (x : X) (b : Bool) → lt x x ≡ b → lt x x ≡ false
  not_less x true e = o.one_way x x e
  not_less x false e = e

  irrefl : (x : X) → lt x x ≡ false
  irrefl x = not_less x (lt x x) refl

  of_parts : (x y : X) → lt x y ≡ false → lt y x ≡ false → ties lt x y ≡ true
  of_parts x y p q = (λ i. not (p i) && not (q i))

  parts : (x y : X) (a b : Bool) → lt x y ≡ a → lt y x ≡ b → ties lt x y ≡ true → (lt x y ≡ false) × (lt y x ≡ false)
  parts x y true b p q h = absurd (true≢false (sym h ∙ ap (λ (c : Bool). not c && not (lt y x)) p))
  parts x y false true p q h = absurd (true≢false (sym h ∙ (λ i. not (p i) && not (q i))))
  parts x y false false p q h = (p, q)

  tie_parts : (x y : X) → ties lt x y ≡ true → (lt x y ≡ false) × (lt y x ≡ false)
  tie_parts x y h = parts x y _ _ refl refl h

  same_item : (x : X) → ties lt x x ≡ true
  same_item x = of_parts x x (irrefl x) (irrefl x)

  kept_first : (t : X → Bool) (x : X) (xs : List X) → t x ≡ true → filter t (x ∷ xs) ≡ x ∷ filter t xs
  kept_first t x xs h = ap (λ b. cond b (x ∷ filter t xs) (filter t xs)) h

  dropped_first : (t : X → Bool) (x : X) (xs : List X) → t x ≡ false → filter t (x ∷ xs) ≡ filter t xs
  dropped_first t x xs h = ap (λ b. cond b (x ∷ filter t xs) (filter t xs)) h

  -- ---- lists that rise with the same ties are the same

  -- where something of a list ties with z, z is not less than what the whole list is not less than
  low_at : (y z w : X) (ws : List X) → lt w y ≡ false → ((filter (ties lt z) ws ≡ [] → ⊥) → lt z y ≡ false)
      → (filter (ties lt z) (w ∷ ws) ≡ [] → ⊥) → (b : Bool) → ties lt z w ≡ b → lt z y ≡ false
  low_at y z w ws low rest h true e = o.chain z w y (tie_parts z w e).0 low
  low_at y z w ws low rest h false e = rest (λ none. h (dropped_first (ties lt z) w ws e ∙ none))

  low_by_tie : (y z : X) (ys : List X) → IsLow y ys → (filter (ties lt z) ys ≡ [] → ⊥) → lt z y ≡ false
  low_by_tie y z [] low h = absurd (h refl)
  low_by_tie y z (w ∷ ws) low h = low_at y z w ws low.0 (low_by_tie y z ws low.1) h (ties lt z w) refl

  not_empty : (z : X) (zs : List X) → z ∷ zs ≡ [] → ⊥
  not_empty z zs e = let n = ap length e in omega arith

  -- the first item of one list is not less than that of another with the same ties
  first_not_less : (y z : X) (ys zs : List X) → IsLow y ys → filter (ties lt z) (y ∷ ys) ≡ filter (ties lt z) (z ∷ zs) → lt z y ≡ false
  first_not_less y z ys zs low same =
      low_by_tie y z (y ∷ ys) (irrefl y, low) (λ none. not_empty z (filter (ties lt z) zs) (sym (kept_first (ties lt z) z zs (same_item z)) ∙ sym same ∙ none))

  abbrev first_of : X → List X → X
  first_of d [] = d
  first_of d (x ∷ xs) = x

  tail_of : (b : Bool) (x : X) (ys zs : List X) → cond b (x ∷ ys) ys ≡ cond b (x ∷ zs) zs → ys ≡ zs
  tail_of true x ys zs e = ap (drop 1) e
  tail_of false x ys zs e = e

  tails : (y z : X) (ys zs : List X) → y ≡ z → ((x : X) → filter (ties lt x) (y ∷ ys) ≡ filter (ties lt x) (z ∷ zs)) → (x : X) → filter (ties lt x) ys ≡ filter (ties lt x) zs
  tails y z ys zs e same x =
      tail_of (ties lt x y) y (filter (ties lt x) ys) (filter (ties lt x) zs) (same x ∙ ap (λ w. filter (ties lt x) (w ∷ zs)) (sym e))

  pub one_order : (ys zs : List X) → Rises ys → Rises zs → ((x : X) → filter (ties lt x) ys ≡ filter (ties lt x) zs) → ys ≡ zs
  one_order [] [] u v same = refl
  one_order [] (z ∷ zs) u v same = absurd (not_empty z (filter (ties lt z) zs) (sym (kept_first (ties lt z) z zs (same_item z)) ∙ sym (same z)))
  one_order (y ∷ ys) [] u v same = absurd (not_empty y (filter (ties lt y) ys) (sym (kept_first (ties lt y) y ys (same_item y)) ∙ same y))
  one_order (y ∷ ys) (z ∷ zs) u v same =
      let tied = of_parts y z (first_not_less z y zs ys v.0 (sym (same y))) (first_not_less y z ys zs u.0 (same z)) in
      let first : y ≡ z = ap (first_of y) (sym (kept_first (ties lt y) y ys (same_item y)) ∙ same y ∙ kept_first (ties lt y) z zs tied) in
      (λ i. first i ∷ one_order ys zs u.1 v.1 (tails y z ys zs first same) i)

  -- ---- putting items one after another keeps a list that rises, and the order of ties

  low_more : (x y : X) (ys : List X) → lt y x ≡ false → IsLow y ys → IsLow x ys
  low_more x y [] h low = tt
  low_more x y (w ∷ ws) h low = (o.chain w y x low.0 h, low_more x y ws h low.1)

  low_put_at : (x y w : X) (ws ps : List X) (b : Bool) → lt x y ≡ false → IsLow y (w ∷ ws) → IsLow y ps → IsLow y (cond b (x ∷ w ∷ ws) (w ∷ ps))
  low_put_at x y w ws ps true h low rest = (h, low)
  low_put_at x y w ws ps false h low rest = (low.0, rest)

  low_put : (x y : X) (ys : List X) → lt x y ≡ false → IsLow y ys → IsLow y (insert_sorted lt x ys)
  low_put x y [] h low = (h, tt)
  low_put x y (w ∷ ws) h low = low_put_at x y w ws (insert_sorted lt x ws) (lt x w) h low (low_put x y ws h low.1)

  rises_put_at : (x y : X) (ys : List X) (b : Bool) → lt x y ≡ b → Rises (y ∷ ys) → Rises (insert_sorted lt x ys) → Rises (cond b (x ∷ y ∷ ys) (y ∷ insert_sorted lt x ys))
  rises_put_at x y ys true e u rest = ((o.one_way x y e, low_more x y ys (o.one_way x y e) u.0), u)
  rises_put_at x y ys false e u rest = (low_put x y ys e u.0, rest)

  rises_put : (x : X) (ys : List X) → Rises ys → Rises (insert_sorted lt x ys)
  rises_put x [] u = (tt, tt)
  rises_put x (y ∷ ys) u = rises_put_at x y ys (lt x y) refl u (rises_put x ys u.1)

  -- what ties with something less than all of a list ties with nothing in it
  none_at : (t x y w : X) (ws : List X) → lt x y ≡ true → ties lt t x ≡ true → lt w y ≡ false → filter (ties lt t) ws ≡ []
      → (b : Bool) → ties lt t w ≡ b → filter (ties lt t) (w ∷ ws) ≡ []
  none_at t x y w ws less tie low rest true e = absurd (true≢false (sym less ∙ o.chain x w y (o.chain x t w (tie_parts t x tie).1 (tie_parts t w e).0) low))
  none_at t x y w ws less tie low rest false e = dropped_first (ties lt t) w ws e ∙ rest

  none_tie : (t x y : X) (ys : List X) → lt x y ≡ true → ties lt t x ≡ true → IsLow y ys → filter (ties lt t) ys ≡ []
  none_tie t x y [] less tie low = refl
  none_tie t x y (w ∷ ws) less tie low = none_at t x y w ws less tie low.0 (none_tie t x y ws less tie low.1) (ties lt t w) refl

  front_at : (t x y : X) (ys : List X) → lt x y ≡ true → IsLow y ys → (b : Bool) → ties lt t x ≡ b
      → filter (ties lt t) (x ∷ y ∷ ys) ≡ filter (ties lt t) ((y ∷ ys) ++ x ∷ [])
  front_at t x y ys less low true e =
      let none = none_tie t x y (y ∷ ys) less e (irrefl y, low) in
      kept_first (ties lt t) x (y ∷ ys) e
      ∙ ap (λ (l : List X). x ∷ l) none
      ∙ sym (filter-append (ties lt t) (y ∷ ys) (x ∷ []) ∙ (λ i. none i ++ kept_first (ties lt t) x [] e i))
  front_at t x y ys less low false e =
      dropped_first (ties lt t) x (y ∷ ys) e
      ∙ sym (filter-append (ties lt t) (y ∷ ys) (x ∷ []) ∙ ap (λ (l : List X). filter (ties lt t) (y ∷ ys) ++ l) (dropped_first (ties lt t) x [] e) ∙ append-nil (filter (ties lt t) (y ∷ ys)))

  ties_put_at : (t x y : X) (ys : List X) → IsLow y ys → filter (ties lt t) (insert_sorted lt x ys) ≡ filter (ties lt t) (ys ++ x ∷ [])
      → (b : Bool) → lt x y ≡ b → filter (ties lt t) (cond b (x ∷ y ∷ ys) (y ∷ insert_sorted lt x ys)) ≡ filter (ties lt t) ((y ∷ ys) ++ x ∷ [])
  ties_put_at t x y ys low rest true e = front_at t x y ys e low (ties lt t x) refl
  ties_put_at t x y ys low rest false e = ap (λ (l : List X). cond (ties lt t y) (y ∷ l) l) rest

  ties_put : (t x : X) (ys : List X) → Rises ys → filter (ties lt t) (insert_sorted lt x ys) ≡ filter (ties lt t) (ys ++ x ∷ [])
  ties_put t x [] u = refl
  ties_put t x (y ∷ ys) u = ties_put_at t x y ys u.0 (ties_put t x ys u.1) (lt x y) refl

  pub rises_onto : (done xs : List X) → Rises done → Rises (sorted_onto lt done xs)
  rises_onto done [] u = u
  rises_onto done (x ∷ xs) u = rises_onto (insert_sorted lt x done) xs (rises_put x done u)

  ties_onto : (t : X) (done xs : List X) → Rises done → filter (ties lt t) (sorted_onto lt done xs) ≡ filter (ties lt t) (done ++ xs)
  ties_onto t done [] u = ap (filter (ties lt t)) (sym (append-nil done))
  ties_onto t done (x ∷ xs) u =
      ties_onto t (insert_sorted lt x done) xs (rises_put x done u)
      ∙ filter-append (ties lt t) (insert_sorted lt x done) xs
      ∙ ap (λ (l : List X). l ++ filter (ties lt t) xs) (ties_put t x done u)
      ∙ sym (filter-append (ties lt t) (done ++ x ∷ []) xs)
      ∙ ap (filter (ties lt t)) (append_assoc done (x ∷ []) xs)

  -- a list in order, with the ties as they stood, is the sorted list
  pub is_sorted : (xs ys : List X) → IsSortedBy lt ys → IsStableBy lt xs ys → ys ≡ sorted lt xs
  is_sorted xs ys up stable = one_order ys (sorted lt xs) (rises_if_sorted ys up) (rises_onto [] xs tt) (λ t. stable t ∙ sym (ties_onto t [] xs tt))
