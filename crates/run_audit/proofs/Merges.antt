-- Two lists in order, merged, are in order, and what ties stays as it was in the one list before the other.
use Rattle.std.proofs.Common.{◌≡◌, ℕ, zero, suc, ◌+◌, ◌<◌, Bool, true, false, true≢false, cond, not, ◌&&◌, List, [], ◌∷◌, ◌++◌, length, refl, ap, sym, ◌∙◌, arith}
use Rattle.std.specs.Prelude.{slice_index_or, if◌then◌else◌}
use Rattle.std.specs.List.{filter}
use Rattle.std.specs.Cmp.{IsStrictWeakOrder}
use Rattle.std.specs.List.Sorted.{ties, IsSortedBy, IsStableBy}
use Rattle.std.proofs.lemmas.List.Elements.{filter-append}
use Rattle.stable_sort.proofs.Sorted.{IsLow, Rises, rises_if_sorted}
use Rattle.run_audit.specs.Merges.{merged_at, merged}

module _ {X : Type 0} (lt : X → X → Bool) (o : IsStrictWeakOrder lt) where
  -- ---- lists that rise are sorted

  low_first : (x : X) (ys : List X) (d : X) → IsLow lt o x ys → 0 < length ys → lt (slice_index_or ys 0 d) x ≡ false
  low_first x [] d low less = absurd (omega (arith, less))
  low_first x (y ∷ ys) d low less = low.0

  sorted_at : (xs : List X) → Rises lt o xs → (k : ℕ) (d : X) → suc k < length xs → lt (slice_index_or xs (suc k) d) (slice_index_or xs k d) ≡ false
  sorted_at [] u k d less = absurd (omega (arith, less))
  sorted_at (x ∷ xs) u zero d less = low_first x xs d u.0 (omega (arith, less))
  sorted_at (x ∷ xs) u (suc k) d less = sorted_at xs u.1 k d (omega (arith, less))

  sorted_if_rises : (xs : List X) → Rises lt o xs → IsSortedBy lt xs
  sorted_if_rises xs u = λ k d from less.
      let same : k + 1 ≡ suc k = omega arith in
      ap (λ m. lt (slice_index_or xs m d) (slice_index_or xs k d)) same ∙ sorted_at xs u k d (omega (arith, less))

  -- ---- a merge of lists that rise rises

  low_more : (x y : X) (ys : List X) → lt y x ≡ false → IsLow lt o y ys → IsLow lt o x ys
  low_more x y [] h low = tt
  low_more x y (w ∷ ws) h low = (o.chain w y x low.0 h, low_more x y ws h low.1)

  abbrev KeepsLow : List X → (List X → List X) → Type 0
  KeepsLow xs rest = (w : X) (zs : List X) → IsLow lt o w xs → IsLow lt o w zs → IsLow lt o w (rest zs)

  low_at : (w x : X) (xs : List X) (rest : List X → List X) → KeepsLow xs rest → IsLow lt o w (x ∷ xs) → (ys : List X) → IsLow lt o w ys → IsLow lt o w (merged_at lt x rest ys)
  low_at w x xs rest keeps low [] m = (low.0, keeps w [] low.1 tt)
  low_at w x xs rest keeps low (y ∷ ys) m = by_first (lt y x) (low_at w x xs rest keeps low ys m.1)
    where
      by_first : (b : Bool) → IsLow lt o w (merged_at lt x rest ys) → IsLow lt o w (if b then y ∷ merged_at lt x rest ys else x ∷ rest (y ∷ ys))
      by_first true r = (m.0, r)
      by_first false r = (low.0, keeps w (y ∷ ys) low.1 m)

  low_merged : (xs : List X) → KeepsLow xs (merged lt xs)
  low_merged [] w zs low m = m
  low_merged (x ∷ xs) w zs low m = low_at w x xs (merged lt xs) (low_merged xs) low zs m

  rises_at : (x : X) (xs : List X) (rest : List X → List X) → KeepsLow xs rest → ((zs : List X) → Rises lt o zs → Rises lt o (rest zs)) → IsLow lt o x xs → (ys : List X) → Rises lt o ys → Rises lt o (merged_at lt x rest ys)
  rises_at x xs rest keeps rise low [] u = (keeps x [] low tt, rise [] tt)
  rises_at x xs rest keeps rise low (y ∷ ys) u = by_first (lt y x) refl (rises_at x xs rest keeps rise low ys u.1)
    where
      by_first : (b : Bool) → lt y x ≡ b → Rises lt o (merged_at lt x rest ys) → Rises lt o (if b then y ∷ merged_at lt x rest ys else x ∷ rest (y ∷ ys))
      by_first true e r = (low_at y x xs rest keeps (o.one_way y x e, low_more y x xs (o.one_way y x e) low) ys u.0, r)
      by_first false e r = (keeps x (y ∷ ys) low (e, low_more x y ys e u.0), rise (y ∷ ys) u)

  rises_merged : (xs ys : List X) → Rises lt o xs → Rises lt o ys → Rises lt o (merged lt xs ys)
  rises_merged [] ys u v = v
  rises_merged (x ∷ xs) ys u v = rises_at x xs (merged lt xs) (low_merged xs) (λ zs w. rises_merged xs zs u.1 w) u.0 ys v

  pub merged_sorted : (xs ys : List X) → IsSortedBy lt xs → IsSortedBy lt ys → IsSortedBy lt (merged lt xs ys)
  merged_sorted xs ys u v = sorted_if_rises (merged lt xs ys) (rises_merged xs ys (rises_if_sorted lt o xs u) (rises_if_sorted lt o ys v))

  -- ---- and what ties stays as it was

  parts : (x y : X) (a b : Bool) → lt x y ≡ a → lt y x ≡ b → ties lt x y ≡ true → (lt x y ≡ false) × (lt y x ≡ false)
  parts x y true b p q h = absurd (true≢false (sym h ∙ ap (λ (c : Bool). not c && not (lt y x)) p))
  parts x y false true p q h = absurd (true≢false (sym h ∙ (λ i. not (p i) && not (q i))))
  parts x y false false p q h = (p, q)

  tie_parts : (x y : X) → ties lt x y ≡ true → (lt x y ≡ false) × (lt y x ≡ false)
  tie_parts x y h = parts x y _ _ refl refl h

  -- what ties with something less than all of a list ties with nothing in it
  none_at : (t y w : X) → ties lt t y ≡ true → lt w y ≡ false → lt y w ≡ true → (b : Bool) → ties lt t w ≡ b → b ≡ false
  none_at t y w tie low less false e = refl
  none_at t y w tie low less true e = absurd (true≢false (sym less ∙ o.chain y t w (tie_parts t y tie).1 (tie_parts t w e).0))

  -- y is less than x, which is not greater than any of xs
  below : (x y w : X) → lt y x ≡ true → lt w x ≡ false → (b : Bool) → lt y w ≡ b → b ≡ true
  below x y w less low true e = refl
  below x y w less low false e = absurd (true≢false (sym less ∙ o.chain y w x e low))

  none_tie : (t x y : X) (ws : List X) → lt y x ≡ true → ties lt t y ≡ true → IsLow lt o x ws → filter (ties lt t) ws ≡ []
  none_tie t x y [] less tie low = refl
  none_tie t x y (w ∷ ws) less tie low =
      let under : lt y w ≡ true = below x y w less low.0 (lt y w) refl in
      let untied : ties lt t w ≡ false = none_at t y w tie (o.one_way y w under) under (ties lt t w) refl in
      ap (λ b. cond b (w ∷ filter (ties lt t) ws) (filter (ties lt t) ws)) untied ∙ none_tie t x y ws less tie low.1

  irrefl : (x : X) (b : Bool) → lt x x ≡ b → lt x x ≡ false
  irrefl x true e = o.one_way x x e
  irrefl x false e = e

  abbrev IsInTurn : X → List X → (List X → List X) → Type 0
  IsInTurn t xs rest = (zs : List X) → Rises lt o zs → filter (ties lt t) (rest zs) ≡ filter (ties lt t) xs ++ filter (ties lt t) zs

  -- one item before others, kept or not
  with_first : (b : Bool) (x : X) (us vs ws : List X) → us ≡ vs ++ ws → cond b (x ∷ us) us ≡ cond b (x ∷ vs) vs ++ ws
  with_first true x us vs ws e = ap (λ zs. x ∷ zs) e
  with_first false x us vs ws e = e

  -- one item of the second list before all of the first, if nothing of the first ties with it
  between : (b : Bool) (y : X) (vs ws : List X) → (b ≡ true → vs ≡ []) → cond b (y ∷ (vs ++ ws)) (vs ++ ws) ≡ vs ++ cond b (y ∷ ws) ws
  between true y vs ws none = ap (λ zs. y ∷ (zs ++ ws)) (none refl) ∙ ap (λ zs. zs ++ y ∷ ws) (sym (none refl))
  between false y vs ws none = refl

  turns_at : (t x : X) (xs : List X) (rest : List X → List X) → IsInTurn t xs rest → IsLow lt o x xs → IsInTurn t (x ∷ xs) (merged_at lt x rest)
  turns_at t x xs rest turn low [] u = with_first (ties lt t x) x (filter (ties lt t) (rest [])) (filter (ties lt t) xs) [] (turn [] tt)
  turns_at t x xs rest turn low (y ∷ ys) u = by_first (lt y x) refl (turns_at t x xs rest turn low ys u.1)
    where
      by_first : (b : Bool) → lt y x ≡ b → filter (ties lt t) (merged_at lt x rest ys) ≡ filter (ties lt t) (x ∷ xs) ++ filter (ties lt t) ys → filter (ties lt t) (if b then y ∷ merged_at lt x rest ys else x ∷ rest (y ∷ ys)) ≡ filter (ties lt t) (x ∷ xs) ++ filter (ties lt t) (y ∷ ys)
      by_first true e r =
          ap (λ zs. cond (ties lt t y) (y ∷ zs) zs) r
          ∙ between (ties lt t y) y (filter (ties lt t) (x ∷ xs)) (filter (ties lt t) ys) (λ tie. none_tie t x y (x ∷ xs) e tie (irrefl x (lt x x) refl, low))
      by_first false e r = with_first (ties lt t x) x (filter (ties lt t) (rest (y ∷ ys))) (filter (ties lt t) xs) (filter (ties lt t) (y ∷ ys)) (turn (y ∷ ys) u)

  turns_merged : (t : X) (xs : List X) → Rises lt o xs → IsInTurn t xs (merged lt xs)
  turns_merged t [] u zs v = refl
  turns_merged t (x ∷ xs) u zs v = turns_at t x xs (merged lt xs) (turns_merged t xs u.1) u.0 zs v

  pub merged_stable : (us vs xs ys : List X) → IsSortedBy lt xs → IsSortedBy lt ys → IsStableBy lt us xs → IsStableBy lt vs ys → IsStableBy lt (us ++ vs) (merged lt xs ys)
  merged_stable us vs xs ys u v s r = λ t.
      turns_merged t xs (rises_if_sorted lt o xs u) ys (rises_if_sorted lt o ys v)
      ∙ ((λ i. s t i ++ r t i) ∙ sym (filter-append (ties lt t) us vs))

  -- ---- a merge with nothing

  pub merged_nothing : (xs : List X) → merged lt xs [] ≡ xs
  merged_nothing [] = refl
  merged_nothing (x ∷ xs) = ap (λ zs. x ∷ zs) (merged_nothing xs)
