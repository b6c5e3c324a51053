-- Texts in line_pieces, around a separator.
use Rattle.std.proofs.Common.{◌≡◌, ℕ, ◌+◌, ◌-◌, ◌≤◌, Bool, true, false, cond, ltb, List, [], ◌∷◌, length, take, drop, Some, None, refl, ap, sym, ◌∙◌, arith}
use Rattle.std.specs.List.{slice_split, position, position_or_len, onto_first}
use Rattle.std.proofs.lemmas.List.{take_all, length-drop}
use Rattle.std.proofs.lemmas.Bool.{ltb-true, ltb-false}
use Rattle.std.proofs.lemmas.List.Splits.{slice_split_first, slice_split-cons_no, length-slice_split}

module _ (p : ℕ → Bool) where
  there : (xs : List ℕ) (i : ℕ) (b : Bool) → ltb (position_or_len p xs) (length xs) ≡ b → cond b (Some (position_or_len p xs)) None ≡ Some i → slice_split p xs ≡ take i xs ∷ slice_split p (drop (i + 1) xs)
  there xs i true is e =
      let at : position_or_len p xs ≡ i = cc in
      slice_split_first p xs 0 (ltb-true _ _ is) ∙ ap (λ n. take n xs ∷ slice_split p (drop (n + 1) xs)) at
  there xs i false is e = absurd cc

  -- the piece before the first separator, and those that follow it
  pub cut_there : (xs : List ℕ) (i : ℕ) → position p xs ≡ Some i → slice_split p xs ≡ take i xs ∷ slice_split p (drop (i + 1) xs)
  cut_there xs i e = there xs i (ltb (position_or_len p xs) (length xs)) refl e

  -- the same, as a slice from an index on says it
  pub cut_from : (xs : List ℕ) (i : ℕ) → position p xs ≡ Some i → slice_split p xs ≡ take i xs ∷ slice_split p (take (length xs - (i + 1)) (drop (i + 1) xs))
  cut_from xs i e = cut_there xs i e ∙ ap (λ (t : List ℕ). take i xs ∷ slice_split p t) (sym (take_all (length xs - (i + 1)) (drop (i + 1) xs) (omega (arith, length-drop (i + 1) xs))))

  pub split_alone : (xs : List ℕ) → length xs ≤ position_or_len p xs → slice_split p xs ≡ xs ∷ []
  split_alone [] h = refl
  split_alone (c ∷ cs) h = by_first (p c) refl (split_alone cs)
    where
      by_first : (b : Bool) → p c ≡ b → (length cs ≤ position_or_len p cs → slice_split p cs ≡ cs ∷ []) → slice_split p (c ∷ cs) ≡ (c ∷ cs) ∷ []
      by_first true e later = let at : position_or_len p (c ∷ cs) ≡ 0 = rw e refl in absurd (omega arith)
      by_first false e later =
          let at : position_or_len p (c ∷ cs) ≡ 1 + position_or_len p cs = rw e refl in
          slice_split-cons_no p c cs e ∙ ap (onto_first c) (later (omega arith))

  away : (xs : List ℕ) (b : Bool) → ltb (position_or_len p xs) (length xs) ≡ b → cond b (Some (position_or_len p xs)) None ≡ None → slice_split p xs ≡ xs ∷ []
  away xs true is e = absurd cc
  away xs false is e = split_alone xs (ltb-false _ _ is)

  -- a text with no separator is one piece
  pub cut_away : (xs : List ℕ) → position p xs ≡ None → slice_split p xs ≡ xs ∷ []
  cut_away xs e = away xs (ltb (position_or_len p xs) (length xs)) refl e

  -- there is a piece
  pub some_piece : (xs : List ℕ) → (q : List ℕ) × (qs : List (List ℕ)) × (slice_split p xs ≡ q ∷ qs)
  some_piece xs = by_pieces (slice_split p xs) refl
    where
      by_pieces : (ps : List (List ℕ)) → slice_split p xs ≡ ps → (q : List ℕ) × (qs : List (List ℕ)) × (slice_split p xs ≡ q ∷ qs)
      by_pieces [] e = absurd (omega (arith, length-slice_split p xs, ap length e))
      by_pieces (q ∷ qs) e = (q, qs, e)
