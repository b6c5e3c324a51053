-- Texts that are cut at each byte of a kind.
use Rattle.std.proofs.Common.{◌≡◌, ℕ, ◌+◌, ◌≤◌, ◌==◌, ltb, List, [], ◌∷◌, length, take, drop, Some, None, inl, inr, refl, arith}
use Rattle.std.specs.List.{slice_split, position, position_or_len}
use Rattle.std.proofs.lemmas.Bool.{cases_Bool, ltb-true, ltb-false}
use Rattle.std.proofs.lemmas.List.Splits.{slice_split_first}
use Rattle.std.proofs.lemmas.Option.{cond_some}

-- where no byte is of the kind, there is one piece
uncut : (c : ℕ) (bs : List ℕ) → length bs ≤ position_or_len (λ b. b == c) bs → slice_split (λ b. b == c) bs ≡ bs ∷ []
uncut c [] h = refl
uncut c (b ∷ bs) h =
    elim (cases_Bool (b == c)) [
      | inl same ↦ let k : length (b ∷ bs) ≤ 0 = rw same at h in absurd (omega arith)
      | inr other ↦
          let k : length bs ≤ position_or_len (λ x. x == c) bs = omega (arith, rw other at h) in
          rw (other, uncut c bs k) refl
    ]

pub cut_none : (c : ℕ) (bs : List ℕ) → position (λ b. b == c) bs ≡ None → slice_split (λ b. b == c) bs ≡ bs ∷ []
cut_none c bs h =
    elim (cases_Bool (ltb (position_or_len (λ b. b == c) bs) (length bs))) [
      | inl found ↦ let k : Some (position_or_len (λ b. b == c) bs) ≡ None = rw found at h in cc
      | inr absent ↦ uncut c bs (ltb-false _ _ absent)
    ]

pub cut_some : (c : ℕ) (bs : List ℕ) (i : ℕ) → position (λ b. b == c) bs ≡ Some i → slice_split (λ b. b == c) bs ≡ take i bs ∷ slice_split (λ b. b == c) (drop (i + 1) bs)
cut_some c bs i h =
    let found = cond_some (ltb (position_or_len (λ b. b == c) bs) (length bs)) (position_or_len (λ b. b == c) bs) i h in
    let first = slice_split_first (λ b. b == c) bs 0 (ltb-true _ _ found.0) in
    rw found.1 at first

-- there is a piece at least
pub some_piece : (c : ℕ) (bs : List ℕ) → (piece : List ℕ) × (pieces : List (List ℕ)) × (slice_split (λ b. b == c) bs ≡ piece ∷ pieces)
some_piece c [] = ([], [], refl)
some_piece c (b ∷ bs) =
    let rest = some_piece c bs in
    elim (cases_Bool (b == c)) [
      | inl same ↦ ([], slice_split (λ x. x == c) bs, rw same refl)
      | inr other ↦ (b ∷ rest.0, rest.1, rw (other, rest.2) refl)
    ]
