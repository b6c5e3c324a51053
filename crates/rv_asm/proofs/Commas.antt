-- Operands, by the first comma of a text.
use Rattle.std.proofs.Common.{◌≡◌, ℕ, ◌+◌, ◌<◌, ◌≤◌, Bool, true, false, cond, ltb, List, [], ◌∷◌, length, map, Option, Some, None, refl, ap, ◌∙◌, arith}
use Rattle.std.specs.List.{slice_split, position_or_len, before_first, after_first, onto_first}
use Rattle.std.proofs.lemmas.Bool.{ltb-true, ltb-false}
use Rattle.std.proofs.lemmas.List.Splits.{slice_split_first, slice_split-cons_no, length-slice_split}
use Rattle.rv_asm.specs.Lexing.{is_comma, at_comma, trim, operands, one, two, three, second}

-- whether there is a comma
abbrev has_comma : List ℕ → Bool
has_comma t = ltb (position_or_len is_comma t) (length t)

abbrev around : List ℕ → Option (List ℕ × List ℕ)
around t = Some (before_first is_comma t, after_first is_comma t)

some_is : {X : Type 0} (x y : X) → Some x ≡ Some y → x ≡ y
some_is x y e = cc

around_is : (t a b : List ℕ) → around t ≡ Some (a, b) → (before_first is_comma t ≡ a) × (after_first is_comma t ≡ b)
around_is t a b e =
    let p = some_is (before_first is_comma t, after_first is_comma t) (a, b) e in
    (ap (λ (q : List ℕ × List ℕ). q.0) p, ap (λ (q : List ℕ × List ℕ). q.1) p)

comma_there : (t a b : List ℕ) (p : Bool) → has_comma t ≡ p → cond p (around t) None ≡ Some (a, b) → slice_split is_comma t ≡ a ∷ slice_split is_comma b
comma_there t a b true is e =
    let s = around_is t a b e in
    slice_split_first is_comma t 0 (ltb-true _ _ is) ∙ rw (s.0, s.1) refl
comma_there t a b false is e = absurd cc

-- the pieces of a text with a comma
pieces_comma : (t a b : List ℕ) → at_comma t ≡ Some (a, b) → slice_split is_comma t ≡ a ∷ slice_split is_comma b
unfolding at_comma
pieces_comma t a b h = comma_there t a b (has_comma t) refl h

no_comma : (t : List ℕ) → length t ≤ position_or_len is_comma t → slice_split is_comma t ≡ t ∷ []
no_comma [] h = refl
no_comma (c ∷ cs) h = by_first (is_comma c) refl (no_comma cs)
  where
    by_first : (p : Bool) → is_comma c ≡ p → (length cs ≤ position_or_len is_comma cs → slice_split is_comma cs ≡ cs ∷ []) → slice_split is_comma (c ∷ cs) ≡ (c ∷ cs) ∷ []
    by_first true e later = let place : position_or_len is_comma (c ∷ cs) ≡ 0 = rw e refl in absurd (omega arith)
    by_first false e later =
        let place : position_or_len is_comma (c ∷ cs) ≡ 1 + position_or_len is_comma cs = rw e refl in
        slice_split-cons_no is_comma c cs e ∙ ap (onto_first c) (later (omega arith))

comma_away : (t : List ℕ) (p : Bool) → has_comma t ≡ p → cond p (around t) None ≡ None → slice_split is_comma t ≡ t ∷ []
comma_away t true is e = absurd cc
comma_away t false is e = no_comma t (ltb-false _ _ is)

-- the one piece of a text without a comma
pieces_none : (t : List ℕ) → at_comma t ≡ None → slice_split is_comma t ≡ t ∷ []
unfolding at_comma
pieces_none t h = comma_away t (has_comma t) refl h

-- there is a piece
some_piece : (t : List ℕ) → (p : List ℕ) × (ps : List (List ℕ)) × (slice_split is_comma t ≡ p ∷ ps)
some_piece t = by_pieces (slice_split is_comma t) refl
  where
    by_pieces : (pieces : List (List ℕ)) → slice_split is_comma t ≡ pieces → (p : List ℕ) × (ps : List (List ℕ)) × (slice_split is_comma t ≡ p ∷ ps)
    by_pieces [] e = absurd (omega (arith, length-slice_split is_comma t, ap length e))
    by_pieces (p ∷ ps) e = (p, ps, e)

operands_comma : (t a b : List ℕ) → at_comma t ≡ Some (a, b) → operands t ≡ trim a ∷ map trim (slice_split is_comma b)
unfolding operands at_comma
operands_comma [] a b h = absurd cc
operands_comma (c ∷ cs) a b h = ap (map trim) (pieces_comma (c ∷ cs) a b h)

operands_none : (t : List ℕ) → 0 < length t → at_comma t ≡ None → operands t ≡ trim t ∷ []
unfolding operands
operands_none [] l h = absurd (omega arith)
operands_none (c ∷ cs) l h = ap (map trim) (pieces_none (c ∷ cs) h)

operands_empty : (t : List ℕ) → length t ≡ 0 → operands t ≡ []
unfolding operands
operands_empty [] l = refl
operands_empty (c ∷ cs) l = absurd (omega arith)

pub one_empty : (t : List ℕ) → length t ≡ 0 → one (operands t) ≡ None
one_empty t l = rw (operands_empty t l) refl

pub one_comma : (t a b : List ℕ) → at_comma t ≡ Some (a, b) → one (operands t) ≡ None
one_comma t a b h =
    let s = some_piece b in
    rw (operands_comma t a b h, s.2) refl

pub one_alone : (t : List ℕ) → 0 < length t → at_comma t ≡ None → one (operands t) ≡ Some (trim t)
one_alone t l h = rw (operands_none t l h) refl

pub two_none : (t : List ℕ) → at_comma t ≡ None → two (operands t) ≡ None
two_none [] h = rw (operands_empty [] refl) refl
two_none (c ∷ cs) h = rw (operands_none (c ∷ cs) (omega arith) h) refl

pub two_comma : (t a b c d : List ℕ) → at_comma t ≡ Some (a, b) → at_comma b ≡ Some (c, d) → two (operands t) ≡ None
two_comma t a b c d h k =
    let s = some_piece d in
    rw (operands_comma t a b h, pieces_comma b c d k, s.2) refl

pub two_alone : (t a b : List ℕ) → at_comma t ≡ Some (a, b) → at_comma b ≡ None → two (operands t) ≡ Some (trim a, trim b)
two_alone t a b h k = rw (operands_comma t a b h, pieces_none b k) refl

pub second_none : (t : List ℕ) → at_comma t ≡ None → second (operands t) ≡ None
second_none [] h = rw (operands_empty [] refl) refl
second_none (c ∷ cs) h = rw (operands_none (c ∷ cs) (omega arith) h) refl

pub second_comma : (t a b c d : List ℕ) → at_comma t ≡ Some (a, b) → at_comma b ≡ Some (c, d) → second (operands t) ≡ Some (trim c)
second_comma t a b c d h k = rw (operands_comma t a b h, pieces_comma b c d k) refl

pub second_alone : (t a b : List ℕ) → at_comma t ≡ Some (a, b) → at_comma b ≡ None → second (operands t) ≡ Some (trim b)
second_alone t a b h k = rw (operands_comma t a b h, pieces_none b k) refl

pub three_none : (t : List ℕ) → at_comma t ≡ None → three (operands t) ≡ None
three_none [] h = rw (operands_empty [] refl) refl
three_none (c ∷ cs) h = rw (operands_none (c ∷ cs) (omega arith) h) refl

pub three_one : (t a b : List ℕ) → at_comma t ≡ Some (a, b) → at_comma b ≡ None → three (operands t) ≡ None
three_one t a b h k = rw (operands_comma t a b h, pieces_none b k) refl

pub three_comma : (t a b c d e f : List ℕ) → at_comma t ≡ Some (a, b) → at_comma b ≡ Some (c, d) → at_comma d ≡ Some (e, f) → three (operands t) ≡ None
three_comma t a b c d e f h k m =
    let s = some_piece f in
    rw (operands_comma t a b h, pieces_comma b c d k, pieces_comma d e f m, s.2) refl

pub three_alone : (t a b c d : List ℕ) → at_comma t ≡ Some (a, b) → at_comma b ≡ Some (c, d) → at_comma d ≡ None → three (operands t) ≡ Some (trim a, trim c, trim d)
three_alone t a b c d h k m = rw (operands_comma t a b h, pieces_comma b c d k, pieces_none d m) refl
