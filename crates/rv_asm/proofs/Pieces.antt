-- Texts of words and operands, cut into them again.
use Rattle.std.proofs.Common.{◌≡◌, ℕ, ◌+◌, ◌<◌, ◌==◌, Bool, true, false, List, [], ◌∷◌, ◌++◌, length, take, drop, map, refl, ap, sym, ◌∙◌, arith}
use Rattle.std.specs.List.{All, list_all, slice_split, position_or_len, before_first, after_first}
use Rattle.std.proofs.Math.Seq.{take-append_seam, take-length, drop-append_seam}
use Rattle.std.proofs.lemmas.List.{append_assoc, length-append, drop_all}
use Rattle.std.proofs.lemmas.List.Elements.{All-head, All-tail}
use Rattle.std.proofs.lemmas.List.Splits.{slice_split_none, slice_split_at}
use Rattle.rv_asm.specs.Lexing.{is_blank, is_comma, trim, trim_start, lines, without_comment, first_word, following, operands}
use Rattle.rv_asm.proofs.Plain.{is_said, is_complete, is_plain, plain_blank, plain_whole, whole_comma, whole_said, said_comment, said_end, none_pass, each_passes, all_append, IsTight, trim_tight, trim_space, start_tight, tight_between, tight_plain}

module _ (p : ℕ → Bool) where
  place : (xs : List ℕ) (y : ℕ) (ys : List ℕ) → All (λ x. p x ≡ false) xs → p y ≡ true → position_or_len p (xs ++ y ∷ ys) ≡ length xs
  place [] y ys h e = rw e refl
  place (x ∷ xs) y ys h e =
      let later : position_or_len p (xs ++ y ∷ ys) ≡ length xs = place xs y ys (All-tail (λ z. p z ≡ false) x xs h) e in
      let here : p x ≡ false = All-head (λ z. p z ≡ false) x xs h in
      rw here (omega (arith, later))

  no_place : (xs : List ℕ) → All (λ x. p x ≡ false) xs → position_or_len p xs ≡ length xs
  no_place [] h = refl
  no_place (x ∷ xs) h =
      let later : position_or_len p xs ≡ length xs = no_place xs (All-tail (λ z. p z ≡ false) x xs h) in
      let here : p x ≡ false = All-head (λ z. p z ≡ false) x xs h in
      rw here (omega (arith, later))

  drop_past : (xs : List ℕ) (y : ℕ) (ys : List ℕ) → drop (length xs + 1) (xs ++ y ∷ ys) ≡ ys
  drop_past xs y ys =
      let e : (xs ++ y ∷ []) ++ ys ≡ xs ++ y ∷ ys = append_assoc xs (y ∷ []) ys in
      let n : length (xs ++ y ∷ []) ≡ length xs + 1 = length-append xs (y ∷ []) in
      ap (λ t. drop (length xs + 1) t) (sym e) ∙ ap (λ k. drop k ((xs ++ y ∷ []) ++ ys)) (sym n) ∙ drop-append_seam (xs ++ y ∷ []) ys

  pub before_at : (xs : List ℕ) (y : ℕ) (ys : List ℕ) → All (λ x. p x ≡ false) xs → p y ≡ true → before_first p (xs ++ y ∷ ys) ≡ xs
  before_at xs y ys h e = ap (λ n. take n (xs ++ y ∷ ys)) (place xs y ys h e) ∙ take-append_seam xs (y ∷ ys)

  pub after_at : (xs : List ℕ) (y : ℕ) (ys : List ℕ) → All (λ x. p x ≡ false) xs → p y ≡ true → after_first p (xs ++ y ∷ ys) ≡ ys
  after_at xs y ys h e = ap (λ n. drop (n + 1) (xs ++ y ∷ ys)) (place xs y ys h e) ∙ drop_past xs y ys

  pub before_none : (xs : List ℕ) → All (λ x. p x ≡ false) xs → before_first p xs ≡ xs
  before_none xs h = ap (λ n. take n xs) (no_place xs h) ∙ take-length xs

  pub after_none : (xs : List ℕ) → All (λ x. p x ≡ false) xs → after_first p xs ≡ []
  after_none xs h = ap (λ n. drop (n + 1) xs) (no_place xs h) ∙ drop_all (length xs + 1) xs (omega arith)

-- an operand: no comma, and no space or tab around it
pub record IsOperand (w : List ℕ) : Type 0 where
  pub tight : IsTight w
  pub each : list_all is_complete w ≡ true

pub operand_plain : (w : List ℕ) → 0 < length w → list_all is_plain w ≡ true → IsOperand w
operand_plain w l h = record { tight = tight_plain w l h; each = each_passes is_plain is_complete plain_whole w h }

-- what a line says: one line, no comment, and no space or tab around it
pub record IsContent (t : List ℕ) : Type 0 where
  pub tight : IsTight t
  pub each : list_all is_said t ≡ true

pub content_operand : (w : List ℕ) → IsOperand w → IsContent w
content_operand w h = record { tight = h.tight; each = each_passes is_complete is_said whole_said w h.each }

-- a text and one after it, with a comma and a space
unfoldable pub pair : List ℕ → List ℕ → List ℕ
pair a b = a ++ 44 ∷ 32 ∷ b

-- a word and a text after it
unfoldable pub spaced : List ℕ → List ℕ → List ℕ
spaced m t = m ++ 32 ∷ t

pub content_pair : (a b : List ℕ) → IsContent a → IsContent b → IsContent (pair a b)
unfolding pair
content_pair a b h k =
    record {
      tight = tight_between a (44 ∷ 32 ∷ []) b h.tight k.tight;
      each = all_append is_said a (44 ∷ 32 ∷ b) h.each k.each;
    }

pub content_spaced : (m t : List ℕ) → IsContent m → IsContent t → IsContent (spaced m t)
unfolding spaced
content_spaced m t h k =
    record {
      tight = tight_between m (32 ∷ []) t h.tight k.tight;
      each = all_append is_said m (32 ∷ t) h.each k.each;
    }

-- a line is what it says
pub line_alone : (t : List ℕ) → IsContent t → lines t ≡ t ∷ []
line_alone t h = slice_split_none (λ c. c == 10) t (none_pass is_said (λ c. c == 10) said_end t h.each)

pub content_is : (t : List ℕ) → IsContent t → without_comment t ≡ t
unfolding without_comment
content_is t h = ap trim (before_none (λ c. c == 35) t (none_pass is_said (λ c. c == 35) said_comment t h.each)) ∙ trim_tight t h.tight

-- its first word, and the rest
pub first_spaced : (m t : List ℕ) → list_all is_plain m ≡ true → first_word (spaced m t) ≡ m
unfolding spaced
first_spaced m t h = before_at is_blank m 32 t (none_pass is_plain is_blank plain_blank m h) refl

pub following_spaced : (m t : List ℕ) → list_all is_plain m ≡ true → IsTight t → following (spaced m t) ≡ t
unfolding spaced
following_spaced m t h k = ap trim_start (after_at is_blank m 32 t (none_pass is_plain is_blank plain_blank m h) refl) ∙ start_tight t k

pub first_alone : (m : List ℕ) → list_all is_plain m ≡ true → first_word m ≡ m
first_alone m h = before_none is_blank m (none_pass is_plain is_blank plain_blank m h)

pub following_alone : (m : List ℕ) → list_all is_plain m ≡ true → following m ≡ []
following_alone m h = ap trim_start (after_none is_blank m (none_pass is_plain is_blank plain_blank m h))

operands_some : (t : List ℕ) → 0 < length t → operands t ≡ map trim (slice_split is_comma t)
unfolding operands
operands_some [] l = absurd (omega arith)
operands_some (c ∷ cs) l = refl

pub pair_some : (a b : List ℕ) → 0 < length (pair a b)
unfolding pair
pair_some [] b = omega arith
pair_some (c ∷ cs) b = omega arith

no_comma : (w : List ℕ) → list_all is_complete w ≡ true → All (λ c. is_comma c ≡ false) w
no_comma w h = none_pass is_complete is_comma whole_comma w h

pieces_pair : (a b : List ℕ) → IsOperand a → slice_split is_comma (pair a b) ≡ a ∷ slice_split is_comma (32 ∷ b)
unfolding pair
pieces_pair a b h = slice_split_at is_comma a 44 (32 ∷ b) (no_comma a h.each) refl

pieces_spaced : (a b : List ℕ) → IsOperand a → slice_split is_comma (32 ∷ pair a b) ≡ (32 ∷ a) ∷ slice_split is_comma (32 ∷ b)
unfolding pair
pieces_spaced a b h = slice_split_at is_comma (32 ∷ a) 44 (32 ∷ b) (no_comma (32 ∷ a) h.each) refl

pieces_last : (b : List ℕ) → IsOperand b → slice_split is_comma (32 ∷ b) ≡ (32 ∷ b) ∷ []
pieces_last b h = slice_split_none is_comma (32 ∷ b) (no_comma (32 ∷ b) h.each)

pub operands_two : (a b : List ℕ) → IsOperand a → IsOperand b → operands (pair a b) ≡ a ∷ b ∷ []
operands_two a b h k =
    operands_some (pair a b) (pair_some a b)
    ∙ ap (map trim) (pieces_pair a b h ∙ ap (λ r. a ∷ r) (pieces_last b k))
    ∙ rw (trim_tight a h.tight, trim_space b k.tight) refl

pub operands_three : (a b d : List ℕ) → IsOperand a → IsOperand b → IsOperand d → operands (pair a (pair b d)) ≡ a ∷ b ∷ d ∷ []
operands_three a b d h k m =
    operands_some (pair a (pair b d)) (pair_some a (pair b d))
    ∙ ap (map trim) (pieces_pair a (pair b d) h ∙ ap (λ r. a ∷ r) (pieces_spaced b d k ∙ ap (λ r. (32 ∷ b) ∷ r) (pieces_last d m)))
    ∙ rw (trim_tight a h.tight, trim_space b k.tight, trim_space d m.tight) refl
