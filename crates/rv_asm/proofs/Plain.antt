-- Texts that stay as they are where a line is cut into pieces.
use Rattle.std.proofs.Common.{◌≡◌, ℕ, ◌<◌, ◌==◌, Bool, true, false, not, ◌&&◌, List, [], ◌∷◌, ◌++◌, length, get_or, reverse, refl, ap, sym, subst, ◌∙◌, arith}
use Rattle.std.specs.List.{All, list_all}
use Rattle.std.proofs.lemmas.Bool.{and_parts}
use Rattle.std.proofs.lemmas.List.{reverse-append, reverse-reverse}
use Rattle.std.proofs.lemmas.List.Elements.{All-nil, All-cons}
use Rattle.std.proofs.lemmas.List.Folds.{list_all-append}
use Rattle.rv_asm.specs.Lexing.{is_blank, is_comma, trim_start, trim_end, trim}

-- a byte that begins no comment and ends no line
abbrev pub is_said : ℕ → Bool
is_said c = not (c == 35) && not (c == 10)

-- and is no comma
abbrev pub is_complete : ℕ → Bool
is_complete c = not (is_comma c) && is_said c

-- and is no space or tab
abbrev pub is_plain : ℕ → Bool
is_plain c = not (is_blank c) && is_complete c

both : (a b : Bool) → (not a && b) ≡ true → (a ≡ false) × (b ≡ true)
both true b h = absurd cc
both false b h = (refl, h)

pub plain_blank : (c : ℕ) → is_plain c ≡ true → is_blank c ≡ false
plain_blank c h = (both (is_blank c) (is_complete c) h).0

pub plain_whole : (c : ℕ) → is_plain c ≡ true → is_complete c ≡ true
plain_whole c h = (both (is_blank c) (is_complete c) h).1

pub whole_comma : (c : ℕ) → is_complete c ≡ true → is_comma c ≡ false
whole_comma c h = (both (is_comma c) (is_said c) h).0

pub whole_said : (c : ℕ) → is_complete c ≡ true → is_said c ≡ true
whole_said c h = (both (is_comma c) (is_said c) h).1

pub said_comment : (c : ℕ) → is_said c ≡ true → (c == 35) ≡ false
said_comment c h = (both (c == 35) (not (c == 10)) h).0

no : (b : Bool) → not b ≡ true → b ≡ false
no true h = absurd cc
no false h = refl

pub said_end : (c : ℕ) → is_said c ≡ true → (c == 10) ≡ false
said_end c h = no (c == 10) (both (c == 35) (not (c == 10)) h).1

-- a test that no element passes, where each passes one that excludes it
pub none_pass : (p q : ℕ → Bool) → ((c : ℕ) → p c ≡ true → q c ≡ false) → (w : List ℕ) → list_all p w ≡ true → All (λ c. q c ≡ false) w
none_pass p q apart [] h = All-nil (λ c. q c ≡ false)
none_pass p q apart (c ∷ cs) h =
    let b = and_parts (p c) (list_all p cs) h in
    All-cons (λ x. q x ≡ false) c cs (apart c b.0) (none_pass p q apart cs b.1)

-- a test that each element passes, where each passes one that implies it
pub each_passes : (p q : ℕ → Bool) → ((c : ℕ) → p c ≡ true → q c ≡ true) → (w : List ℕ) → list_all p w ≡ true → list_all q w ≡ true
each_passes p q too [] h = refl
each_passes p q too (c ∷ cs) h =
    let b = and_parts (p c) (list_all p cs) h in
    rw (too c b.0) (each_passes p q too cs b.1)

pub all_append : (p : ℕ → Bool) (xs ys : List ℕ) → list_all p xs ≡ true → list_all p ys ≡ true → list_all p (xs ++ ys) ≡ true
all_append p xs ys h k = list_all-append p xs ys ∙ rw (h, k) refl

-- there is no space or tab in front
abbrev pub Begins : List ℕ → Type 0
Begins t = is_blank (get_or t 0 32) ≡ false

-- nor at the end
pub record IsTight (t : List ℕ) : Type 0 where
  pub first : Begins t
  pub last : Begins (reverse t)

begins_start : (t : List ℕ) → Begins t → trim_start t ≡ t
begins_start [] h = refl
begins_start (c ∷ cs) h = rw h refl

begins_more : (x y : List ℕ) → Begins x → Begins (x ++ y)
begins_more [] y h = absurd cc
begins_more (c ∷ cs) y h = h

pub trim_tight : (t : List ℕ) → IsTight t → trim t ≡ t
unfolding trim trim_end
trim_tight t h =
    ap (λ x. reverse (trim_start (reverse x))) (begins_start t h.first)
    ∙ ap reverse (begins_start (reverse t) h.last)
    ∙ reverse-reverse t

pub trim_space : (t : List ℕ) → IsTight t → trim (32 ∷ t) ≡ t
unfolding trim
trim_space t h = trim_tight t h

pub start_tight : (t : List ℕ) → IsTight t → trim_start t ≡ t
start_tight t h = begins_start t h.first

-- what stands between two tight texts doesn't matter
pub tight_between : (x m y : List ℕ) → IsTight x → IsTight y → IsTight (x ++ (m ++ y))
tight_between x m y h k =
    let last' : Begins (reverse (m ++ y)) = subst (λ (r : List ℕ). Begins r) (sym (reverse-append m y)) (begins_more (reverse y) (reverse m) k.last) in
    record {
      first = begins_more x (m ++ y) h.first;
      last = subst (λ (r : List ℕ). Begins r) (sym (reverse-append x (m ++ y))) (begins_more (reverse (m ++ y)) (reverse x) last');
    }

last_plain : (c : ℕ) (cs : List ℕ) → list_all is_plain (c ∷ cs) ≡ true → Begins (reverse (c ∷ cs))
last_plain c [] h = plain_blank c (and_parts (is_plain c) true h).0
last_plain c (d ∷ ds) h =
    subst (λ (r : List ℕ). Begins r) (sym (reverse-append (c ∷ []) (d ∷ ds)))
    (begins_more (reverse (d ∷ ds)) (c ∷ []) (last_plain d ds (and_parts (is_plain c) (list_all is_plain (d ∷ ds)) h).1))

pub tight_plain : (w : List ℕ) → 0 < length w → list_all is_plain w ≡ true → IsTight w
tight_plain [] l h = absurd (omega arith)
tight_plain (c ∷ cs) l h = record { first = plain_blank c (and_parts (is_plain c) (list_all is_plain cs) h).0; last = last_plain c cs h }
