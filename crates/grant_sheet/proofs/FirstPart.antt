-- The first part of a path is what is before its first slash, behind those that it begins with.
use Rattle.std.proofs.Common.{◌≡◌, ℕ, zero, suc, ◌==◌, ◌<◌, length, Bool, true, false, not, List, [], ◌∷◌, take, drop, filter, if◌then◌else◌, refl, sym, ap, subst, ◌∙◌, arith}
use Rattle.std.specs.List.{onto_first}
use Rattle.wedge_base.specs.Names.{same}
use Rattle.wedge_base.specs.Paths.{pieces, parts_of}
use Rattle.grant_sheet.specs.Paths.{slashes_before, part_length}

abbrev kept : List (List ℕ) → List (List ℕ)
kept ps = filter (λ p. not (same p [])) ps

-- the pieces behind a first one
abbrev after : List ℕ → List (List ℕ)
after [] = []
after (b ∷ bs) = pieces bs

abbrev IsHead : List ℕ → List (List ℕ) → ℕ → Type 0
IsHead bs ps n = ps ≡ take n bs ∷ after (drop n bs)

head_if : (b : ℕ) (bs : List ℕ) (t : Bool) → IsHead bs (pieces bs) (part_length bs)
    → IsHead (b ∷ bs) (if t then [] ∷ pieces bs else onto_first b (pieces bs)) (if t then 0 else suc (part_length bs))
head_if b bs true rest = refl
head_if b bs false rest = ap (onto_first b) rest

pieces_head : (bs : List ℕ) → IsHead bs (pieces bs) (part_length bs)
pieces_head [] = refl
pieces_head (b ∷ bs) = head_if b bs (b == 47) (pieces_head bs)

abbrev AreBehind : List ℕ → ℕ → Type 0
AreBehind bs n = kept (after (drop n bs)) ≡ parts_of (drop n bs)

behind_if : (b : ℕ) (bs : List ℕ) (t : Bool) → (b == 47) ≡ t → AreBehind bs (part_length bs) → AreBehind (b ∷ bs) (if t then 0 else suc (part_length bs))
behind_if b bs true e rest = rw e refl
behind_if b bs false e rest = rest

parts_behind : (bs : List ℕ) → AreBehind bs (part_length bs)
parts_behind [] = refl
parts_behind (b ∷ bs) = behind_if b bs (b == 47) refl (parts_behind bs)

skipped_if : (b : ℕ) (bs : List ℕ) (t : Bool) → (b == 47) ≡ t → parts_of (drop (slashes_before bs) bs) ≡ parts_of bs
    → parts_of (drop (if t then suc (slashes_before bs) else 0) (b ∷ bs)) ≡ parts_of (b ∷ bs)
skipped_if b bs true e rest = rw e rest
skipped_if b bs false e rest = refl

-- slashes in front make no part
pub parts-skipped : (bs : List ℕ) → parts_of (drop (slashes_before bs) bs) ≡ parts_of bs
parts-skipped [] = refl
parts-skipped (b ∷ bs) = skipped_if b bs (b == 47) refl (parts-skipped bs)

first_part : (bs : List ℕ) (n k : ℕ) → n ≡ suc k → IsHead bs (pieces bs) n → AreBehind bs n → 0 < length bs → parts_of bs ≡ take n bs ∷ parts_of (drop n bs)
first_part [] n k e head behind within = absurd (omega arith)
first_part (b ∷ bs) n k e head behind within =
    ap kept (subst (IsHead (b ∷ bs) (pieces (b ∷ bs))) e head)
    ∙ ap (λ ps. (b ∷ take k bs) ∷ ps) (subst (AreBehind (b ∷ bs)) e behind)
    ∙ ap (λ (m : ℕ). take m (b ∷ bs) ∷ parts_of (drop m (b ∷ bs))) (sym e)

-- what is before the first slash is the first part
pub parts-first : (bs : List ℕ) (k : ℕ) → part_length bs ≡ suc k → parts_of bs ≡ take (part_length bs) bs ∷ parts_of (drop (part_length bs) bs)
parts-first [] k e = absurd (omega arith)
parts-first (b ∷ bs) k e = first_part (b ∷ bs) (part_length (b ∷ bs)) k e (pieces_head (b ∷ bs)) (parts_behind (b ∷ bs)) (omega arith)

left_if : (b : ℕ) (bs : List ℕ) (t : Bool) → (b == 47) ≡ t → (part_length (drop (slashes_before bs) bs) ≡ 0 → drop (slashes_before bs) bs ≡ [])
    → part_length (drop (if t then suc (slashes_before bs) else 0) (b ∷ bs)) ≡ 0 → drop (if t then suc (slashes_before bs) else 0) (b ∷ bs) ≡ []
left_if b bs true q rest e = rest e
left_if b bs false q rest e = absurd (omega (arith, rw q at e))

-- behind the slashes in front there is a part, or nothing
pub nothing_left : (bs : List ℕ) → part_length (drop (slashes_before bs) bs) ≡ 0 → drop (slashes_before bs) bs ≡ []
nothing_left [] e = refl
nothing_left (b ∷ bs) e = left_if b bs (b == 47) refl (nothing_left bs) e

-- ---- as it is read

abbrev IsSplit : List ℕ → List ℕ → ℕ → Type 0
IsSplit bs p n = parts_of bs ≡ take n p ∷ parts_of (drop n p)

some_if : (bs p : List ℕ) (n : ℕ) → parts_of p ≡ parts_of bs → n ≡ part_length p → (n ≡ 0 → ⊥) → IsSplit bs p n
some_if bs p zero skipped e some = absurd (some refl)
some_if bs p (suc k) skipped e some =
    sym skipped ∙ parts-first p k (sym e) ∙ ap (λ (m : ℕ). take m p ∷ parts_of (drop m p)) (sym e)

pub parts_split : (bs p : List ℕ) (n : ℕ) → p ≡ drop (slashes_before bs) bs → n ≡ part_length p → (n ≡ 0 → ⊥) → IsSplit bs p n
parts_split bs p n at e some = some_if bs p n (ap parts_of at ∙ parts-skipped bs) e some

pub no_parts : (bs p : List ℕ) (n : ℕ) → p ≡ drop (slashes_before bs) bs → n ≡ part_length p → n ≡ 0 → parts_of bs ≡ []
no_parts bs p n at e none =
    sym (parts-skipped bs) ∙ ap parts_of (nothing_left bs (ap part_length (sym at) ∙ sym e ∙ none))
