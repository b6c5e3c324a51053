-- Names, part by part.
use Rattle.std.proofs.Common.{◌≡◌, ℕ, zero, suc, ◌+◌, ◌<◌, List, [], ◌∷◌, ◌++◌, length, take, get_or, map, refl, ap, sym, ◌∙◌, append_assoc, arith}
use Rattle.std.specs.List.{join_with_byte}
use Rattle.std.specs.Fmt.{decimal}
use Rattle.std.proofs.lemmas.List.{map_more}
use Rattle.report_text.specs.Reports.{dot, name_text}

-- one more piece behind others
join_more : (c : ℕ) (y : List ℕ) (ys : List (List ℕ)) (x : List ℕ) → join_with_byte c ((y ∷ ys) ++ x ∷ []) ≡ join_with_byte c (y ∷ ys) ++ c ∷ x
join_more c y [] x = refl
join_more c y (z ∷ zs) x = ap (λ (rest : List ℕ). y ++ c ∷ rest) (join_more c z zs x) ∙ sym (append_assoc y (c ∷ join_with_byte c (z ∷ zs)) (c ∷ x))

-- no parts
pub no_parts : name_text [] ≡ []
unfolding name_text
no_parts = refl

-- the first part of a name
pub first_part : (parts : List ℕ) (d : ℕ) → 0 < length parts → name_text (take 1 parts) ≡ decimal (get_or parts 0 d)
unfolding name_text
first_part [] d in_range = absurd (omega arith)
first_part (p ∷ ps) d in_range = refl

-- a part behind others
pub more_parts : (parts : List ℕ) (i d : ℕ) → 0 < i → i < length parts → name_text (take (i + 1) parts) ≡ name_text (take i parts) ++ dot ∷ decimal (get_or parts i d)
unfolding name_text
more_parts parts zero d some in_range = absurd (omega arith)
more_parts [] (suc i) d some in_range = absurd (omega arith)
more_parts (p ∷ ps) (suc i) d some in_range =
    let more : map decimal (take (suc i + 1) (p ∷ ps)) ≡ map decimal (take (suc i) (p ∷ ps)) ++ decimal (get_or (p ∷ ps) (suc i) d) ∷ [] = map_more decimal (p ∷ ps) (suc i) d in_range in
    ap (λ (texts : List (List ℕ)). join_with_byte dot texts) more ∙ join_more dot (decimal p) (map decimal (take i ps)) (decimal (get_or ps i d))
