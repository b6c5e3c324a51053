-- The last entry of a list that gained one.
use Rattle.std.proofs.Common.{◌≡◌, ◌-◌, List, [], ◌∷◌, ◌++◌, length, refl, ap, ◌∙◌, length-append, arith}
use Rattle.std.specs.Prelude.{slice_get, Some}
use Rattle.std.specs.Option.{option_map_or}
use Rattle.image_form.specs.Reading.{last_of}

get_last : {X : Type 0} (xs : List X) (x : X) → slice_get (xs ++ x ∷ []) (length xs) ≡ Some x
get_last [] x = refl
get_last (y ∷ xs) x = get_last xs x

pub last_of-push : {X Y : Type 0} (has : X → Y) (none : Y) (xs : List X) (x : X) → last_of has none (xs ++ x ∷ []) ≡ has x
last_of-push has none xs x =
    let last : length (xs ++ x ∷ []) - 1 ≡ length xs = omega (arith, length-append xs (x ∷ [])) in
    ap (λ o. option_map_or has o none) (ap (slice_get (xs ++ x ∷ [])) last ∙ get_last xs x)
