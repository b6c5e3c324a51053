-- Lists of those that an actor created.
use Rattle.std.proofs.Common.{◌≡◌, ℕ, zero, suc, ◌<◌, List, [], ◌∷◌, ◌++◌, length, refl, ap, arith}
use Rattle.std.specs.Prelude.{Some, slice_get, slice_set}

pub there_last : {X : Type 0} (xs : List X) (x : X) (ys : List X) → slice_get (xs ++ x ∷ ys) (length xs) ≡ Some x
there_last [] x ys = refl
there_last (z ∷ xs) x ys = there_last xs x ys

pub set_last : {X : Type 0} (xs : List X) (x y : X) (ys : List X) → slice_set (xs ++ x ∷ ys) (length xs) y ≡ xs ++ y ∷ ys
set_last [] x y ys = refl
set_last (z ∷ xs) x y ys = ap (λ zs. z ∷ zs) (set_last xs x y ys)

pub there_set : {X : Type 0} (xs : List X) (n : ℕ) (x y : X) → slice_get xs n ≡ Some x → slice_get (slice_set xs n y) n ≡ Some y
there_set [] n x y e = absurd cc
there_set (z ∷ xs) zero x y e = refl
there_set (z ∷ xs) (suc n) x y e = there_set xs n x y e

pub below_there : {X : Type 0} (xs : List X) (n : ℕ) (x : X) → slice_get xs n ≡ Some x → n < length xs
below_there [] n x e = absurd cc
below_there (z ∷ xs) zero x e = omega arith
below_there (z ∷ xs) (suc n) x e = let h = below_there xs n x e in omega (arith, h)

pub append_step : {X : Type 0} (xs : List X) (x : X) (ys : List X) → (xs ++ x ∷ []) ++ ys ≡ xs ++ x ∷ ys
append_step [] x ys = refl
append_step (z ∷ zs) x ys = ap (λ ws. z ∷ ws) (append_step zs x ys)

pub none_there : {X : Type 0} (xs : List X) → length xs ≡ 0 → xs ≡ []
none_there [] e = refl
none_there (x ∷ xs) e = absurd (omega (arith, e))
