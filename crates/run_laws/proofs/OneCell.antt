-- One cell among others: what is put there, and what it shows.
use Rattle.std.proofs.Common.{◌≡◌, ℕ, zero, suc, ◌<◌, ◌==◌, Bool, true, false, List, [], ◌∷◌, length, refl, sym, ap, subst, ◌∙◌, arith}
use Rattle.std.proofs.lemmas.Bool.{eqb-true, eq-eqb}
use Rattle.std.specs.Prelude.{Option, Some, None, slice_get, slice_set, if◌then◌else◌}
use Rattle.machine.specs.Cells.{held}
use Rattle.run_laws.proofs.Checking.{set_held}

get_put_same : {X : Type 0} (xs : List (Option X)) (s : ℕ) (old : X) (new : Option X) → held (slice_get xs s) ≡ Some old → held (slice_get (slice_set xs s new) s) ≡ new
get_put_same [] s old new e = absurd cc
get_put_same (y ∷ ys) zero old new e = refl
get_put_same (y ∷ ys) (suc m) old new e = get_put_same ys m old new e

get_put_other : {X : Type 0} (xs : List (Option X)) (s n : ℕ) (new : Option X) → (s ≡ n → ⊥) → slice_get (slice_set xs s new) n ≡ slice_get xs n
get_put_other [] s n new ne = refl
get_put_other (y ∷ ys) zero zero new ne = absurd (ne refl)
get_put_other (y ∷ ys) zero (suc n) new ne = refl
get_put_other (y ∷ ys) (suc m) zero new ne = refl
get_put_other (y ∷ ys) (suc m) (suc n) new ne = get_put_other ys m n new (λ e. ne (ap suc e))

not_equal : (s n : ℕ) → (s == n) ≡ false → s ≡ n → ⊥
not_equal s n eq e = let both : true ≡ false = sym (eq-eqb s n e) ∙ eq in cc

-- The cell s goes on to new, and shows f of what it showed; each other cell shows what it did. A cell with
-- nothing in it stays so.
pub follows : {X F : Type 0} (view : Option X → F) (f : F → F) (xs : List (Option X)) (s n : ℕ) (old new : Option X) (t : Bool)
    → held (slice_get xs s) ≡ old → (s == n) ≡ t → (old ≡ None → new ≡ None) → view new ≡ f (view old)
    → view (held (slice_get (slice_set xs s new) n)) ≡ (if t then f (view (held (slice_get xs n))) else view (held (slice_get xs n)))
follows view f xs s n None new true there eq stays shows =
    let same : s ≡ n = eqb-true s n eq in
    let here : held (slice_get xs n) ≡ None = subst (λ m. held (slice_get xs m) ≡ None) same there in
    ap (λ x. view (held (slice_get (slice_set xs s x) n))) (stays refl) ∙ ap (λ ys. view (held (slice_get ys n))) (set_held xs s None there)
    ∙ ap view here ∙ (sym (ap view (stays refl)) ∙ (shows ∙ ap (λ x. f (view x)) (sym here)))
follows view f xs s n None new false there eq stays shows =
    ap (λ x. view (held (slice_get (slice_set xs s x) n))) (stays refl) ∙ ap (λ ys. view (held (slice_get ys n))) (set_held xs s None there)
follows view f xs s n (Some old) new true there eq stays shows =
    let same : s ≡ n = eqb-true s n eq in
    let here : held (slice_get xs n) ≡ Some old = subst (λ m. held (slice_get xs m) ≡ Some old) same there in
    let put : held (slice_get (slice_set xs s new) n) ≡ new = subst (λ m. held (slice_get (slice_set xs s new) m) ≡ new) same (get_put_same xs s old new there) in
    ap view put ∙ (shows ∙ ap (λ x. f (view x)) (sym here))
follows view f xs s n (Some old) new false there eq stays shows = ap (λ x. view (held x)) (get_put_other xs s n new (not_equal s n eq))

-- the same of a cell that is there, whatever was in it
get_put_in : {X : Type 0} (xs : List (Option X)) (s : ℕ) (new : Option X) → s < length xs → held (slice_get (slice_set xs s new) s) ≡ new
get_put_in [] s new inside = absurd (omega (arith, inside))
get_put_in (y ∷ ys) zero new inside = refl
get_put_in (y ∷ ys) (suc m) new inside = get_put_in ys m new (omega (arith, inside))

pub follows_in : {X F : Type 0} (view : Option X → F) (f : F → F) (xs : List (Option X)) (s n : ℕ) (new : Option X) (t : Bool)
    → s < length xs → (s == n) ≡ t → view new ≡ f (view (held (slice_get xs s)))
    → view (held (slice_get (slice_set xs s new) n)) ≡ (if t then f (view (held (slice_get xs n))) else view (held (slice_get xs n)))
follows_in view f xs s n new true inside eq shows =
    let same : s ≡ n = eqb-true s n eq in
    ap view (subst (λ m. held (slice_get (slice_set xs s new) m) ≡ new) same (get_put_in xs s new inside)) ∙ (shows ∙ ap (λ m. f (view (held (slice_get xs m)))) same)
follows_in view f xs s n new false inside eq shows = ap (λ x. view (held x)) (get_put_other xs s n new (not_equal s n eq))
