-- Indices of cells: past the end there is none.
use Rattle.std.proofs.Common.{◌≡◌, ℕ, zero, suc, ◌<◌, ◌≤◌, ◌-◌, ◌+◌, List, [], ◌∷◌, ◌++◌, length, get_or, refl, sym, ap, ◌∙◌, append_assoc, arith}
use Rattle.std.specs.Prelude.{Option, None, slice_get, slice_set}
use Rattle.std.proofs.lemmas.List.{append-nil}
use Rattle.wedge_events.specs.Slots.{declared_slots}
use Rattle.wedge_base.specs.declared.image.TagEntry.{TagEntry}
use Rattle.machine.specs.Cells.{held, nothings}

pub past_end : {X : Type 0} (xs : List (Option X)) (n : ℕ) → length xs ≤ n → held (slice_get xs n) ≡ None
past_end [] n le = refl
past_end (x ∷ xs) zero le = absurd (omega (arith, le))
past_end (x ∷ xs) (suc n) le = past_end xs n (omega (arith, le))

pub set_past : {X : Type 0} (xs : List X) (n : ℕ) (x : X) → length xs ≤ n → slice_set xs n x ≡ xs
set_past [] n x le = refl
set_past (y ∷ ys) zero x le = absurd (omega (arith, le))
set_past (y ∷ ys) (suc n) x le = ap (λ zs. y ∷ zs) (set_past ys n x (omega (arith, le)))

pub held_at : {X : Type 0} (xs : List (Option X)) (n : ℕ) (x : Option X) → n < length xs → x ≡ get_or xs n x → held (slice_get xs n) ≡ x
held_at [] n x lt is = absurd (omega (arith, lt))
held_at (y ∷ ys) zero x lt is = sym is
held_at (y ∷ ys) (suc n) x lt is = held_at ys n x (omega (arith, lt)) is

-- one more of nothing
nothings_suc : {X : Type 0} (m n : ℕ) → n < m → nothings {X = X} (m - n) ≡ None ∷ nothings (m - (n + 1))
unfolding nothings
nothings_suc m n lt = let is : m - n ≡ suc (m - (n + 1)) = omega (arith, lt) in ap (λ k. nothings k) is

pub nothings_push : {X : Type 0} (xs : List (Option X)) (m : ℕ) → length xs < m → (xs ++ None ∷ []) ++ nothings (m - (length xs + 1)) ≡ xs ++ nothings (m - length xs)
nothings_push xs m lt = append_assoc xs (None ∷ []) (nothings (m - (length xs + 1))) ∙ ap (λ ys. xs ++ ys) (sym (nothings_suc m (length xs) lt))

pub nothings_none : {X : Type 0} (xs : List (Option X)) (m : ℕ) → m ≤ length xs → xs ++ nothings (m - length xs) ≡ xs
unfolding nothings
nothings_none xs m le = let is : m - length xs ≡ 0 = omega (arith, le) in ap (λ k. xs ++ nothings k) is ∙ append-nil xs

-- a slot for each tag that is declared
pub declared_count : (n : ℕ) (ts : List TagEntry) → length (declared_slots n ts) ≡ length ts
declared_count n [] = refl
declared_count n (t ∷ ts) = ap suc (declared_count (n + 1) ts)
