-- The recycled gates among the first so many that an actor knows.
use Rattle.std.proofs.Common.{◌≡◌, ℕ, zero, suc, ◌+◌, ◌<◌, ◌≤◌, List, [], ◌∷◌, ◌++◌, length, take, get_or, map, refl, sym, ap, subst, ◌∙◌, arith}
use Rattle.wedge_base.specs.declared.grants.GateId.{GateId}
use Rattle.wedge_base.specs.declared.grants.GateKind.{GateKind}
use Rattle.wedge_base.specs.declared.grants.GateKind.TheVariants as kind
use Rattle.callgate.specs.declared.gate.Gate.{Gate}
use Rattle.run_cells.specs.RecycledGates.{GateCellsState, HasCells, recycled, with_recycled}

before_rest : (k : GateKind) (id : GateId) (xs ys : List GateId) → with_recycled k id (xs ++ ys) ≡ with_recycled k id xs ++ ys
before_rest kind.Recycled id xs ys = refl
before_rest kind.Fresh id xs ys = refl

recycled_last : (gs : List Gate) (g : Gate) → recycled (gs ++ g ∷ []) ≡ recycled gs ++ with_recycled g.kind g.id []
recycled_last [] g = refl
recycled_last (x ∷ gs) g = ap (with_recycled x.kind x.id) (recycled_last gs g) ∙ before_rest x.kind x.id (recycled gs) (with_recycled g.kind g.id [])

one_more : {X : Type 0} (value : X → Gate) (xs : List X) (n : ℕ) (g : X) → n < length xs → g ≡ get_or xs n g → take (suc n) (map value xs) ≡ take n (map value xs) ++ value g ∷ []
one_more value [] n g inside is = absurd (omega (arith, inside))
one_more value (x ∷ xs) zero g inside is = ap (λ y. value y ∷ []) (sym is)
one_more value (x ∷ xs) (suc n) g inside is = ap (λ ys. value x ∷ ys) (one_more value xs n g (omega (arith, inside)) is)

length_map : {X : Type 0} (value : X → Gate) (xs : List X) → length (map value xs) ≡ length xs
length_map value [] = refl
length_map value (x ∷ xs) = ap suc (length_map value xs)

-- the next gate is looked at
pub looked_at : {X : Type 0} (value : X → Gate) (old new : GateCellsState) (gates : List X) (g : X) → HasCells old (map value gates) → old.seen < length gates → g ≡ get_or gates old.seen g
    → new.seen ≡ old.seen + 1 → new.gates ≡ old.gates ++ with_recycled (value g).kind (value g).id [] → HasCells new (map value gates)
looked_at value old new gates g h inside is seen added =
    let count = length_map value gates in
    let next : new.seen ≡ suc old.seen = omega (arith, seen) in
    record {
      seen_ = omega (arith, count, inside, seen);
      cells_ = added ∙ (ap (λ ids. ids ++ with_recycled (value g).kind (value g).id []) h.cells_ ∙ (sym (recycled_last (take old.seen (map value gates)) (value g))
          ∙ ap recycled (sym (one_more value gates old.seen g inside is) ∙ ap (λ n. take n (map value gates)) (sym next))));
    }
