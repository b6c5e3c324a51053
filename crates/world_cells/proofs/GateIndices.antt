-- The actor at an index, and the first cell of a gate by its index.
use Rattle.std.proofs.Common.{◌≡◌, ℕ, zero, suc, ◌<◌, true, List, [], ◌∷◌, ◌++◌, length, get_or, take, drop, sym, ap, subst, ◌∙◌, arith}
use Rattle.std.specs.Prelude.{Some, slice_get, option_map, unwrap_or, find, if◌then◌else◌}
use Rattle.std.proofs.Math.ListN.{set}
use Rattle.wedge_events.specs.Gates.{Kept, gate_opening}
use Rattle.wedge_base.specs.Identities.{same_gate}
use Rattle.wedge_base.specs.declared.grants.GateId.{GateId}
use Rattle.machine.specs.Cells.{GateCell, kept_among, put_kept}

pub get_at : {X : Type 0} (xs : List X) (n : ℕ) (x : X) → n < length xs → x ≡ get_or xs n x → slice_get xs n ≡ Some x
get_at [] n x lt is = absurd (omega (arith, lt))
get_at (y ∷ ys) zero x lt is = ap (λ z. Some z) (sym is)
get_at (y ∷ ys) (suc n) x lt is = get_at ys n x (omega (arith, lt)) is

-- ---- gates

first_kept : (y : GateCell) (ys : List GateCell) (id : GateId) → same_gate y.id id ≡ true → kept_among (y ∷ ys) id ≡ y.kept
first_kept y ys id e = ap (λ t. unwrap_or (option_map (λ (c : GateCell). c.kept) (if t then Some y else find (λ (c : GateCell). same_gate c.id id) ys)) gate_opening) e

first_put_kept : (y : GateCell) (ys : List GateCell) (id : GateId) (k : Kept) → same_gate y.id id ≡ true → put_kept (y ∷ ys) id k ≡ record y { kept = k } ∷ ys
first_put_kept y ys id k e = ap (λ t. if t then record y { kept = k } ∷ ys else y ∷ put_kept ys id k) e

pub kept_at : (cells : List GateCell) (i : ℕ) (id : GateId) (x : GateCell) → i < length cells → x ≡ get_or cells i x → same_gate x.id id ≡ true → kept_among (drop i cells) id ≡ x.kept
kept_at [] i id x lt is e = absurd (omega (arith, lt))
kept_at (y ∷ ys) zero id x lt is e = first_kept y ys id (subst (λ (z : GateCell). same_gate z.id id ≡ true) is e) ∙ ap (λ (z : GateCell). z.kept) (sym is)
kept_at (y ∷ ys) (suc i) id x lt is e = kept_at ys i id x (omega (arith, lt)) is e

pub put_kept_at : (cells : List GateCell) (i : ℕ) (id : GateId) (k : Kept) (x : GateCell) → i < length cells → x ≡ get_or cells i x → same_gate x.id id ≡ true
    → take i cells ++ put_kept (drop i cells) id k ≡ set cells i (record x { kept = k })
put_kept_at [] i id k x lt is e = absurd (omega (arith, lt))
put_kept_at (y ∷ ys) zero id k x lt is e =
    first_put_kept y ys id k (subst (λ (z : GateCell). same_gate z.id id ≡ true) is e) ∙ ap (λ (z : GateCell). record z { kept = k } ∷ ys) (sym is)
put_kept_at (y ∷ ys) (suc i) id k x lt is e = ap (λ zs. y ∷ zs) (put_kept_at ys i id k x (omega (arith, lt)) is e)
