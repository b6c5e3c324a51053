-- The run of a gate has the gate's copies, which are at the slots of the grants of copies on the gate's sheet, and so of those on its own.
use Rattle.std.proofs.Common.{◌≡◌, ℕ, Bool, true, false, [], ◌∷◌, refl}
use Rattle.std.specs.FinMap.Entries.{by_order}
use Rattle.std.specs.Ordering.{nat_cmp, is_eq}
use Rattle.std.specs.Prelude.{Option, Some, None, is_some, ◌||◌, if◌then◌else◌}
use Rattle.std.specs.declared.cmp.Ordering.{Ordering}
use Rattle.std.specs.declared.cmp.Ordering.TheVariants.{Less, Equal, Greater}
use Rattle.wedge_base.specs.Maps.{Map, at, has, with, map_union}
use Rattle.wedge_base.specs.Sheets.{Sheet, lent_to}
use Rattle.wedge_base.specs.declared.rights.Grant.{Grant}
use Rattle.run_laws.specs.CopiesGranted.{grants_copy}
use Rattle.run_laws.proofs.GrantedPreparing.{or_true}

or_later : (t u v : Bool) → (u ≡ true → v ≡ true) → (t || u) ≡ true → (t || v) ≡ true
or_later true u v later e = refl
or_later false u v later e = later e

-- a grant of a copy is one still where another grant is put at a key that had none
grants_with : (gs : Map Grant) (k : ℕ) (v : Grant) (slot : ℕ) → has gs k ≡ false → grants_copy gs slot ≡ true → grants_copy (with gs k v) slot ≡ true
grants_with [] k v slot lacks there = absurd cc
grants_with (e ∷ es) k v slot lacks there = in_order (nat_cmp k e.0) lacks (grants_with es k v slot)
  where
    in_order : (o : Ordering) → is_some (if is_eq o then Some e.1 else at es k) ≡ false → (has es k ≡ false → grants_copy es slot ≡ true → grants_copy (with es k v) slot ≡ true)
        → grants_copy (by_order o ((k, v) ∷ e ∷ es) ((e.0, v) ∷ es) (e ∷ with es k v)) slot ≡ true
    in_order Less none others = or_true _ (grants_copy (e ∷ es) slot) there
    in_order Equal none others = absurd cc
    in_order Greater none others = or_later _ (grants_copy es slot) (grants_copy (with es k v) slot) (others none) there

-- and so where what another map has is put at such keys
grants_joined : (gs es : Map Grant) (slot : ℕ) → grants_copy gs slot ≡ true → grants_copy (map_union gs es) slot ≡ true
grants_joined gs [] slot there = there
grants_joined gs (e ∷ es) slot there = grants_joined (if has gs e.0 then gs else with gs e.0 e.1) es slot (by_key (has gs e.0) refl)
  where
    by_key : (t : Bool) → has gs e.0 ≡ t → grants_copy (if t then gs else with gs e.0 e.1) slot ≡ true
    by_key true is = there
    by_key false is = grants_with gs e.0 e.1 slot is there

-- so what is lent takes no grant of a copy from a run
pub grants_lent : (g : Sheet) (lent : Option Sheet) (slot : ℕ) → grants_copy g.tags slot ≡ true → grants_copy (lent_to g lent).tags slot ≡ true
grants_lent g None slot there = there
grants_lent g (Some s) slot there = grants_joined g.tags s.tags slot there
