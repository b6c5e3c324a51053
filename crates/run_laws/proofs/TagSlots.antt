-- The slot in which an actor has a tag: one that it made, or may store to, it has in one.
use Rattle.std.proofs.Common.{◌≡◌, ℕ, Bool, true, false, true≢false, refl, sym, subst}
use Rattle.std.specs.Option.{option_or}
use Rattle.std.specs.Prelude.{Option, Some, None, option_map, is_some, unwrap_or, if◌then◌else◌, IsSomeAnd}
use Rattle.wedge_base.specs.Maps.{at, has}
use Rattle.wedge_base.specs.Rights.{at_least}
use Rattle.wedge_base.specs.Sheets.{slot_on}
use Rattle.wedge_base.specs.declared.rights.Grant.{Grant}
use Rattle.wedge_base.specs.declared.rights.Right.TheVariants as right
use Rattle.machine.specs.Actors.{ActorState, slot_held}
use Rattle.run_laws.specs.Allowed.{may_use}

the_slot : (o : Option ℕ) → is_some o ≡ true → o ≡ Some (unwrap_or o 0)
the_slot None e = absurd (true≢false (sym e))
the_slot (Some slot) e = refl

among : (made : Option ℕ) (given : Option Grant) (t : Bool) → is_some made ≡ t → at_least (if t then Some right.ReadWrite else option_map (λ g. g.right) given) right.ReadWrite ≡ true
    → is_some (option_or made (option_map (λ g. g.slot) given)) ≡ true
among (Some slot) given t e may = refl
among None given true e may = absurd (true≢false (sym e))
among None (Some g) false e may = refl
among None None false e may = absurd (true≢false (sym may))

pub made_slot : (a : ActorState) (tag : ℕ) → has a.made.tags tag ≡ true → slot_on a.sheet a.made tag ≡ Some (slot_held a tag)
made_slot a tag made = the_slot (slot_on a.sheet a.made tag) (by_entry (at a.made.tags tag) made)
  where
    by_entry : (o : Option ℕ) → is_some o ≡ true → is_some (option_or o (option_map (λ g. g.slot) (at a.sheet.tags tag))) ≡ true
    by_entry None e = absurd (true≢false (sym e))
    by_entry (Some slot) e = refl

pub used_slot : (a : ActorState) (tag : ℕ) → may_use a tag right.ReadWrite ≡ true → slot_on a.sheet a.made tag ≡ Some (slot_held a tag)
used_slot a tag may = the_slot (slot_on a.sheet a.made tag) (among (at a.made.tags tag) (at a.sheet.tags tag) (has a.made.tags tag) refl may)

-- what holds of that slot
pub at_slot : (P : ℕ → Type 0) (o : Option ℕ) (slot : ℕ) → o ≡ Some slot → P slot → IsSomeAnd o P
at_slot P o slot is so = subst (λ x. IsSomeAnd x P) (sym is) so

pub of_slot : (P : ℕ → Type 0) (o : Option ℕ) → IsSomeAnd o P → P (unwrap_or o 0)
of_slot P None so = absurd so
of_slot P (Some slot) so = so
