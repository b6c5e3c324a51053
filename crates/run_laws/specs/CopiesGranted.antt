-- Private copies are at the slots of grants of copies, on the sheet of whoever has them.
use Rattle.std.specs.Prelude.{◌≡◌, ℕ, ◌==◌, Bool, true, false, ◌&&◌, ◌||◌, [], ◌∷◌, is_some}
use Rattle.std.specs.List.{AllByRecursion}
use Rattle.cow_pages.specs.Copies.{Copies, copy_at}
use Rattle.wedge_base.specs.Maps.{Map}
use Rattle.wedge_base.specs.Sheets.{is_copy}
use Rattle.wedge_base.specs.declared.rights.Grant.{Grant}
use Rattle.callgate.specs.declared.gate.Gate.{Gate}
use Rattle.machine.specs.Actors.{ActorState}

-- whether a sheet's grants have one of a copy at a slot
abbrev pub grants_copy : Map Grant → ℕ → Bool
grants_copy [] slot = false
grants_copy (e ∷ es) slot = (is_copy e.1.right && (e.1.slot == slot)) || grants_copy es slot

abbrev pub AreGranted : Map Grant → Copies → Type 0
AreGranted gs copies = (slot : ℕ) → is_some (copy_at copies slot) ≡ true → grants_copy gs slot ≡ true

-- an actor's own copies, by its own sheet; and those with which the runs of a gate begin, by the
-- gate's
abbrev pub AreOwnCopiesGranted : ActorState → Type 0
AreOwnCopiesGranted a = AreGranted a.sheet.tags a.memory.copies

abbrev pub AreGateCopiesGranted : Gate → Type 0
AreGateCopiesGranted g = AreGranted g.sheet.tags g.memory.copies

pub record HasCopiesGranted (a : ActorState) : Type 0 where
  pub own : AreOwnCopiesGranted a
  pub gates : AllByRecursion AreGateCopiesGranted a.gates
