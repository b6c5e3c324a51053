-- Names of the actors of a world.
use Rattle.std.specs.Prelude.{◌≡◌, ℕ, false, List, [], ◌∷◌}
use Rattle.wedge_base.specs.Names.{same}
use Rattle.machine.specs.Actors.{ActorState}

-- no actor has a name
abbrev pub IsNew : List ℕ → List ActorState → Type 0
IsNew name [] = Unit {0}
IsNew name (a ∷ as_) = (same a.name name ≡ false) × IsNew name as_

-- no two of them have one name
abbrev pub AreDistinct : List ActorState → Type 0
AreDistinct [] = Unit {0}
AreDistinct (a ∷ as_) = IsNew a.name as_ × AreDistinct as_
