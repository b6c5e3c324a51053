-- The lives that the actors of a world hold.
use Rattle.std.specs.Prelude.{ℕ, ◌+◌, Bool, true, false, ◌||◌, List, [], ◌∷◌, is_some, if◌then◌else◌}
use Rattle.machine.specs.Actors.{ActorState}
use Rattle.machine.specs.Local.{has_ended}
use Rattle.machine.specs.declared.phase.Phase.{Phase}
use Rattle.machine.specs.declared.phase.Phase.TheVariants as phase

-- whether an actor prepares a child, for which a life is claimed
abbrev pub is_starting : Phase → Bool
is_starting (phase.Starting p) = true
is_starting p = false

-- the lives that an actor holds: one of its own, unless it has ended or is the run of a gate, and
-- one for the child that it prepares
abbrev pub lives_of : ActorState → ℕ
lives_of a = (if has_ended a.phase || is_some a.run_of then 0 else 1) + (if is_starting a.phase then 1 else 0)

abbrev pub lives_in : List ActorState → ℕ
lives_in [] = 0
lives_in (a ∷ as_) = lives_of a + lives_in as_
