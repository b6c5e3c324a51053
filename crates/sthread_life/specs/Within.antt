-- What an actor at a shared event wants.
use Rattle.machine.specs.Actors.{ActorState}
use Rattle.machine.specs.Between.{WantFits}
use Rattle.machine.specs.declared.phase.Phase.{Phase}
use Rattle.machine.specs.declared.phase.Phase.TheVariants as phase

-- it fits the actor
abbrev pub FitsWithin : ActorState → Phase → Type 0
FitsWithin a (phase.Within w) = WantFits a w
FitsWithin a p = Unit {0}
