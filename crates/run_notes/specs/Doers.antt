-- An actor at rest, as far as its next event is noted by it.
use Rattle.std.specs.Prelude.{ℕ, Option, Some, None}
use Rattle.machine.specs.Actors.{ActorState}
use Rattle.machine.specs.declared.phase.Phase.{Phase}
use Rattle.machine.specs.declared.phase.Phase.TheVariants as phase
use Rattle.run_notes.specs.declared.doer.Doer.{Doer}

-- the entry of the gate that an actor is about to enter
abbrev pub entry_of : Phase → Option ℕ
entry_of (phase.Entering x) = Some x.gate.entry
entry_of p = None

-- its name, the address of its instruction, its compartment, and that entry
abbrev pub doer_of : ActorState → Doer
doer_of a = record { name = a.name; pc = a.hart.pc; compartment = a.compartment; entry = entry_of a.phase }
