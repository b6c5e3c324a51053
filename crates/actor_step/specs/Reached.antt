-- An actor that comes to a load or a store of a slot, while it still runs.
use Rattle.std.specs.Prelude.{◌≡◌, ◌<◌, ℕ, Option, Some, None}
use Rattle.wedge_base.specs.Images.{slots}
use Rattle.wedge_events.specs.Slots.{IsAligned}
use Rattle.wedge_events.specs.declared.events.SlotWant.{SlotWant}
use Rattle.wedge_events.specs.declared.events.SlotWant.TheVariants as slot_want
use Rattle.wedge_events.specs.declared.events.Want.TheVariants as want
use Rattle.machine.specs.Actors.{ActorState, wants}
use Rattle.machine.specs.declared.phase.Phase.{Phase}
use Rattle.machine.specs.declared.phase.Phase.TheVariants as phase
use Rattle.actor_step.specs.declared.access.Access.{Access}

-- the state that an actor is in: where it has come to an access, it wants that
abbrev pub reached : ActorState → Option Access → ActorState
reached a None = a
reached a (Some x) = wants a (want.Slot x.slot x.want)

-- a load or a store that may be asked of a slot
abbrev pub IsSlotAccess : ℕ → SlotWant → Type 0
IsSlotAccess slot (slot_want.Load offset width) = (slot < slots) × IsAligned offset width
IsSlotAccess slot (slot_want.Store offset width value) = (slot < slots) × IsAligned offset width
IsSlotAccess slot q = ⊥

-- an actor in this phase has come to this access: it still runs, and the access may be asked
pub record IsReached (p : Phase) (x : Access) : Type 0 where
  pub runs : p ≡ phase.Running
  pub fits : IsSlotAccess x.slot x.want
