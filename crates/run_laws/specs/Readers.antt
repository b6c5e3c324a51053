-- Who loads from tags, and who reads streams.
use Rattle.std.specs.Prelude.{◌≡◌, ◌==◌, ℕ, Bool, true, false, List, Some}
use Rattle.wedge_base.specs.declared.rights.Right.TheVariants as right
use Rattle.wedge_events.specs.Slots.{Segment}
use Rattle.wedge_events.specs.declared.cells.SlotAsk.TheVariants as slot_ask
use Rattle.wedge_events.specs.declared.cells.SlotReply.TheVariants as slot_reply
use Rattle.wedge_events.specs.declared.cells.StreamAsk.TheVariants as stream_ask
use Rattle.wedge_events.specs.declared.cells.StreamReply.TheVariants as stream_reply
use Rattle.wedge_events.specs.declared.events.Event.{Event}
use Rattle.wedge_events.specs.declared.events.Event.TheVariants as event
use Rattle.wedge_events.specs.declared.events.Turn.{Turn}
use Rattle.machine.specs.Actors.{ActorState, bits_of}
use Rattle.machine.specs.Cells.{slot_in}
use Rattle.machine.specs.Worlds.{WorldState, actor_named}
use Rattle.run_laws.specs.Allowed.{may_use}

-- the actor of a name may load from a tag
abbrev pub MayLoad : List ActorState → List ℕ → ℕ → Type 0
MayLoad actors name tag = (a : ActorState) × (actor_named actors name ≡ Some a) × (may_use a tag right.Read ≡ true)

-- whether an event is a load that took place in a slot
abbrev pub loads_in : ℕ → Event → Bool
loads_in slot (event.Slot s (slot_ask.Load width offset live) (slot_reply.Loaded value)) = s == slot
loads_in slot e = false

-- where a turn loads from a slot, a tag lives there, and the turn's actor may load from it
abbrev pub TurnLoadsOwn : WorldState → Turn → WorldState → Type 0
TurnLoadsOwn old t new = (slot : ℕ) → loads_in slot t.event ≡ true
    → (g : Segment) × (slot_in old.cells slot ≡ Some g) × MayLoad old.actors t.actor g.tag

-- the actor of a name may read a descriptor
abbrev pub MayRead : List ActorState → List ℕ → ℕ → Type 0
MayRead actors name fd = (a : ActorState) × (actor_named actors name ≡ Some a) × ((bits_of a fd).read ≡ true)

-- whether an event is a read that was given bytes of a descriptor, or its end
abbrev pub reads_of : ℕ → Event → Bool
reads_of fd (event.Fd n (stream_ask.Read bits count) (stream_reply.Given bytes)) = n == fd
reads_of fd e = false

-- where a turn reads a descriptor, the turn's actor may
abbrev pub TurnReadsOwn : WorldState → Turn → WorldState → Type 0
TurnReadsOwn old t new = (fd : ℕ) → reads_of fd t.event ≡ true → MayRead old.actors t.actor fd
