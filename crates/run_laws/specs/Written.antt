-- The bytes of tags and of streams by the history of a run, and who wrote them.
use Rattle.std.specs.Prelude.{◌≡◌, ◌==◌, ℕ, Bool, true, false, List, Option, Some, option_map}
use Rattle.wedge_events.specs.Histories.{bytes_after, Flow, flow, flow_after}
use Rattle.wedge_events.specs.Slots.{Segment}
use Rattle.wedge_events.specs.declared.cells.SlotAsk.TheVariants as slot_ask
use Rattle.wedge_events.specs.declared.cells.SlotReply.TheVariants as slot_reply
use Rattle.wedge_events.specs.declared.events.Event.{Event}
use Rattle.wedge_events.specs.declared.events.Event.TheVariants as event
use Rattle.wedge_events.specs.declared.events.Turn.{Turn}
use Rattle.wedge_events.specs.declared.cells.StreamAsk.TheVariants as stream_ask
use Rattle.wedge_events.specs.declared.cells.StreamReply.TheVariants as stream_reply
use Rattle.machine.specs.Actors.{ActorState, bits_of}
use Rattle.machine.specs.Cells.{Cells, slot_in, stream_in}
use Rattle.machine.specs.Worlds.{WorldState, actor_named}
use Rattle.wedge_base.specs.declared.rights.Right.TheVariants as right
use Rattle.run_laws.specs.Allowed.{may_use}

-- the bytes of the tag that lives in a slot
abbrev pub slot_bytes : Cells → ℕ → Option (List ℕ)
slot_bytes c slot = option_map (λ g. g.bytes) (slot_in c slot)

-- the bytes in each slot are those before, with what these turns wrote over them in order
abbrev pub BytesFollow : Cells → List Turn → Cells → Type 0
BytesFollow old turns new = (slot : ℕ) → slot_bytes new slot ≡ bytes_after slot (slot_bytes old slot) turns

-- the actor of a name may store to a tag
abbrev pub MayStore : List ActorState → List ℕ → ℕ → Type 0
MayStore actors name tag = (a : ActorState) × (actor_named actors name ≡ Some a) × (may_use a tag right.ReadWrite ≡ true)

-- whether an event is a store that took place in a slot
abbrev pub stores_in : ℕ → Event → Bool
stores_in slot (event.Slot s (slot_ask.Store width offset value live) slot_reply.Stored) = s == slot
stores_in slot e = false

-- where a turn stores into a slot, a tag lives there, and the turn's actor may store to it
abbrev pub TurnWritesOwn : WorldState → Turn → WorldState → Type 0
TurnWritesOwn old t new = (slot : ℕ) → stores_in slot t.event ≡ true
    → (g : Segment) × (slot_in old.cells slot ≡ Some g) × MayStore old.actors t.actor g.tag

-- the stream behind a descriptor: its bytes, and how many of them were read
abbrev pub flow_in : Cells → ℕ → Option Flow
flow_in c fd = option_map (λ s. flow s.bytes s.position) (stream_in c fd)

-- each stream is what it was before, with what these turns added to it and took of it in order
abbrev pub FlowsFollow : Cells → List Turn → Cells → Type 0
FlowsFollow old turns new = (fd : ℕ) → flow_in new fd ≡ flow_after fd (flow_in old fd) turns

-- the actor of a name may append to a descriptor
abbrev pub MayAppend : List ActorState → List ℕ → ℕ → Type 0
MayAppend actors name fd = (a : ActorState) × (actor_named actors name ≡ Some a) × ((bits_of a fd).append ≡ true)

-- whether an event is an append that took place on a descriptor
abbrev pub appends_to : ℕ → Event → Bool
appends_to fd (event.Fd n (stream_ask.Append bits bytes) stream_reply.Appended) = n == fd
appends_to fd e = false

-- where a turn appends to a descriptor, the turn's actor may
abbrev pub TurnAppendsOwn : WorldState → Turn → WorldState → Type 0
TurnAppendsOwn old t new = (fd : ℕ) → appends_to fd t.event ≡ true → MayAppend old.actors t.actor fd
