-- What an actor sees of the cells: where they look alike to it in two worlds, its loads, stores,
-- reads and appends go the same way in both.
use Rattle.std.specs.Prelude.{◌≡◌, ℕ, Bool, true, ◌||◌, List, Option, Some, None, is_some, option_and_then, if◌then◌else◌}
use Rattle.wedge_events.specs.Slots.{Segment}
use Rattle.wedge_base.specs.declared.rights.FdBits.{FdBits}
use Rattle.wedge_base.specs.declared.rights.Right.TheVariants as right
use Rattle.wedge_events.specs.declared.cells.StreamAsk.TheVariants as stream_ask
use Rattle.wedge_events.specs.declared.events.Event.{Event}
use Rattle.wedge_events.specs.declared.events.SlotWant.TheVariants as slot_want
use Rattle.wedge_events.specs.declared.events.Want.{Want}
use Rattle.wedge_events.specs.declared.events.Want.TheVariants as want
use Rattle.machine.specs.declared.phase.Phase.TheVariants as phase
use Rattle.machine.specs.Actors.{ActorState, bits_of}
use Rattle.run_laws.specs.Allowed.{may_use}
use Rattle.machine.specs.Cells.{Cells, slot_in, stream_in}
use Rattle.machine.specs.Local.{rest}
use Rattle.machine.specs.Worlds.{WorldState, actor_named, turn_of, ready}

-- a tag as it is seen by who may load from it: its number and its bytes
pub record Sight : Type 0 where
  pub tag : ℕ
  pub bytes : List ℕ

abbrev pub sight : Segment → Sight
sight g = record { tag = g.tag; bytes = g.bytes }

abbrev pub seen_tag : ActorState → Segment → Option Sight
seen_tag a g = if may_use a g.tag right.Read then Some (sight g) else None

-- what an actor sees of a slot: nothing, unless it may load from the tag that lives there
abbrev pub seen : ActorState → Option Segment → Option Sight
seen a g = option_and_then (seen_tag a) g

abbrev pub has_bit : FdBits → Bool
has_bit b = b.read || b.append

-- each tag that the actor may load from lives in the same slot with the same bytes, or in neither;
-- and each descriptor on which it has a bit has the same stream
pub record LookAlike (a : ActorState) (c d : Cells) : Type 0 where
  pub tags : (slot : ℕ) → seen a (slot_in c slot) ≡ seen a (slot_in d slot)
  pub streams : (fd : ℕ) → has_bit (bits_of a fd) ≡ true → stream_in c fd ≡ stream_in d fd

-- a load or a store in a slot where the actor sees a tag, and a read or an append on a descriptor
-- on which it has a bit
abbrev pub IsSeen : Cells → ActorState → Want → Type 0
IsSeen c a (want.Slot slot (slot_want.Load offset width)) = is_some (seen a (slot_in c slot)) ≡ true
IsSeen c a (want.Slot slot (slot_want.Store offset width value)) = is_some (seen a (slot_in c slot)) ≡ true
IsSeen c a (want.Fd fd (stream_ask.Read bits count)) = has_bit (bits_of a fd) ≡ true
IsSeen c a (want.Fd fd (stream_ask.Append bits bytes)) = has_bit (bits_of a fd) ≡ true
IsSeen c a q = ⊥

-- the actor of a name has turns with one event in both worlds; what it then is, is the same; and
-- the cells still look alike to it
pub record TakesSameTurns (v w : WorldState) (name : List ℕ) : Type 0 where
  pub event : Event
  pub first : WorldState
  pub second : WorldState
  pub in_first : turn_of v name ≡ Some (record { event = event; world = first })
  pub in_second : turn_of w name ≡ Some (record { event = event; world = second })
  pub after : ActorState
  pub first_after : actor_named first.actors name ≡ Some after
  pub second_after : actor_named second.actors name ≡ Some after
  pub alike : LookAlike after first.cells second.cells

-- two worlds of one image in which an actor is the same and goes on the same way, whatever else
-- they hold: at rest it is within such an access
pub record IsAccess (v w : WorldState) (name : List ℕ) (a : ActorState) (q : Want) : Type 0 where
  pub image : v.image ≡ w.image
  pub in_first : actor_named v.actors name ≡ Some a
  pub in_second : actor_named w.actors name ≡ Some a
  pub alike : LookAlike a v.cells w.cells
  pub going : ready v.actors a ≡ ready w.actors a
  pub within : (rest v.image (ready v.actors a)).phase ≡ phase.Within q
  pub is_seen : IsSeen v.cells a q
