-- The cells of a world, the event that comes of an ask, and what it makes of its cell.
use Rattle.std.specs.Prelude.{ℕ, ◌-◌, ◌<◌, List, [], ◌∷◌, ◌++◌, length, map, replicate, find, slice_get, slice_set, Option, Some, None, option_map, unwrap_or, if◌then◌else◌}
use Rattle.wedge_base.specs.Images.{Image, slots as most_slots}
use Rattle.wedge_events.specs.Directories.{Directory, directory_reply, directory_next, slots_opening, fds_opening}
use Rattle.wedge_events.specs.Slots.{Segment, slot_reply, slot_after, declared_slots, SlotFits}
use Rattle.wedge_events.specs.Streams.{Stream, stream_reply, stream_after, declared_stream, most_fds}
use Rattle.wedge_events.specs.Lives.{lives_reply, lives_next, lives_opening}
use Rattle.wedge_events.specs.Gates.{Kept, gate_opening, gate_reply, gate_next, GateFits}
use Rattle.wedge_base.specs.Identities.{same_gate}
use Rattle.wedge_base.specs.declared.grants.GateId.{GateId}
use Rattle.wedge_events.specs.declared.events.Want.{Want}
use Rattle.wedge_events.specs.declared.events.Want.TheVariants as want
use Rattle.wedge_events.specs.declared.events.Ask.{Ask}
use Rattle.wedge_events.specs.declared.events.Ask.TheVariants as ask
use Rattle.wedge_events.specs.declared.events.Event.{Event}
use Rattle.wedge_events.specs.declared.events.Event.TheVariants as event

-- the cell of a recycled gate
pub record GateCell : Type 0 where
  pub id : GateId
  pub kept : Kept

-- The cells: the directory of slots and the tag that lives in each slot, if one does; the directory
-- of descriptors and the stream behind each, once it was opened; how many sthreads live; and the
-- recycled gates.
pub record Cells : Type 0 where
  pub places : Directory
  pub slots : List (Option Segment)
  pub numbers : Directory
  pub streams : List (Option Stream)
  pub lives : ℕ
  pub gates : List GateCell

-- so many cells with nothing in them
unfoldable pub nothings : {X : Type 0} → ℕ → List (Option X)
nothings n = replicate n None

-- as a run of the image begins: 4,096 slots and 1,024 descriptors, the declared ones first
abbrev pub opening_cells : Image → Cells
opening_cells i = record {
  places = slots_opening i;
  slots = declared_slots 0 i.tags ++ nothings (most_slots - length i.tags);
  numbers = fds_opening i;
  streams = map (λ f. Some (declared_stream f)) i.fds ++ nothings (most_fds - length i.fds);
  lives = lives_opening;
  gates = [];
}

-- what is in a slot, and the stream behind a descriptor; the number may be out of range
abbrev pub held : {X : Type 0} → Option (Option X) → Option X
held None = None
held (Some x) = x

abbrev pub slot_in : Cells → ℕ → Option Segment
slot_in c slot = held (slice_get c.slots slot)

abbrev pub stream_in : Cells → ℕ → Option Stream
stream_in c fd = held (slice_get c.streams fd)

-- the cell of a recycled gate; one that was never entered is as it begins
abbrev pub kept_among : List GateCell → GateId → Kept
kept_among cells id = unwrap_or (option_map (λ c. c.kept) (find (λ c. same_gate c.id id) cells)) gate_opening

abbrev pub kept_in : Cells → GateId → Kept
kept_in c id = kept_among c.gates id

abbrev pub put_kept : List GateCell → GateId → Kept → List GateCell
put_kept [] id k = record { id = id; kept = k } ∷ []
put_kept (c ∷ cs) id k = if same_gate c.id id then record c { kept = k } ∷ cs else c ∷ put_kept cs id k

-- the tag that lives in the slot of a want
abbrev pub tag_in : Cells → ℕ → Option ℕ
tag_in c slot = option_map (λ g. g.tag) (slot_in c slot)

abbrev pub live_at : Cells → Want → Option ℕ
live_at c (want.Slot slot q) = tag_in c slot
live_at c q = None

-- the event that comes of an ask to a cell: the cell gives its reply
abbrev pub event_of : Cells → Ask → Option Event
event_of c (ask.Slots q) = Some (event.Slots q (directory_reply c.places q))
event_of c (ask.Slot slot q) = Some (event.Slot slot q (slot_reply (slot_in c slot) q))
event_of c (ask.Fds q) = Some (event.Fds q (directory_reply c.numbers q))
event_of c (ask.Fd fd q) = Some (event.Fd fd q (stream_reply (stream_in c fd) q))
event_of c (ask.Lives q) = Some (event.Lives q (lives_reply c.lives q))
event_of c (ask.Gate id q) = Some (event.Gate id q (gate_reply (kept_in c id) q))
event_of c q = None

-- the cell of an event takes its next state, and every other stays
abbrev pub cells_after : Cells → Event → Cells
cells_after c (event.Slots q r) = record c { places = directory_next c.places q }
cells_after c (event.Slot slot q r) = record c { slots = slice_set c.slots slot (slot_after (slot_in c slot) q r) }
cells_after c (event.Fds q r) = record c { numbers = directory_next c.numbers q }
cells_after c (event.Fd fd q r) = record c { streams = slice_set c.streams fd (stream_after (stream_in c fd) q r) }
cells_after c (event.Lives q r) = record c { lives = lives_next c.lives q }
cells_after c (event.Gate id q r) = record c { gates = put_kept c.gates id (gate_next (kept_in c id) q) }
cells_after c e = c

-- an ask fits the cells: there is such a cell, and the ask fits what it is in
abbrev pub AskFits : Cells → Ask → Type 0
AskFits c (ask.Slots q) = Unit {0}
AskFits c (ask.Slot slot q) = (slot < most_slots) × SlotFits (slot_in c slot) q
AskFits c (ask.Fds q) = Unit {0}
AskFits c (ask.Fd fd q) = fd < most_fds
AskFits c (ask.Lives q) = Unit {0}
AskFits c (ask.Gate id q) = GateFits (kept_in c id) q
AskFits c q = ⊥
