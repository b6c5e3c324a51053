-- What is asked of a cell fits the cell as it then is.
use Rattle.std.specs.Prelude.{◌<◌, length}
use Rattle.wedge_base.specs.Images.{Image}
use Rattle.wedge_events.specs.Gates.{GateFits}
use Rattle.wedge_events.specs.Slots.{SlotFits}
use Rattle.wedge_events.specs.declared.cells.GateAsk.{GateAsk}
use Rattle.wedge_events.specs.declared.cells.GateAsk.TheVariants as gate_ask
use Rattle.wedge_events.specs.declared.events.Event.{Event}
use Rattle.wedge_events.specs.declared.events.Event.TheVariants as event
use Rattle.wedge_events.specs.declared.events.Turn.{Turn}
use Rattle.machine.specs.Cells.{Cells, slot_in, kept_in}
use Rattle.run_laws.specs.MemoryRanges.{HasImagesRanges}
use Rattle.machine.specs.Worlds.{WorldState}

-- the memory that an entry of a recycled gate brings for a first run, and the one that a run leaves
-- there, have the ranges of the image
abbrev pub MemoryFits : Image → GateAsk → Type 0
MemoryFits i (gate_ask.Enter run first) = HasImagesRanges i first
MemoryFits i (gate_ask.Leave end memory) = HasImagesRanges i memory

-- A slot is one that there is, and so is a descriptor. A load or a store is of 1, 2 or 4 bytes at a
-- multiple of its width inside the window, and a free inside it, each with the right on the tag that
-- lives in the slot, or none where none lives there; a block is of a byte at least, and a tag of 1
-- to 16 pages; and a recycled gate is free when it is entered, and entered when a run leaves it,
-- each with memory that has the image's ranges. Whatever else is asked fits always.
abbrev pub EventFits : Image → Cells → Event → Type 0
EventFits i c (event.Slot slot q r) = (slot < length c.slots) × SlotFits (slot_in c slot) q
EventFits i c (event.Fd fd q r) = fd < length c.streams
EventFits i c (event.Gate id q r) = GateFits (kept_in c id) q × MemoryFits i q
EventFits i c e = Unit {0}

abbrev pub TurnFits : WorldState → Turn → WorldState → Type 0
TurnFits old t new = EventFits old.image old.cells t.event
