-- From what an actor wants to what it asks, and the cell of each.
use Rattle.std.specs.Prelude.{Option, Some, None}
use Rattle.wedge_events.specs.declared.cells.Live.{Live}
use Rattle.wedge_events.specs.declared.cells.SlotAsk.{SlotAsk}
use Rattle.wedge_events.specs.declared.cells.SlotAsk.TheVariants as slot_ask
use Rattle.wedge_events.specs.declared.events.SlotWant.{SlotWant}
use Rattle.wedge_events.specs.declared.events.SlotWant.TheVariants as slot_want
use Rattle.wedge_events.specs.declared.events.CellName.{CellName}
use Rattle.wedge_events.specs.declared.events.CellName.TheVariants as cell
use Rattle.wedge_events.specs.declared.events.Want.{Want}
use Rattle.wedge_events.specs.declared.events.Want.TheVariants as want
use Rattle.wedge_events.specs.declared.events.Ask.{Ask}
use Rattle.wedge_events.specs.declared.events.Ask.TheVariants as ask

abbrev pub cell_wanted : Want → Option CellName
cell_wanted (want.Slots q) = Some cell.Slots
cell_wanted (want.Slot slot q) = Some (cell.Slot slot)
cell_wanted (want.Fds q) = Some cell.Fds
cell_wanted (want.Fd fd q) = Some (cell.Fd fd)
cell_wanted (want.Lives q) = Some cell.Lives
cell_wanted (want.Gate gate q) = Some (cell.Gate gate)
cell_wanted (want.Start child) = None
cell_wanted (want.Join child) = None
cell_wanted (want.Enter run) = None
cell_wanted (want.Leave end) = None

-- what is asked of a slot where this tag lives there, with the actor's right on it
abbrev pub slot_ask_with : SlotWant → Option Live → SlotAsk
slot_ask_with (slot_want.Open tag pages) live = slot_ask.Open tag pages
slot_ask_with (slot_want.Close tag) live = slot_ask.Close tag
slot_ask_with (slot_want.Load offset width) live = slot_ask.Load width offset live
slot_ask_with (slot_want.Store offset width value) live = slot_ask.Store width offset value live
slot_ask_with (slot_want.Smalloc tag size) live = slot_ask.Smalloc tag size
slot_ask_with (slot_want.Sfree offset) live = slot_ask.Sfree offset live
slot_ask_with (slot_want.Snap tag) live = slot_ask.Snap tag

abbrev pub asked_with : Want → Option Live → Ask
asked_with (want.Slots q) live = ask.Slots q
asked_with (want.Slot slot q) live = ask.Slot slot (slot_ask_with q live)
asked_with (want.Fds q) live = ask.Fds q
asked_with (want.Fd fd q) live = ask.Fd fd q
asked_with (want.Lives q) live = ask.Lives q
asked_with (want.Gate gate q) live = ask.Gate gate q
asked_with (want.Start child) live = ask.Start child
asked_with (want.Join child) live = ask.Join child
asked_with (want.Enter run) live = ask.Enter run
asked_with (want.Leave end) live = ask.Leave end
