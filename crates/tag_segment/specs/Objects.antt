-- The cell of a slot as one of the cells of a run.
use Rattle.std.specs.Prelude.{Option, None}
use Rattle.wedge_base.specs.Images.{Image}
use Rattle.wedge_events.specs.Slots.{Segment, SlotFits, slot_opening}
use Rattle.wedge_events.specs.declared.cells.SlotAsk.{SlotAsk}
use Rattle.wedge_events.specs.declared.events.CellName.{CellName}
use Rattle.wedge_events.specs.declared.events.CellName.TheVariants as cell

-- the state with which the cell of a name begins; a name of another kind of cell has none
abbrev pub opening_state : Image → CellName → Option Segment
opening_state i (cell.Slot slot) = slot_opening i slot
opening_state i c = None

-- whether an ask fits a state is the same in every image
abbrev pub FitsState : Image → Option Segment → SlotAsk → Type 0
FitsState i s q = SlotFits s q
