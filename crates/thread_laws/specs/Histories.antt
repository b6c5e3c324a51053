-- The history of a cell. It is replayed on the record of all cells, of which only this one changes.
use Rattle.std.specs.Prelude.{◌≡◌, ℕ, ◌<◌, ◌==◌, Bool, true, false, List, [], ◌∷◌, length, Some, if◌then◌else◌}
use Rattle.wedge_base.specs.Identities.{same_gate}
use Rattle.wedge_base.specs.Images.{Image}
use Rattle.wedge_events.specs.Journals.{event_ask}
use Rattle.wedge_events.specs.declared.events.CellName.{CellName}
use Rattle.wedge_events.specs.declared.events.CellName.TheVariants as cell
use Rattle.wedge_events.specs.declared.events.Event.{Event}
use Rattle.wedge_events.specs.declared.events.Event.TheVariants as event
use Rattle.wedge_events.specs.declared.events.LogEntry.{LogEntry}
use Rattle.machine.specs.Cells.{Cells, opening_cells, slot_in, stream_in, kept_in, event_of, cells_after, AskFits}

-- whether an event is of a cell
abbrev pub is_of : CellName → Event → Bool
is_of cell.Slots (event.Slots q r) = true
is_of (cell.Slot s) (event.Slot slot q r) = slot == s
is_of cell.Fds (event.Fds q r) = true
is_of (cell.Fd n) (event.Fd fd q r) = fd == n
is_of cell.Lives (event.Lives q r) = true
is_of (cell.Gate g) (event.Gate id q r) = same_gate id g
is_of c e = false

-- the entries of a cell, in their order
abbrev pub entries_on : CellName → List LogEntry → List LogEntry
entries_on name [] = []
entries_on name (e ∷ es) = if is_of name e.event then e ∷ entries_on name es else entries_on name es

-- an entry of a cell, above its clock: the cell's reply to an ask that fits it
pub record IsReply (name : CellName) (c : Cells) (clock : ℕ) (e : LogEntry) : Type 0 where
  pub own : is_of name e.event ≡ true
  pub above : clock < e.stamp
  pub reply : event_of c (event_ask e.event) ≡ Some e.event
  pub fits : AskFits c (event_ask e.event)

-- each entry is the reply of the cell as those before left it
abbrev pub IsReplay : CellName → Cells → ℕ → List LogEntry → Type 0
IsReplay name c clock [] = Unit {0}
IsReplay name c clock (e ∷ es) = IsReply name c clock e
    × IsReplay name (cells_after c e.event) e.stamp es

-- a legal history of a cell: from the state with which the run begins
abbrev pub IsLegal : Image → CellName → List LogEntry → Type 0
IsLegal i name es = IsReplay name (opening_cells i) 0 es

-- the cells after these entries, and the cells after a history
abbrev pub cells_after_entries : Cells → List LogEntry → Cells
cells_after_entries c [] = c
cells_after_entries c (e ∷ es) = cells_after_entries (cells_after c e.event) es

abbrev pub left_by_history : Image → List LogEntry → Cells
left_by_history i es = cells_after_entries (opening_cells i) es

-- one cell is the same in both
abbrev pub AreAlike : CellName → Cells → Cells → Type 0
AreAlike cell.Slots c d = c.places ≡ d.places
AreAlike (cell.Slot s) c d = (slot_in c s ≡ slot_in d s) × (length c.slots ≡ length d.slots)
AreAlike cell.Fds c d = c.numbers ≡ d.numbers
AreAlike (cell.Fd n) c d = (stream_in c n ≡ stream_in d n) × (length c.streams ≡ length d.streams)
AreAlike cell.Lives c d = c.lives ≡ d.lives
AreAlike (cell.Gate g) c d = kept_in c g ≡ kept_in d g
