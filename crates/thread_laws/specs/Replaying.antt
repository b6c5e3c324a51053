-- Histories as locked cells keep them, and as entries of the journal.
use Rattle.std.specs.Prelude.{ℕ, ◌+◌, ◌<◌, ◌==◌, ◌++◌, Bool, true, false, List, [], ◌∷◌, map, find, Option, Some, None}
use Rattle.wedge_base.specs.Identities.{same_gate}
use Rattle.wedge_base.specs.Images.{Image, slots as most_slots}
use Rattle.wedge_events.specs.Directories.{DirectoryFits, directory_reply, directory_next, slots_opening, fds_opening}
use Rattle.wedge_events.specs.Gates.{GateFits, gate_reply, gate_next, gate_opening}
use Rattle.wedge_events.specs.Lives.{lives_reply, lives_next, lives_opening}
use Rattle.wedge_events.specs.Slots.{SlotFits, slot_reply, slot_next, slot_opening}
use Rattle.wedge_events.specs.Streams.{StreamFits, stream_reply, stream_next, stream_opening, most_fds}
use Rattle.wedge_events.specs.declared.cells.SlotAsk.{SlotAsk}
use Rattle.wedge_events.specs.declared.cells.SlotReply.{SlotReply}
use Rattle.wedge_events.specs.declared.events.CellName.{CellName}
use Rattle.wedge_events.specs.declared.events.CellName.TheVariants as cell
use Rattle.wedge_events.specs.declared.events.Event.{Event}
use Rattle.wedge_events.specs.declared.events.Event.TheVariants as event
use Rattle.wedge_events.specs.declared.events.LogEntry.{LogEntry}
use Rattle.journal_cell.specs.Histories.{IsHistory}
use Rattle.journal_cell.specs.declared.entry.Entry.{Entry}
use Rattle.thread_laws.specs.Histories.{IsLegal}
use Rattle.thread_laws.specs.declared.gathered.CellHistory.{CellHistory}
use Rattle.thread_laws.specs.declared.gathered.CellHistory.TheVariants as history
use Rattle.thread_laws.specs.declared.gathered.Gathered.{Gathered}

-- the entries of a cell as entries of the journal: ask and reply make the event
abbrev pub logged_as : {Q R : Type 0} → (Q → R → Event) → List (Entry Q R) → List LogEntry
logged_as make es =
    map (λ e. record { stamp = e.stamp; actor = e.actor; event = make e.ask e.reply }) es

-- the cell of a history, and its entries as entries of the journal
abbrev pub cell_in : CellHistory → CellName
cell_in (history.Slots es) = cell.Slots
cell_in (history.Slot slot es) = cell.Slot slot
cell_in (history.Fds es) = cell.Fds
cell_in (history.Fd fd es) = cell.Fd fd
cell_in (history.Lives es) = cell.Lives
cell_in (history.Gate id es) = cell.Gate id

abbrev pub logged : CellHistory → List LogEntry
logged (history.Slots es) = logged_as event.Slots es
logged (history.Slot slot es) = logged_as (event.Slot slot) es
logged (history.Fds es) = logged_as event.Fds es
logged (history.Fd fd es) = logged_as (event.Fd fd) es
logged (history.Lives es) = logged_as event.Lives es
logged (history.Gate id es) = logged_as (event.Gate id) es

abbrev pub same_cell : CellName → CellName → Bool
same_cell cell.Slots cell.Slots = true
same_cell (cell.Slot s) (cell.Slot t) = s == t
same_cell cell.Fds cell.Fds = true
same_cell (cell.Fd m) (cell.Fd n) = m == n
same_cell cell.Lives cell.Lives = true
same_cell (cell.Gate g) (cell.Gate h) = same_gate g h
same_cell x y = false

abbrev pub entries_kept_in : Option CellHistory → List LogEntry
entries_kept_in None = []
entries_kept_in (Some h) = logged h

-- the history of a cell is that of the first item that names it, and is empty where none does
abbrev pub history_of : List CellHistory → CellName → List LogEntry
history_of cells name = entries_kept_in (find (λ h. same_cell (cell_in h) name) cells)

-- the histories of slots, one after another, from this number on
abbrev pub slot_histories : ℕ → List (List (Entry SlotAsk SlotReply)) → List CellHistory
slot_histories n [] = []
slot_histories n (es ∷ ess) = history.Slot n es ∷ slot_histories (n + 1) ess

-- the histories of all cells: those of the slots of declared tags, which are the first ones, and the others
abbrev pub all_histories : Gathered → List CellHistory
all_histories g = slot_histories 0 g.declared ++ g.others

-- the history of each cell, listed or not, is legal
abbrev pub Legal : Image → List CellHistory → Type 0
Legal i cells = (name : CellName) → IsLegal i name (history_of cells name)

-- what a locked cell of the run kept: each ask fitted, each reply is the cell's, and stamps rise
abbrev pub IsLegalHistory : Image → CellHistory → Type 0
IsLegalHistory i (history.Slots es) =
    IsHistory DirectoryFits directory_reply directory_next (slots_opening i) 0 es
IsLegalHistory i (history.Slot slot es) = (slot < most_slots)
    × IsHistory SlotFits slot_reply slot_next (slot_opening i slot) 0 es
IsLegalHistory i (history.Fds es) =
    IsHistory DirectoryFits directory_reply directory_next (fds_opening i) 0 es
IsLegalHistory i (history.Fd fd es) = (fd < most_fds)
    × IsHistory StreamFits stream_reply stream_next (stream_opening i fd) 0 es
IsLegalHistory i (history.Lives es) = IsHistory (λ n q. Unit {0}) lives_reply lives_next lives_opening 0 es
IsLegalHistory i (history.Gate id es) = IsHistory GateFits gate_reply gate_next gate_opening 0 es

abbrev pub AreLegalHistories : Image → List CellHistory → Type 0
AreLegalHistories i [] = Unit {0}
AreLegalHistories i (h ∷ hs) = IsLegalHistory i h × AreLegalHistories i hs

abbrev pub KeptAreLegal : Type 0
KeptAreLegal = (i : Image) (cells : List CellHistory) → AreLegalHistories i cells → Legal i cells
