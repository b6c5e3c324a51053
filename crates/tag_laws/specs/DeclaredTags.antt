-- The slots of declared tags: entries on them, what passes entered there, and what their locks kept. Declared tags
-- live in the first slots.
use Rattle.std.specs.Prelude.{◌≡◌, ℕ, ◌<◌, List, [], ◌∷◌, ◌++◌, length, if◌then◌else◌, IsPermutation, Option}
use mathlib.Core.Option.{some}
use lib.ListN.{get_elem?}
use Rattle.wedge_base.specs.Images.{Image}
use Rattle.wedge_events.specs.Slots.{Segment}
use Rattle.wedge_events.specs.declared.cells.SlotAsk.{SlotAsk}
use Rattle.wedge_events.specs.declared.cells.SlotReply.{SlotReply}
use Rattle.wedge_events.specs.declared.events.CellName.{CellName}
use Rattle.wedge_events.specs.declared.events.CellName.TheVariants as cell
use Rattle.wedge_events.specs.declared.events.Event.{Event}
use Rattle.wedge_events.specs.declared.events.Event.TheVariants as event
use Rattle.wedge_events.specs.declared.events.LogEntry.{LogEntry}
use Rattle.journal_cell.specs.Histories.{CellState}
use Rattle.ruled_cell.specs.declared.visits.OwnVisit.{OwnVisit}
use Rattle.ruled_cell.specs.declared.passes.PassView.{PassView}
use Rattle.ruled_cell.specs.Visits.{entry_list}
use Rattle.ruled_cell.specs.Passes.{IsClosing}
use Rattle.thread_laws.specs.Histories.{entries_on}
use Rattle.thread_laws.specs.Joining.{all_logged, AgreeOn}
use Rattle.thread_laws.specs.KeptEntries.{is_on_declared}
use Rattle.thread_laws.specs.Replaying.{logged_as, history_of, Legal}
use Rattle.thread_laws.specs.declared.gathered.ActorLog.{ActorLog}
use Rattle.thread_laws.specs.declared.gathered.CellHistory.{CellHistory}

-- a cell is one of the first n slots
abbrev pub IsDeclared : ℕ → CellName → Type 0
IsDeclared n (cell.Slot slot) = slot < n
IsDeclared n c = ⊥

-- the entries on the first n slots, in their order
abbrev pub entries_on_declared : ℕ → List LogEntry → List LogEntry
entries_on_declared n [] = []
entries_on_declared n (e ∷ es) =
    if is_on_declared n e.event then e ∷ entries_on_declared n es else entries_on_declared n es

-- what a pass entered, as entries of a log
abbrev pub entries_by : List (OwnVisit SlotAsk SlotReply) → List LogEntry
entries_by [] = []
entries_by (o ∷ os) = logged_as (event.Slot o.visit.cell) (entry_list o.visit.entry) ++ entries_by os

-- a slot at the end: its history has just the entries on it among these, in some order
pub record IsRuledCell (cells : List (CellState (Option Segment) SlotAsk SlotReply))
    (entered : List LogEntry) (slot : ℕ) : Type 0 where
  pub state : CellState (Option Segment) SlotAsk SlotReply
  pub there : get_elem? cells slot ≡ some state
  pub name_ : state.name ≡ cell.Slot slot
  pub entries_ : IsPermutation (logged_as (event.Slot slot) state.history)
      (entries_on (cell.Slot slot) entered)

-- the history of each of the first n slots has just the logged entries on it, in some order
abbrev pub AreRuled : ℕ → List LogEntry → List CellHistory → Type 0
AreRuled n es cells = (slot : ℕ) → slot < n
    → IsPermutation (history_of cells (cell.Slot slot)) (entries_on (cell.Slot slot) es)

-- What the cells are once they are closed is so: their histories have just what the first pass entered, and what
-- those entered that were joined to it.
abbrev pub ClosedCellsAreRuled : Type 0
ClosedCellsAreRuled = (cells : List (CellState (Option Segment) SlotAsk SlotReply))
    (v : PassView SlotAsk SlotReply) → IsClosing cells v
    → (slot : ℕ) → slot < length cells → IsRuledCell cells (entries_by v.own) slot

-- Entries on one of the first n slots are among those on all of them.
abbrev pub DeclaredHaveAll : Type 0
DeclaredHaveAll = (n : ℕ) (es : List LogEntry) (slot : ℕ) → slot < n
    → entries_on (cell.Slot slot) (entries_on_declared n es) ≡ entries_on (cell.Slot slot) es

-- Where histories are legal, and those of the first n slots have just the logged entries, in whatever order, they are
-- what the journal has of these slots: stamps rise in a history, and do not fall in the journal.
abbrev pub RuledCellsAgree : Type 0
RuledCellsAgree = (i : Image) (n : ℕ) (logs : List ActorLog) (cells : List CellHistory)
    → Legal i cells → AreRuled n (all_logged logs) cells → AgreeOn (IsDeclared n) logs cells
