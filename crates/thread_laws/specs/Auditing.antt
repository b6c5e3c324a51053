-- When histories agree with the journal, by what can be looked at.
use Rattle.std.specs.Prelude.{◌≡◌, ℕ, true, List, [], ◌∷◌, take, slice_get, Option, None, ◌⊎◌, ◌≢◌}
use Rattle.wedge_events.specs.Journals.{cell_of}
use Rattle.wedge_events.specs.declared.events.CellName.{CellName}
use Rattle.wedge_events.specs.declared.events.LogEntry.{LogEntry}
use Rattle.thread_laws.specs.Histories.{is_of, entries_on}
use Rattle.thread_laws.specs.Joining.{journal_of, Agrees}
use Rattle.thread_laws.specs.Replaying.{cell_in, history_of}
use Rattle.thread_laws.specs.declared.gathered.ActorLog.{ActorLog}
use Rattle.thread_laws.specs.declared.gathered.CellHistory.{CellHistory}

-- each listed cell has the history that the journal has
abbrev pub ListedAgree : List CellHistory → List CellHistory → List LogEntry → Type 0
ListedAgree all [] es = Unit {0}
ListedAgree all (h ∷ hs) es = (history_of all (cell_in h) ≡ entries_on (cell_in h) es)
    × ListedAgree all hs es

-- an event is of a listed cell
abbrev pub IsListed : List CellHistory → LogEntry → Type 0
IsListed [] e = ⊥
IsListed (h ∷ hs) e = (is_of (cell_in h) e.event ≡ true) ⊎ IsListed hs e

-- and each event of a cell is of a listed one
abbrev pub AllListed : List CellHistory → List LogEntry → Type 0
AllListed cells [] = Unit {0}
AllListed cells (e ∷ es) = ((cell_of e.event ≡ None) ⊎ IsListed cells e) × AllListed cells es

-- Two lists differ first at an index: up to it they are equal, and there they are not, or one of
-- them has ended.
pub record DifferAt (xs ys : List LogEntry) (index : ℕ) (x y : Option LogEntry) : Type 0 where
  pub same_before : take index xs ≡ take index ys
  pub first_ : slice_get xs index ≡ x
  pub second_ : slice_get ys index ≡ y
  pub apart : x ≢ y

abbrev pub ComparedAgree : Type 0
ComparedAgree = (logs : List ActorLog) (cells : List CellHistory)
    → ListedAgree cells cells (journal_of logs) → AllListed cells (journal_of logs)
    → Agrees logs cells

-- and where one difference is found they do not agree
abbrev pub DifferentDisagree : Type 0
DifferentDisagree =
    (logs : List ActorLog) (cells : List CellHistory) (name : CellName) (index : ℕ)
    (x y : Option LogEntry)
    → DifferAt (history_of cells name) (entries_on name (journal_of logs)) index x y
    → Agrees logs cells → ⊥
