-- The first difference between two lists of entries, each in the order of cells.
use Rattle.std.specs.Prelude.{◌≡◌, ◌≢◌, true, false, List, [], ◌∷◌, length, Option, Some, None}
use Rattle.wedge_events.specs.declared.events.CellName.{CellName}
use Rattle.wedge_events.specs.declared.events.LogEntry.{LogEntry}
use Rattle.thread_laws.specs.Auditing.{DifferAt}
use Rattle.thread_laws.specs.Histories.{entries_on}
use Rattle.wedge_events.specs.Journals.{cell_of}
use Rattle.run_audit.specs.CellOrder.{comes_first, by_cell}
use Rattle.run_audit.specs.declared.fault.Difference.{Difference}

-- of all cells whose entries differ it is the first, and the index is the first at which they do
pub record IsFirstInLists (xs ys : List LogEntry) (d : Difference) : Type 0 where
  pub differ : DifferAt (entries_on d.cell xs) (entries_on d.cell ys) d.index d.kept d.logged
  pub first : (name : CellName) → comes_first name d.cell ≡ true
      → entries_on name xs ≡ entries_on name ys

-- the entries of each cell are the same in both, or this is the first difference
abbrev pub IsListDifference : List LogEntry → List LogEntry → Option Difference → Type 0
IsListDifference xs ys None = (name : CellName) → entries_on name xs ≡ entries_on name ys
IsListDifference xs ys (Some d) = IsFirstInLists xs ys d

-- the heads are not the same, if both lists have one
abbrev pub DifferHere : List LogEntry → List LogEntry → Type 0
DifferHere (x ∷ xs) (y ∷ ys) = x ≢ y
DifferHere xs ys = Unit {0}

-- entries in the order of their cells
abbrev pub NoneBelow : LogEntry → List LogEntry → Type 0
NoneBelow x [] = Unit {0}
NoneBelow x (y ∷ ys) = (by_cell y x ≡ false) × NoneBelow x ys

abbrev pub AreInCellOrder : List LogEntry → Type 0
AreInCellOrder [] = Unit {0}
AreInCellOrder (x ∷ xs) = NoneBelow x xs × AreInCellOrder xs

-- a difference at a cell, after the entries of it among these
pub record IsDifferenceAt (pre : List LogEntry) (d : Difference) (c : CellName)
    (k l : Option LogEntry) : Type 0 where
  pub cell : d.cell ≡ c
  pub index : d.index ≡ length (entries_on d.cell pre)
  pub kept : d.kept ≡ k
  pub logged : d.logged ≡ l

-- the same, at the cell of an entry
pub record IsEntryAt (pre : List LogEntry) (d : Difference) (e : LogEntry) (k l : Option LogEntry)
    : Type 0 where
  pub cell : cell_of e.event ≡ Some d.cell
  pub index : d.index ≡ length (entries_on d.cell pre)
  pub kept : d.kept ≡ k
  pub logged : d.logged ≡ l

-- a difference at a logged entry, unless it is of no cell
abbrev pub IsLoggedOnly : List LogEntry → LogEntry → Option Difference → Type 0
IsLoggedOnly pre y None = cell_of y.event ≡ None
IsLoggedOnly pre y (Some d) = IsEntryAt pre d y None (Some y)
