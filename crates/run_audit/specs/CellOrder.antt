-- The order of cells: the directory of slots, the slots, the directory of descriptors, the
-- descriptors, the count of live sthreads, and the recycled gates, by the names of their makers and
-- then by number.
use Rattle.std.specs.Prelude.{◌≡◌, ℕ, Bool, List, [], Option, Some, None}
use Rattle.std.specs.Ordering.{nat_cmp, is_lt, ordering_then}
use Rattle.std.specs.Cmp.Lexicographic.{slice_cmp}
use Rattle.std.specs.declared.cmp.Ordering.{Ordering}
use Rattle.wedge_events.specs.Journals.{cell_of}
use Rattle.wedge_events.specs.declared.events.CellName.{CellName}
use Rattle.wedge_events.specs.declared.events.CellName.TheVariants as cell
use Rattle.wedge_events.specs.declared.events.LogEntry.{LogEntry}
use Rattle.run_audit.specs.declared.keys.CellKey.{CellKey}

-- the kind of a cell; what is of no cell comes last
abbrev pub cell_kind : Option CellName → ℕ
cell_kind (Some cell.Slots) = 0
cell_kind (Some (cell.Slot s)) = 1
cell_kind (Some cell.Fds) = 2
cell_kind (Some (cell.Fd n)) = 3
cell_kind (Some cell.Lives) = 4
cell_kind (Some (cell.Gate g)) = 5
cell_kind None = 6

abbrev pub cell_maker : Option CellName → List ℕ
cell_maker (Some (cell.Gate g)) = g.maker
cell_maker c = []

abbrev pub cell_number : Option CellName → ℕ
cell_number (Some (cell.Slot s)) = s
cell_number (Some (cell.Fd n)) = n
cell_number (Some (cell.Gate g)) = g.number
cell_number c = 0

-- by kind, then by maker, then by number
abbrev pub keys_order : ℕ → List ℕ → ℕ → ℕ → List ℕ → ℕ → Ordering
keys_order k m n j l o =
    ordering_then (nat_cmp k j) (ordering_then (slice_cmp nat_cmp m l) (nat_cmp n o))

abbrev pub cell_order : Option CellName → Option CellName → Ordering
cell_order c d = keys_order (cell_kind c) (cell_maker c) (cell_number c)
    (cell_kind d) (cell_maker d) (cell_number d)

abbrev pub comes_first : CellName → CellName → Bool
comes_first c d = is_lt (cell_order (Some c) (Some d))

-- whether the cell of an entry comes before that of another
abbrev pub by_cell : LogEntry → LogEntry → Bool
by_cell x y = is_lt (cell_order (cell_of x.event) (cell_of y.event))

-- a key is that of a cell
pub record IsKeyOf (k : CellKey) (c : Option CellName) : Type 0 where
  pub kind : k.kind ≡ cell_kind c
  pub maker : k.maker.now ≡ cell_maker c
  pub number : k.number ≡ cell_number c
