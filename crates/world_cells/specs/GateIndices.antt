-- Where the cell of a recycled gate is among the cells of gates.
use Rattle.std.specs.Prelude.{◌≡◌, ℕ, ◌<◌, List, length, Some, slice_get, slice_set}
use Rattle.wedge_events.specs.Gates.{Kept}
use Rattle.wedge_base.specs.declared.grants.GateId.{GateId}
use Rattle.machine.specs.Cells.{GateCell, kept_among, put_kept}

-- at this index is the cell of a recycled gate
pub record IsCellOf (cells : List GateCell) (id : GateId) (index : ℕ) (c : GateCell) : Type 0 where
  pub inside : index < length cells
  pub there : slice_get cells index ≡ Some c
  pub kept : kept_among cells id ≡ c.kept
  pub put : (k : Kept) → put_kept cells id k ≡ slice_set cells index (record c { kept = k })

abbrev pub IsGateAt : List GateCell → GateId → ℕ → Type 0
IsGateAt cells id index = (c : GateCell) × IsCellOf cells id index c
