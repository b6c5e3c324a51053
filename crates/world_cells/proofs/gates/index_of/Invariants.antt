use Rattle.std.proofs.Common.{◌≡◌, ◌++◌, take, drop}
use Rattle.wedge_events.specs.Gates.{Kept}
use Rattle.machine.specs.Cells.{kept_among, put_kept}
use Rattle.world_cells.proofs.gates.index_of.Given as goal

abbrev pub invariant-loop-i : goal.invariant-loop-i
invariant-loop-i l = record {
  find : kept_among (drop l.i l.gates) l.id ≡ kept_among l.gates l.id;
  put : (k : Kept) → take l.i l.gates ++ put_kept (drop l.i l.gates) l.id k ≡ put_kept l.gates l.id k;
}
