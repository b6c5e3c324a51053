-- All first differences are of one cell.
use Rattle.std.proofs.Common.{◌≡◌, Bool, true, false, List, sym, ap, ◌∙◌, refl}
use Rattle.std.specs.Prelude.{Some, slice_get}
use Rattle.wedge_events.specs.declared.events.LogEntry.{LogEntry}
use Rattle.thread_laws.specs.declared.gathered.CellHistory.{CellHistory}
use Rattle.run_audit.specs.CellOrder.{comes_first}
use Rattle.run_audit.specs.Differences.{IsFirstDifference, OneDifference}
use Rattle.run_audit.specs.declared.fault.Difference.{Difference}
use Rattle.run_audit.proofs.CellKeys.{level_cells}

not_first : (journal : List LogEntry) (cells : List CellHistory) (c d : Difference) → IsFirstDifference journal cells c → IsFirstDifference journal cells d → (t : Bool) → comes_first c.cell d.cell ≡ t → t ≡ false
not_first journal cells c d h k true e = absurd (h.differ.apart (sym h.differ.first_ ∙ (ap (λ es. slice_get es c.index) (k.first c.cell e) ∙ h.differ.second_)))
not_first journal cells c d h k false e = refl

pub one_difference : OneDifference
one_difference journal cells c d h k =
    let both : Some c.cell ≡ Some d.cell = level_cells (Some c.cell) (Some d.cell) (not_first journal cells c d h k (comes_first c.cell d.cell) refl) (not_first journal cells d c k h (comes_first d.cell c.cell) refl) in
    cc
