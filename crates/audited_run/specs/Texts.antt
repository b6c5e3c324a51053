-- Where a run on threads differs, as text.
use Rattle.std.specs.Prelude.{List, ℕ, ◌++◌, codes}
use Rattle.std.specs.Fmt.{decimal}
use Rattle.report_text.specs.Reports.{name_text}
use Rattle.wedge_events.specs.declared.events.CellName.{CellName}
use Rattle.wedge_events.specs.declared.events.CellName.TheVariants as cell
use Rattle.run_audit.specs.declared.fault.Difference.{Difference}

abbrev pub cell_text : CellName → List ℕ
cell_text cell.Slots = codes "slots"
cell_text (cell.Slot s) = codes "slot " ++ decimal s
cell_text cell.Fds = codes "fds"
cell_text (cell.Fd n) = codes "fd " ++ decimal n
cell_text cell.Lives = codes "lives"
cell_text (cell.Gate g) = codes "gate " ++ name_text g.maker ++ codes "#" ++ decimal g.number

abbrev pub difference_text : Difference → List ℕ
difference_text d = codes "disagree in " ++ cell_text d.cell ++ codes " at " ++ decimal d.index
