-- The first difference between what cells kept and what actors logged.
use Rattle.std.specs.Prelude.{◌≡◌, true, List, Option, Some, None}
use Rattle.wedge_events.specs.declared.events.CellName.{CellName}
use Rattle.wedge_events.specs.declared.events.LogEntry.{LogEntry}
use Rattle.thread_laws.specs.Auditing.{DifferAt}
use Rattle.thread_laws.specs.Histories.{entries_on}
use Rattle.thread_laws.specs.Joining.{journal_of, Agrees}
use Rattle.thread_laws.specs.Replaying.{history_of}
use Rattle.thread_laws.specs.declared.gathered.ActorLog.{ActorLog}
use Rattle.thread_laws.specs.declared.gathered.CellHistory.{CellHistory}
use Rattle.run_audit.specs.CellOrder.{comes_first}
use Rattle.run_audit.specs.declared.fault.AuditFault.{AuditFault}
use Rattle.run_audit.specs.declared.fault.AuditFault.TheVariants as fault
use Rattle.run_audit.specs.declared.fault.Difference.{Difference}

-- Of all cells whose history and whose entries in the journal differ it is the first, and the index
-- is the first at which they do; the two entries are those there, and differ.
pub record IsFirstDifference (journal : List LogEntry) (cells : List CellHistory) (d : Difference)
    : Type 0 where
  pub differ : DifferAt (history_of cells d.cell) (entries_on d.cell journal) d.index
      d.kept d.logged
  pub first : (name : CellName) → comes_first name d.cell ≡ true
      → history_of cells name ≡ entries_on name journal

-- every cell has the history that the journal has, or this is the first difference
abbrev pub IsComparison : List CellHistory → List LogEntry → Option Difference → Type 0
IsComparison cells es None = (name : CellName) → history_of cells name ≡ entries_on name es
IsComparison cells es (Some d) = IsFirstDifference es cells d

-- why logs and histories have no audit
abbrev pub IsFault : List ActorLog → List CellHistory → AuditFault → Type 0
IsFault logs cells fault.NoMemory = Unit {0}
IsFault logs cells (fault.Disagree d) = IsFirstDifference (journal_of logs) cells d

-- where there is a first difference, they do not agree
abbrev pub DifferencesDisagree : Type 0
DifferencesDisagree = (logs : List ActorLog) (cells : List CellHistory) (d : Difference)
    → IsFirstDifference (journal_of logs) cells d → Agrees logs cells → ⊥

-- and all first differences are of one cell
abbrev pub OneDifference : Type 0
OneDifference = (journal : List LogEntry) (cells : List CellHistory) (c d : Difference)
    → IsFirstDifference journal cells c → IsFirstDifference journal cells d → c.cell ≡ d.cell
