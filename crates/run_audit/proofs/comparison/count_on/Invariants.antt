use Rattle.std.proofs.Common.{◌≡◌, ◌≤◌, take, map, length}
use Rattle.thread_laws.specs.Histories.{entries_on}
use Rattle.run_audit.specs.HistoryEntries.{kept_as}
use Rattle.run_audit.proofs.comparison.count_on.Given as goal

abbrev pub invariant-loop-entry : goal.invariant-loop-entry
invariant-loop-entry l = (l.count ≡ length (entries_on l.cell (map kept_as (take l.entry-index l.entries)))) × (l.count ≤ l.entry-index)
