use Rattle.std.proofs.Common.{◌≡◌, take}
use Rattle.run_audit.specs.IndexedEntries.{entries_without_index}
use Rattle.run_audit.proofs.sorts.journal_references.Given as goal

abbrev pub invariant-loop-item : goal.invariant-loop-item
invariant-loop-item l = l.all.items ≡ entries_without_index (take l.item-index l.sorted)
