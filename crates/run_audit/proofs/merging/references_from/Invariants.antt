use Rattle.std.proofs.Common.{◌≡◌, ◌+◌, take}
use Rattle.run_audit.specs.IndexedEntries.{indexed, compared_indexed}
use Rattle.run_audit.proofs.merging.references_from.Given as goal

abbrev pub invariant-loop-entry : goal.invariant-loop-entry
invariant-loop-entry l = (l.index ≡ l.first + l.entry-index) × (l.all.items ≡ compared_indexed l.declared (indexed l.first (take l.entry-index l.entries)))
