use Rattle.std.proofs.Common.{◌≡◌, take}
use Rattle.run_audit.proofs.sorts.entry_references.Given as goal

abbrev pub invariant-loop-item : goal.invariant-loop-item
invariant-loop-item l = l.all.items ≡ take l.item-index l.entries
