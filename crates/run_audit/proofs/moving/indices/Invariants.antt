use Rattle.std.proofs.Common.{◌≡◌, take}
use Rattle.run_audit.specs.IndexedEntries.{indices_of}
use Rattle.run_audit.proofs.moving.indices.Given as goal

abbrev pub invariant-loop-item : goal.invariant-loop-item
invariant-loop-item l = l.all.items ≡ indices_of (take l.item-index l.sorted)
