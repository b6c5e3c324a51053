use Rattle.std.proofs.Common.{◌≡◌, ◌++◌, ◌+◌, ◌-◌, ◌≤◌, drop, length}
use Rattle.run_audit.specs.IndexedEntries.{taken_by}
use Rattle.run_audit.proofs.moving.take_all.Given as goal

abbrev pub invariant-loop-index : goal.invariant-loop-index
invariant-loop-index l = record {
  items : l.entries.items ++ taken_by (drop l.index-index l.order) l.slots.items ≡ l.fn.entries.items ++ taken_by l.order l.fn.slots.items;
  room : l.entries.len + (length l.order - l.index-index) ≤ l.entries.cap;
}
