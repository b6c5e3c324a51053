use Rattle.std.proofs.Common.{◌≡◌, ◌++◌, ◌+◌, Some, map, reverse, length}
use Rattle.run_audit.proofs.moving.add_slots.Given as goal

abbrev pub invariant-loop-entry : goal.invariant-loop-entry
invariant-loop-entry l = record {
  items : l.slots.items ++ map Some (reverse l.entries.items) ≡ l.fn.slots.items ++ map Some l.fn.entries.items;
  len : l.slots.len + length l.entries.items ≡ l.fn.slots.len + length l.fn.entries.items;
  capacity : l.slots.cap ≡ l.fn.slots.cap;
}

abbrev pub decreases-loop-entry : goal.decreases-loop-entry
decreases-loop-entry l = length l.entries.items
