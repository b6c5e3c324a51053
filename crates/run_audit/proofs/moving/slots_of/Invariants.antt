use Rattle.std.proofs.Common.{◌≡◌, ◌++◌, ◌+◌, ◌≤◌, Some, map, reverse, length}
use Rattle.thread_laws.specs.KeptEntries.{all_kept}
use Rattle.run_audit.proofs.moving.slots_of.Given as goal

abbrev pub invariant-loop-log : goal.invariant-loop-log
invariant-loop-log l = record {
  items : l.slots.items ++ map Some (all_kept (reverse l.logs.items)) ≡ l.fn.slots.items ++ map Some (all_kept l.fn.logs.items);
  room : l.slots.len + length (all_kept (reverse l.logs.items)) ≤ l.slots.cap;
}

abbrev pub decreases-loop-log : goal.decreases-loop-log
decreases-loop-log l = length l.logs.items
