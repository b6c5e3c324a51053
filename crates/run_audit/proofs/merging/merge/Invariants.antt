use Rattle.std.proofs.Common.{◌≡◌, ◌++◌, ◌+◌, ◌-◌, ◌≤◌, drop, length}
use Rattle.run_audit.specs.IndexedEntries.{indexed_before}
use Rattle.run_audit.specs.Merges.{merged}
use Rattle.run_audit.proofs.merging.merge.Given as goal

abbrev pub invariant-loop-i : goal.invariant-loop-i
invariant-loop-i l = record {
  in_first : l.i ≤ length l.first;
  in_second : l.j ≤ length l.second;
  left : l.all.items ++ merged indexed_before (drop l.i l.first) (drop l.j l.second) ≡ merged indexed_before l.first l.second;
}

abbrev pub decreases-loop-i : goal.decreases-loop-i
decreases-loop-i l = (length l.first - l.i) + (length l.second - l.j)
