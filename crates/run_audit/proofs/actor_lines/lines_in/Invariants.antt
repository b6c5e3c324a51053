use Rattle.std.proofs.Common.{◌≡◌, ◌≤◌, drop, length}
use Rattle.run_audit.proofs.LogLines.{lines_from_last}
use Rattle.run_audit.proofs.actor_lines.lines_in.Given as goal

abbrev pub invariant-loop-left : goal.invariant-loop-left
invariant-loop-left l = record {
  inside : l.left ≤ length l.logs;
  lines : l.lines.items ≡ lines_from_last l.image (drop l.left l.logs);
}

abbrev pub decreases-loop-left : goal.decreases-loop-left
decreases-loop-left l = l.left
