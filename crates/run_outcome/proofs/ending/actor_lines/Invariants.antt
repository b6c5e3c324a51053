use Rattle.std.proofs.Common.{◌≡◌, ◌≤◌, drop, length}
use Rattle.run_outcome.proofs.Lines.{from_last}
use Rattle.run_outcome.proofs.ending.actor_lines.Given as goal

abbrev pub invariant-loop-left : goal.invariant-loop-left
invariant-loop-left l = record {
  inside : l.left ≤ length l.actors;
  lines : l.lines.items ≡ from_last l.image (drop l.left l.actors);
}

abbrev pub decreases-loop-left : goal.decreases-loop-left
decreases-loop-left l = l.left
