use Rattle.std.proofs.Common.{◌≡◌, ◌≤◌, ◌-◌, ◌++◌}
use Rattle.machine.specs.Outcomes as outcomes
use Rattle.thread_laws.specs.Joining.{streams_from, streams_left}
use Rattle.run_audit.proofs.stream_lines.stream_lines.Given as goal

abbrev pub invariant-loop-number : goal.invariant-loop-number
invariant-loop-number l = record {
  inside : l.number ≤ l.count;
  lines : l.lines.items ++ outcomes.streams_of l.image l.labels l.number (streams_from l.image l.cells (l.count - l.number) l.number) ≡ outcomes.streams_of l.image l.labels 0 (streams_left l.image l.cells);
}

abbrev pub decreases-loop-number : goal.decreases-loop-number
decreases-loop-number l = l.count - l.number
