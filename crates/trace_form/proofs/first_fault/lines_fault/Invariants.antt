use Rattle.std.proofs.Common.{◌≡◌, ◌+◌, ◌≤◌, length}
use Rattle.trace_form.specs.Grammar.{line_pieces}
use Rattle.trace_form.specs.FirstFault as faults
use Rattle.trace_form.proofs.first_fault.lines_fault.Given as goal

-- No line so far is wrong.
abbrev pub invariant-loop-line : goal.invariant-loop-line
invariant-loop-line l = record {
  short : l.count + length l.rest ≤ length l.lines;
  so_far : faults.lines_fault (l.count + 2) l.count (line_pieces l.rest) ≡ faults.lines_fault 2 0 (line_pieces l.lines);
}

abbrev pub decreases-loop-line : goal.decreases-loop-line
decreases-loop-line l = length l.rest
