use Rattle.std.proofs.Common.{◌≡◌, ◌++◌, drop}
use Rattle.std.specs.List.{flat_map}
use Rattle.trace_form.specs.Grammar.{with_end}
use Rattle.cli_inputs.proofs.traces.join_lines.Given as goal

-- The text so far, with the lines that are left, is all of it.
abbrev pub invariant-loop-line : goal.invariant-loop-line
invariant-loop-line l = l.text.items ++ flat_map with_end (drop l.line-index l.lines) ≡ flat_map with_end l.lines
