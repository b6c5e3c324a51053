use Rattle.std.proofs.Common.{◌≡◌, ◌++◌, take}
use Rattle.std.specs.List.{flat_map}
use Rattle.report_text.specs.Reports.{actor_lines, stream_line}
use Rattle.report_text.proofs.text.report.Given as goal

-- The lines of the actors so far were added.
abbrev pub invariant-loop-line : goal.invariant-loop-line
invariant-loop-line l = l.out.items ≡ flat_map actor_lines (take l.line-index l.line-items)

-- The lines of all actors and of the streams so far were added.
abbrev pub invariant-loop-line-2 : goal.invariant-loop-line-2
invariant-loop-line-2 l = l.out.items ≡ flat_map actor_lines l.outcome.actors ++ flat_map stream_line (take l.line-index l.line-items)
