use Rattle.std.proofs.Common.{◌≡◌, ◌++◌, take}
use Rattle.std.specs.List.{flat_map}
use Rattle.report_text.specs.Reports.{denial_line}
use Rattle.report_text.proofs.text.write_actor.Given as goal

-- The lines of the denials so far were added.
abbrev pub invariant-loop-denial : goal.invariant-loop-denial
invariant-loop-denial l = l.out.items ≡ l.initial.out.items ++ flat_map (denial_line l.line.name) (take l.denial-index l.denial-items)
