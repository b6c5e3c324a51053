use Rattle.std.proofs.Common.{◌≡◌, drop}
use Rattle.machine.specs.Outcomes as outcomes
use Rattle.run_audit.proofs.labels.path_of.Given as goal

abbrev pub invariant-loop-item : goal.invariant-loop-item
invariant-loop-item l = outcomes.path_of (drop l.item-index l.labels) l.number ≡ outcomes.path_of l.labels l.number
