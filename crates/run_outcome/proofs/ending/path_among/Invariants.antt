use Rattle.std.proofs.Common.{◌≡◌, List, ◌++◌, drop}
use Rattle.machine.specs.declared.opening.StreamLabel.{StreamLabel}
use Rattle.machine.specs.Outcomes as outcomes
use Rattle.run_outcome.proofs.ending.path_among.Given as goal

abbrev pub invariant-loop-label : goal.invariant-loop-label
invariant-loop-label l = (others : List StreamLabel) → outcomes.path_of (drop l.label-index l.labels ++ others) l.number ≡ outcomes.path_of (l.labels ++ others) l.number
