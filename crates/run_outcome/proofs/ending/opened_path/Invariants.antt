use Rattle.std.proofs.Common.{◌≡◌, drop}
use Rattle.machine.specs.Outcomes as outcomes
use Rattle.run_outcome.proofs.ending.opened_path.Given as goal

abbrev pub invariant-loop-resident : goal.invariant-loop-resident
invariant-loop-resident l = outcomes.path_of (outcomes.labels_of (drop l.resident-index l.residents)) l.number ≡ outcomes.path_of (outcomes.labels_of l.residents) l.number
