use Rattle.std.proofs.Common.{◌≡◌, drop, map}
use Rattle.std.specs.Arc.{arc_value}
use Rattle.callgate.specs.Gate as known
use Rattle.callgate.proofs.gate.gate_named.Given as goal

abbrev pub invariant-loop-gate : goal.invariant-loop-gate
invariant-loop-gate l = known.gate_named (map arc_value (drop l.gate-index l.gates)) l.id ≡ known.gate_named (map arc_value l.gates) l.id
