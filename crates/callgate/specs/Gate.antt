-- Gates that are known by their identities.
use Rattle.std.specs.Prelude.{List, find, Option}
use Rattle.wedge_base.specs.Identities.{same_gate}
use Rattle.wedge_base.specs.declared.grants.GateId.{GateId}
use Rattle.callgate.specs.declared.gate.Gate.{Gate}

-- the gate of an identity, if it is among these
abbrev pub gate_named : List Gate → GateId → Option Gate
gate_named gates id = find (λ g. same_gate g.id id) gates
