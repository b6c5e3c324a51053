-- Identities of gates.
use Rattle.std.specs.Prelude.{◌==◌, ◌&&◌, Bool}
use Rattle.wedge_base.specs.Names.{same}
use Rattle.wedge_base.specs.declared.grants.GateId.{GateId}

-- whether two are the same: the maker and the number
abbrev pub same_gate : GateId → GateId → Bool
same_gate x y = same x.maker y.maker && (x.number == y.number)
