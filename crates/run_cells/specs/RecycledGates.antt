-- The recycled gates that an actor knows.
use Rattle.std.specs.Prelude.{◌≡◌, ◌≤◌, ℕ, Bool, List, [], ◌∷◌, length, take}
use Rattle.std.specs.List.{list_any}
use Rattle.wedge_base.specs.Identities.{same_gate}
use Rattle.wedge_base.specs.declared.grants.GateId.{GateId}
use Rattle.wedge_base.specs.declared.grants.GateKind.{GateKind}
use Rattle.wedge_base.specs.declared.grants.GateKind.TheVariants as kind
use Rattle.callgate.specs.declared.gate.Gate.{Gate}

-- how many of the actor's gates were looked at, how many cells its creator shared with it, and the
-- gates that have a cell here
pub record GateCellsState : Type 0 where
  pub seen : ℕ
  pub inherited : ℕ
  pub gates : List GateId

-- a gate, if it is recycled, before others
abbrev pub with_recycled : GateKind → GateId → List GateId → List GateId
with_recycled kind.Recycled id ids = id ∷ ids
with_recycled kind.Fresh id ids = ids

-- the recycled ones among gates, in their order
abbrev pub recycled : List Gate → List GateId
recycled [] = []
recycled (g ∷ gs) = with_recycled g.kind g.id (recycled gs)

-- the cells are those of the recycled ones among the first so many gates that an actor knows
pub record HasCells (cells : GateCellsState) (gates : List Gate) : Type 0 where
  pub seen_ : cells.seen ≤ length gates
  pub cells_ : cells.gates ≡ recycled (take cells.seen gates)

-- whether a gate is among these
abbrev pub has_cell : List GateId → GateId → Bool
has_cell ids id = list_any (λ known. same_gate known id) ids
