-- Who runs a gate, or is under a run of it, holds older gates and those that were made at or under
-- the run, and not the gate itself: so no gate is entered from within.
use Rattle.std.specs.Prelude.{◌≡◌, ℕ, ◌==◌, Bool, true, false, ◌&&◌, ◌⊎◌, List, [], ◌∷◌, Some, is_some, if◌then◌else◌}
use Rattle.callgate.specs.Gate.{gate_named}
use Rattle.callgate.specs.declared.gate.Gate.{Gate}
use Rattle.wedge_base.specs.Identities.{same_gate}
use Rattle.wedge_base.specs.declared.grants.GateId.{GateId}
use Rattle.machine.specs.Actors.{ActorState}
use Rattle.run_laws.specs.Holding.{gate_for}
use Rattle.machine.specs.Worlds.{actor_named}

-- whether the second name is the first or that of an actor under it: one that it started, or that
-- one of these started
abbrev pub is_under : List ℕ → List ℕ → Bool
is_under [] n = true
is_under (x ∷ xs) [] = false
is_under (x ∷ xs) (y ∷ ys) = (x == y) && is_under xs ys

abbrev pub NoneHoldsItsOwn : List ActorState → Type 0
NoneHoldsItsOwn actors = (m n : List ℕ) (r a : ActorState) (g h : Gate) (entry : ℕ) → actor_named actors m ≡ Some r → r.run_of ≡ Some g → actor_named actors n ≡ Some a → is_under m n ≡ true
    → gate_for a entry ≡ Some h → h.id ≡ g.id → ⊥

-- the gates of a list before the one of an identity: an actor knows gates in the order in which
-- they were made
unfoldable pub before : GateId → List Gate → List Gate
before id [] = []
before id (x ∷ xs) = if same_gate x.id id then [] else x ∷ before id xs

abbrev pub IsOlder : Gate → List Gate → GateId → Type 0
IsOlder g gates id = is_some (gate_named (before g.id gates) id) ≡ true

-- a gate is older than this one, or was made at or under the run of this name
abbrev pub MayBeHeld : List ℕ → Gate → List Gate → GateId → Type 0
MayBeHeld m g gates id = IsOlder g gates id ⊎ (is_under m id.maker ≡ true)

abbrev pub AreHeldOlder : List ActorState → Type 0
AreHeldOlder actors = (m n : List ℕ) (r a : ActorState) (g h : Gate) (entry : ℕ) → actor_named actors m ≡ Some r → r.run_of ≡ Some g → actor_named actors n ≡ Some a → is_under m n ≡ true
    → gate_for a entry ≡ Some h → MayBeHeld m g a.gates h.id
