-- What holds of gates in every run: whoever holds a gate knows it, the sheet of a gate names only
-- gates made before it, and a gate is what its maker made, whoever knows it.
use Rattle.std.specs.Prelude.{◌≡◌, ℕ, ◌≤◌, true, List, [], ◌∷◌, ◌++◌, Some, None, is_some}
use Rattle.wedge_base.specs.Maps.{Map, at}
use Rattle.wedge_base.specs.declared.grants.GateId.{GateId}
use Rattle.callgate.specs.Gate.{gate_named}
use Rattle.callgate.specs.declared.gate.Gate.{Gate}
use Rattle.machine.specs.Actors.{ActorState}
use Rattle.machine.specs.Worlds.{actor_named}

-- each gate that a map has at an entry is among these
abbrev pub AreAmong : List Gate → Map GateId → Type 0
AreAmong gates held = (entry : ℕ) (id : GateId) → at held entry ≡ Some id → is_some (gate_named gates id) ≡ true

-- a gate that was made when these were there: its sheet names no others, and none of them has its
-- identity
pub record IsMadeAfter (before : List Gate) (g : Gate) : Type 0 where
  pub older : AreAmong before g.sheet.gates
  pub new : gate_named before g.id ≡ None

-- each gate of a list was made when those before it were there
abbrev pub AreInOrder : List Gate → List Gate → Type 0
AreInOrder before [] = Unit {0}
AreInOrder before (g ∷ gs) = IsMadeAfter before g × AreInOrder (before ++ g ∷ []) gs

-- an actor knows the gates that it holds, by its sheet or because it made them; and those that it
-- knows are in the order in which they were made
pub record KnowsItsGates (a : ActorState) : Type 0 where
  pub given : AreAmong a.gates a.sheet.gates
  pub made : AreAmong a.gates a.made.gates
  pub order : AreInOrder [] a.gates

-- the actor that made a gate of this identity knows it, and has made as many
pub record IsOfItsMaker (actors : List ActorState) (id : GateId) (g : Gate) : Type 0 where
  pub maker : ActorState
  pub there : actor_named actors id.maker ≡ Some maker
  pub known : gate_named maker.gates id ≡ Some g
  pub numbered : id.number ≤ maker.made.count

-- so two actors that know gates of one identity know one gate
pub record AreGatesKept (actors : List ActorState) : Type 0 where
  pub each : (name : List ℕ) (a : ActorState) → actor_named actors name ≡ Some a → KnowsItsGates a
  pub makers : (name : List ℕ) (a : ActorState) (id : GateId) (g : Gate) → actor_named actors name ≡ Some a → gate_named a.gates id ≡ Some g → IsOfItsMaker actors id g
  pub one : (m n : List ℕ) (a b : ActorState) (id : GateId) (g h : Gate) → actor_named actors m ≡ Some a → actor_named actors n ≡ Some b
      → gate_named a.gates id ≡ Some g → gate_named b.gates id ≡ Some h → g ≡ h
