-- What holds of the runs of gates in every world of a run: a recycled gate is entered exactly while
-- one run of it lives, what it keeps for the next run has the copies alone that its sheet grants,
-- and each run has its gate's sheet with what was lent to it.
use Rattle.std.specs.Prelude.{◌≡◌, ℕ, true, false, List, Option, Some}
use Rattle.cow_pages.specs.PrivateMemory.{PrivateMemory}
use Rattle.wedge_base.specs.Sheets.{Sheet}
use Rattle.wedge_base.specs.declared.grants.GateId.{GateId}
use Rattle.wedge_base.specs.declared.grants.GateKind.TheVariants as gate_kind
use Rattle.callgate.specs.Gate.{gate_named}
use Rattle.callgate.specs.Lending.{IsRunSheet}
use Rattle.callgate.specs.declared.gate.Gate.{Gate}
use Rattle.machine.specs.Actors.{ActorState}
use Rattle.machine.specs.Cells.{Cells, kept_in}
use Rattle.run_laws.specs.CopiesGranted.{AreGranted, grants_copy}
use Rattle.machine.specs.Local.{has_ended}
use Rattle.machine.specs.Worlds.{actor_named}

-- an actor is in a recycled gate: it is a run of the gate, and has not ended
pub record IsInside (id : GateId) (a : ActorState) : Type 0 where
  pub gate : Gate
  pub own : a.run_of ≡ Some gate
  pub recycled : gate.kind ≡ gate_kind.Recycled
  pub named : gate.id ≡ id
  pub live : has_ended a.phase ≡ false

-- some actor is
pub record IsEntered (actors : List ActorState) (id : GateId) : Type 0 where
  pub name : List ℕ
  pub actor : ActorState
  pub there : actor_named actors name ≡ Some actor
  pub inside : IsInside id actor

-- private memory that is kept for the next run of a gate that an actor knows: its copies are at
-- slots of grants of copies on the gate's sheet
pub record IsKeptFor (actors : List ActorState) (id : GateId) (m : PrivateMemory) : Type 0 where
  pub name : List ℕ
  pub actor : ActorState
  pub there : actor_named actors name ≡ Some actor
  pub gate : Gate
  pub known : gate_named actor.gates id ≡ Some gate
  pub granted : AreGranted gate.sheet.tags m.copies

-- The run of a gate knows its gate. It has the gate's sheet, with what was lent where that names
-- nothing, and no other grant of a copy.
pub record IsRunOf (g : Gate) (a : ActorState) : Type 0 where
  pub known : gate_named a.gates g.id ≡ Some g
  pub lent : Option Sheet
  pub sheet : IsRunSheet g.sheet lent a.sheet
  pub copies : (slot : ℕ) → grants_copy a.sheet.tags slot ≡ true → grants_copy g.sheet.tags slot ≡ true

pub record AreRunsAlone (c : Cells) (actors : List ActorState) : Type 0 where
  pub runs : (name : List ℕ) (a : ActorState) (g : Gate) → actor_named actors name ≡ Some a → a.run_of ≡ Some g → IsRunOf g a
  pub entered : (name : List ℕ) (a : ActorState) (id : GateId) → actor_named actors name ≡ Some a → IsInside id a → (kept_in c id).entered ≡ true
  pub alone : (m n : List ℕ) (a b : ActorState) (id : GateId) → actor_named actors m ≡ Some a → actor_named actors n ≡ Some b → IsInside id a → IsInside id b → m ≡ n
  pub lived : (id : GateId) → (kept_in c id).entered ≡ true → IsEntered actors id
  pub kept : (id : GateId) (m : PrivateMemory) → (kept_in c id).kept ≡ Some m → IsKeptFor actors id m
