-- The ranges of private memory: every private memory of a run has the private range and the data
-- ranges of the image, in their order, each where the image has it and as long as there.
use Rattle.std.specs.Prelude.{◌≡◌, ℕ, false, List, length, map, Some}
use Rattle.std.specs.List.{AllByRecursion}
use Rattle.callgate.specs.declared.gate.Gate.{Gate}
use Rattle.cow_pages.specs.PrivateMemory.{PrivateMemory}
use Rattle.wedge_base.specs.Images.{Image}
use Rattle.wedge_base.specs.declared.grants.GateId.{GateId}
use Rattle.wedge_base.specs.declared.image.MemoryRange.{MemoryRange}
use Rattle.machine.specs.Actors.{ActorState}
use Rattle.machine.specs.Local.{has_ended}
use Rattle.machine.specs.Preparation.{Preparation}
use Rattle.machine.specs.declared.phase.Phase.TheVariants as phase
use Rattle.machine.specs.Cells.{Cells, kept_in}
use Rattle.run_laws.specs.ChildCopies.{memory_of_image}
use Rattle.machine.specs.Worlds.{actor_named}

-- where a range lies: its base, and its length in bytes
abbrev pub extent : MemoryRange → ℕ × ℕ
extent r = (r.base, length r.bytes)

abbrev pub extents : PrivateMemory → List (ℕ × ℕ)
extents m = map extent m.ranges

-- the ranges lie where those of the image do, in the same order
abbrev pub HasImagesRanges : Image → PrivateMemory → Type 0
HasImagesRanges i m = extents m ≡ extents (memory_of_image i)

-- the memory with which the runs of a gate begin
abbrev pub GateHasRanges : Image → Gate → Type 0
GateHasRanges i g = HasImagesRanges i g.memory

-- The private memory of an actor, until it ends; the one that it prepares for a child, or for the
-- runs of a gate that it makes; and those of the gates that it knows, among which is each that it
-- enters. An actor that has ended has no memory.
pub record HasRanges (i : Image) (a : ActorState) : Type 0 where
  pub own : has_ended a.phase ≡ false → HasImagesRanges i a.memory
  pub child : (p : Preparation) → a.phase ≡ phase.Starting p → HasImagesRanges i p.memory
  pub making : (p : Preparation) → a.phase ≡ phase.MakingGate p → HasImagesRanges i p.memory
  pub gates : AllByRecursion (GateHasRanges i) a.gates

-- those of every actor, and what each recycled gate keeps for its next run
pub record KeepsRanges (i : Image) (c : Cells) (actors : List ActorState) : Type 0 where
  pub each : (name : List ℕ) (a : ActorState) → actor_named actors name ≡ Some a → HasRanges i a
  pub kept : (id : GateId) (m : PrivateMemory) → (kept_in c id).kept ≡ Some m → HasImagesRanges i m
