-- The root as a run begins.
use Rattle.std.proofs.Common.{◌≡◌, ◌<◌, ℕ, List, [], length, refl, arith}
use Rattle.callgate.specs.declared.gate.Gate.{Gate}
use Rattle.run_cells.specs.RecycledGates.{HasCells}
use Rattle.wedge_base.specs.Images.{Image}
use Rattle.machine.specs.Actors.{root}
use Rattle.actor_task.specs.Tasks.{IsNew, IsUnlocked}

pub root_starts : (i : Image) → (root i).starts ≡ 0
unfolding root
root_starts i = refl

pub root_new : (i : Image) → IsNew (root i)
unfolding root
root_new i = record { starts_ = refl; unjoined_ = refl; runs_ = refl }

pub root_unlocked : (i : Image) → IsUnlocked (root i)
unfolding root
root_unlocked i = λ id h. h

pub root_gates : (i : Image) → length (root i).gates ≡ 0
unfolding root
root_gates i = refl

pub root_name_short : (i : Image) → length (root i).name ≡ 1
unfolding root
root_name_short i = refl

pub short : (name : List ℕ) → length name ≡ 1 → length name < 33
short name one = omega (arith, one)

-- whoever has looked at no gate has no cell
pub none_seen : (gates : List Gate) → HasCells (record { seen = 0; inherited = 0; gates = [] }) gates
none_seen gates = record { seen_ = omega arith; cells_ = refl }
