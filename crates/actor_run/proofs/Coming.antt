-- Actors that may have come to an access.
use Rattle.std.proofs.Common.{◌≡◌, true, false, refl, sym}
use Rattle.std.specs.Prelude.{Option, Some, None, is_some}
use Rattle.wedge_base.specs.Images.{Image}
use Rattle.machine.specs.Actors.{ActorState}
use Rattle.machine.specs.Local.{rest, is_running}
use Rattle.machine.proofs.Resting.{rest-stays}
use Rattle.actor_step.specs.Reached.{reached}
use Rattle.actor_step.specs.declared.access.Access.{Access}

-- one that has is at rest
pub rests_there : (i : Image) (a : ActorState) (o : Option Access) → is_some o ≡ true → reached a o ≡ rest i (reached a o)
rests_there i a (Some x) e = sym (rest-stays i (reached a (Some x)) refl)
rests_there i a None e = absurd cc

pub still_there : (a : ActorState) (o : Option Access) → is_some o ≡ true → is_running (reached a o).phase ≡ false
still_there a (Some x) e = refl
still_there a None e = absurd cc

-- one that has not is what it is
pub none_reached : (a : ActorState) (o : Option Access) → is_some o ≡ false → reached a o ≡ a
none_reached a (Some x) e = absurd cc
none_reached a None e = refl
