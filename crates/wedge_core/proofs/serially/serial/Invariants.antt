use Rattle.std.proofs.Common.{◌≡◌}
use Rattle.run_laws.specs.Fuel.{work_left}
use Rattle.wedge_core.specs.Serial.{IsSerial}
use Rattle.wedge_core.proofs.serially.serial.Given as goal

abbrev pub invariant-loop-world : goal.invariant-loop-world
invariant-loop-world l = record {
  image : l.world.state.image ≡ l.image;
  serial : IsSerial l.image l.world l.live.items;
}

abbrev pub decreases-loop-world : goal.decreases-loop-world
decreases-loop-world l = work_left l.world.state
