use Rattle.std.proofs.Common.{◌≡◌, ◌≤◌, ◌-◌, ◌++◌, length}
use Rattle.wedge_base.specs.Images.{slots as most_slots}
use Rattle.wedge_events.specs.Slots.{declared_slots}
use Rattle.machine.specs.Cells.{nothings}
use Rattle.world_cells.proofs.cells.opening_slots.Given as goal

abbrev pub invariant-loop-alloc : goal.invariant-loop-alloc
invariant-loop-alloc l = record {
  few : length l.slots.items ≤ most_slots;
  are : l.slots.items ++ nothings (most_slots - length l.slots.items) ≡ declared_slots 0 l.tags ++ nothings (most_slots - length l.tags);
}

abbrev pub decreases-loop-alloc : goal.decreases-loop-alloc
decreases-loop-alloc l = most_slots - length l.slots.items
