use Rattle.std.proofs.Common.{◌≡◌, ◌++◌, drop}
use Rattle.wedge_events.specs.Slots.{declared_slots}
use Rattle.world_cells.proofs.cells.declared_slots.Given as goal

abbrev pub invariant-loop-tag : goal.invariant-loop-tag
invariant-loop-tag l = (l.number ≡ l.tag-index) × (l.slots.items ++ declared_slots l.number (drop l.tag-index l.tags) ≡ declared_slots 0 l.tags)
