use Rattle.std.proofs.Common.{◌≡◌, length}
use Rattle.machine.specs.Between.{AreInSlots}
use Rattle.machine.specs.Preparation.{prepare_copies}
use Rattle.machine.proofs.preparation.Preparation.copy_own.Given as goal

abbrev pub invariant-loop-grant : goal.invariant-loop-grant
invariant-loop-grant l = (prepare_copies l.sheet l.made l.own.copies l.self.memory l.self.left ≡ prepare_copies l.sheet l.made l.own.copies l.fn.self.memory l.fn.self.left)
    × (AreInSlots l.fn.self.left → AreInSlots l.self.left)

abbrev pub decreases-loop-grant : goal.decreases-loop-grant
decreases-loop-grant l = length l.self.left
