use Rattle.std.proofs.Common.{◌≡◌, drop}
use Rattle.machine.specs.Preparation.{with_declared}
use Rattle.machine.proofs.actor.copy_declared.Given as goal

abbrev pub invariant-loop-tag : goal.invariant-loop-tag
invariant-loop-tag l = (l.number ≡ l.tag-index)
    × (record l.memory { copies = with_declared l.memory.copies l.number (drop l.tag-index l.tags) } ≡ record l.fn.memory { copies = with_declared l.fn.memory.copies 0 l.tags })
