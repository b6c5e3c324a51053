use Rattle.std.proofs.Common.{◌≡◌}
use Rattle.machine.specs.Actors.{whole}
use Rattle.machine.specs.Local.{rest}
use Rattle.machine.proofs.Resting.{left}
use Rattle.run_notes.specs.Notes.{noted_rest}
use Rattle.run_notes.proofs.resting.run_noted.Given as goal

abbrev pub invariant-loop-actor : goal.invariant-loop-actor
invariant-loop-actor l = record {
  rests : rest l.context.program.now (whole l.actor l.memory) ≡ rest l.context.program.now (whole l.fn.actor l.fn.memory);
  noted : noted_rest l.context.program.now l.context.makings.now (whole l.actor l.memory) (record { chain = l.chain; notes = l.list.items })
      ≡ noted_rest l.context.program.now l.context.makings.now (whole l.fn.actor l.fn.memory) (record { chain = l.fn.chain; notes = l.fn.list.items });
}

abbrev pub decreases-loop-actor : goal.decreases-loop-actor
decreases-loop-actor l = left l.actor.phase l.actor.fuel
