use Rattle.std.proofs.Common.{sym, ◌∙◌}
use Rattle.machine.specs.Actors.{whole}
use Rattle.machine.proofs.Creating.{on_ok, starts_as}
use Rattle.sthread_life.proofs.events.take_event.Goals as goal

pub returns-in-Start-clause-takes : goal.returns-in-Start-clause-takes
returns-in-Start-clause-takes c =
    on_ok c.start.result (λ h. h c.args.memory.now ∙ sym (starts_as c.args.program.now (whole c.args.actor.now c.args.memory.now) c.args.event.now c.in-Start.child c.in-Start.is)) c.start.ensures.takes
