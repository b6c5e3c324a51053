use Rattle.std.proofs.Common.{ap, ◌∙◌}
use Rattle.machine.specs.Actors.{whole}
use Rattle.machine.specs.Calls.{has_gate}
use Rattle.machine.proofs.Creating.{on_ok}
use Rattle.actor_step.proofs.making.make_gate.Goals as goal

pub returns-clause-takes : goal.returns-clause-takes
returns-clause-takes c = on_ok c.keep_gate.result (λ h m. h m ∙ ap (has_gate (whole c.args.actor.now m)) (c.in_ok-gate.ensures.is m)) c.keep_gate.ensures.takes
