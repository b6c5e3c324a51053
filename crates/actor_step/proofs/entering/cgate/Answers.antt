use Rattle.std.proofs.Common.{ap, ◌∙◌}
use Rattle.machine.specs.Actors.{ActorRecord, gate_held, whole}
use Rattle.machine.specs.Calls.{a0, enter_held}
use Rattle.machine.proofs.Creating.{on_ok}
use Rattle.actor_step.proofs.entering.cgate.Goals as goal

pub returns : goal.returns
returns c =
    on_ok c.enter_held.result
    (λ h m.
    let a = whole c.args.actor.now m in
    let entry = c.reg.ensures ∙ ap (λ (r : ActorRecord). a0 (whole r m)) c.actor.view_is in
    h m ∙ ap (enter_held a) (c.in_ok-gate.ensures.is m ∙ ap (gate_held a) entry))
    c.enter_held.ensures
