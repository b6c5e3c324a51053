use Rattle.std.proofs.Common.{ap, ◌∙◌}
use Rattle.machine.specs.Actors.{whole}
use Rattle.machine.specs.Calls.{a0, draft_at, new_gate, has_gate}
use Rattle.machine.proofs.Creating.{on_ok}
use Rattle.machine.proofs.GatesMade.{makes_now}
use Rattle.actor_step.proofs.making.go_on_making.Goals as goal

pub returns-in-None-clause-takes : goal.returns-in-None-clause-takes
returns-in-None-clause-takes c =
    on_ok c.make_gate.result
    (λ h m.
    let w = whole c.args.actor.now m in
    let d = draft_at w.drafts (a0 w) in
    h m ∙ ap (λ x. has_gate w (new_gate w d x)) c.into_memory.ensures ∙ makes_now w d c.args.preparation c.in-None.ensures)
    c.make_gate.ensures.takes
