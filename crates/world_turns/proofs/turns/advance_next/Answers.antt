use Rattle.std.proofs.Common.{◌≡◌, ◌∙◌, ap, sym}
use Rattle.std.specs.Prelude.{Some, None}
use Rattle.machine.specs.Actors.{ActorState}
use Rattle.machine.specs.Local.{run_awaited}
use Rattle.machine.specs.Resting.{run_in}
use Rattle.world_turns.proofs.turns.advance_next.Goals as goal

pub unreachable-requires-in-Waiting : goal.unreachable-requires-in-Waiting
unreachable-requires-in-Waiting c =
    let none : run_in c.in_ok-next.field-0 ≡ None = c.in_ok-next.ensures.waits ∙ (ap (λ (x : ActorState). run_awaited x.phase) c.resident.view_is ∙ c.requires.awake) in
    let f : Some c.in-Waiting.run' ≡ None = sym (ap run_in c.in-Waiting.is) ∙ none in
    cc
