use Rattle.std.proofs.Common.{◌≡◌, ◌∙◌, ap, sym}
use Rattle.actor_step.specs.Reached.{reached}
use Rattle.machine.specs.Actors.{ActorState}
use Rattle.machine.specs.Local.{rest, has_ended, run_awaited}
use Rattle.machine.proofs.Resting.{rest-ended}
use Rattle.world_turns.proofs.AtRest.{rest_none}
use Rattle.world_turns.proofs.turns.advance_one.Goals as goal

pub advance_next-requires-clause-lives : goal.advance_next-requires-clause-lives
advance_next-requires-clause-lives c =
    let new = c.bring_to_rest.new.resident in
    let rests : new ≡ rest c.args.program.now c.args.resident.now = ap (reached new) (sym c.in-None.is) ∙ c.in_ok-access.ensures.rests in
    ap (λ (x : ActorState). has_ended x.phase) rests ∙ (rest-ended c.args.program.now c.args.resident.now ∙ c.requires.lives)

pub advance_next-requires-clause-awake : goal.advance_next-requires-clause-awake
advance_next-requires-clause-awake c =
    let new = c.bring_to_rest.new.resident in
    let rests : new ≡ rest c.args.program.now c.args.resident.now = ap (reached new) (sym c.in-None.is) ∙ c.in_ok-access.ensures.rests in
    ap (λ (x : ActorState). run_awaited x.phase) rests ∙ rest_none c.args.program.now c.args.resident.now c.requires.awake
