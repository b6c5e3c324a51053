use Rattle.std.proofs.Common.{◌≡◌, ◌∙◌, true, false, sym, ap, rules}
use Rattle.machine.specs.Actors.{ActorState, whole}
use Rattle.machine.specs.Local.{is_running, step, rest}
use Rattle.machine.proofs.Resting.{left, rest-stays, rest-step, step_less}
use Rattle.run_notes.specs.Notes.{Noted, noted_step, noted_rest}
use Rattle.run_notes.proofs.NotedRests.{noted_next, noted_done}
use Rattle.run_notes.proofs.resting.run_noted.Goals as goal

pub loop-actor-smaller : goal.loop-actor-smaller
loop-actor-smaller c =
    let runs : is_running c.loop-actor.actor.phase ≡ true = search rules in
    rw (ap (λ (a : ActorState). left a.phase a.fuel) c.in_ok-make_step.ensures) (step_less c.args.context.now.program.now (whole c.loop-actor.actor c.loop-actor.memory) runs)

pub loop-actor-preserved : goal.loop-actor-preserved
loop-actor-preserved c =
    let runs : is_running c.loop-actor.actor.phase ≡ true = search rules in
    let i = c.args.context.now.program.now in
    let m = c.args.context.now.makings.now in
    let a : ActorState = whole c.loop-actor.actor c.loop-actor.memory in
    let before : Noted = record { chain = c.loop-actor.chain; notes = c.loop-actor.list.items } in
    let after : Noted = record { chain = c.note_step.new.chain; notes = c.note_step.new.list.items } in
    let noted : after ≡ noted_step i m a before = c.in_ok-note_step.ensures in
    record {
      rests = ap (rest i) c.in_ok-make_step.ensures ∙ (rest-step i a runs ∙ c.loop-actor.invariant.rests);
      noted = ap (λ b. noted_rest i m b after) c.in_ok-make_step.ensures ∙ (ap (noted_rest i m (step i a)) noted ∙ (noted_next i m a before runs ∙ c.loop-actor.invariant.noted));
    }

pub returns : goal.returns
returns c =
    let stops : is_running c.loop-actor.actor.phase ≡ false = search rules in
    let i = c.args.context.now.program.now in
    let m = c.args.context.now.makings.now in
    let a : ActorState = whole c.loop-actor.actor c.loop-actor.memory in
    let before : Noted = record { chain = c.loop-actor.chain; notes = c.loop-actor.list.items } in
    record {
      rests = sym (rest-stays i a stops) ∙ c.loop-actor.invariant.rests;
      noted = sym (noted_done i m a before stops) ∙ c.loop-actor.invariant.noted;
    }
