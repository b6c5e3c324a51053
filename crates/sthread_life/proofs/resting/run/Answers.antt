use Rattle.std.proofs.Common.{◌≡◌, ◌∙◌, true, false, refl, sym, ap, rules}
use Rattle.actor_step.specs.Reached.{reached}
use Rattle.machine.specs.Actors.{ActorState, whole}
use Rattle.machine.specs.Local.{is_running, step, rest}
use Rattle.machine.proofs.Resting.{left, rest-stays, rest-step, step_less}
use Rattle.sthread_life.proofs.resting.run.Goals as goal

pub loop-actor-smaller : goal.loop-actor-smaller
loop-actor-smaller g c =
    let was = whole c.loop-actor.actor c.loop-actor.memory in
    let new = whole c.step.new.actor c.step.new.memory in
    let runs : is_running c.loop-actor.actor.phase ≡ true = search rules in
    let stepped : new ≡ step c.args.program.now was = ap (reached new) (sym c.in_default.is) ∙ c.in_ok-access.ensures.is in
    rw (ap (λ (a : ActorState). left a.phase a.fuel) stepped) (step_less c.args.program.now was runs)

pub loop-actor-preserved : goal.loop-actor-preserved
loop-actor-preserved g c =
    let was = whole c.loop-actor.actor c.loop-actor.memory in
    let new = whole c.step.new.actor c.step.new.memory in
    let runs : is_running c.loop-actor.actor.phase ≡ true = search rules in
    let stepped : new ≡ step c.args.program.now was = ap (reached new) (sym c.in_default.is) ∙ c.in_ok-access.ensures.is in
    rw stepped (rest-step c.args.program.now was runs ∙ c.loop-actor.invariant)

pub returns-in-Some-clause-rests : goal.returns-in-Some-clause-rests
returns-in-Some-clause-rests g c =
    let i = c.args.program.now in
    let was = whole c.loop-actor.actor c.loop-actor.memory in
    let new = whole c.step.new.actor c.step.new.memory in
    let runs : is_running c.loop-actor.actor.phase ≡ true = search rules in
    let stepped = ap (reached new) (sym c.in-Some.is) ∙ c.in_ok-access.ensures.is in
    sym (rest-stays i _ refl) ∙ (ap (rest i) stepped ∙ (rest-step i was runs ∙ c.loop-actor.invariant))

pub returns-clause-rests : goal.returns-clause-rests
returns-clause-rests g c =
    let stops : is_running c.loop-actor.actor.phase ≡ false = search rules in
    sym (rest-stays c.args.program.now (whole c.loop-actor.actor c.loop-actor.memory) stops) ∙ c.loop-actor.invariant
