use Rattle.std.proofs.Common.{◌≡◌, ◌∙◌, ◌<◌, List, length, sym, ap, subst, arith, rules}
use Rattle.std.specs.Prelude.{Option, Some, IfSome, slice_get}
use Rattle.wedge_events.specs.declared.events.Turn.{Turn}
use Rattle.machine.specs.Actors.{ActorState}
use Rattle.run_notes.specs.Doers.{doer_of}
use Rattle.run_notes.specs.declared.doer.Doer.{Doer}
use Rattle.run_log.specs.LoggedParts.{IsEventNoted, IsLastEvent}
use Rattle.world_turns.proofs.Advancing.{length-push}
use Rattle.run_log.proofs.LoggedTurns.{event_logged, turn_keeps}
use Rattle.run_log.proofs.TakenBack.{last_of}
use Rattle.run_log.proofs.advancing.advance_rested.Goals as goal

pub doer_at-requires : goal.doer_at-requires
doer_at-requires c =
    let same : c.as_slice.result.now ≡ c.args.world.now.state.actors = search rules in
    subst (λ (as_ : List ActorState). c.args.index < length as_) (sym same) c.requires.there.1.inside

pub log_last-requires-clause-some : goal.log_last-requires-clause-some
log_last-requires-clause-some c =
    let t = c.in_ok-advance.ensures.took c.in-Took.is in
    let turn : Turn = record { actor = c.args.name.now; event = t.event } in
    let more = ap length t.noted ∙ length-push c.args.world.now.turns turn in
    omega (arith, more)

pub log_last-requires-clause-inside : goal.log_last-requires-clause-inside
log_last-requires-clause-inside c = subst (λ n. c.args.index < n) (sym c.requires.in_step) c.requires.there.1.inside

pub log_last-requires-clause-there : goal.log_last-requires-clause-there
log_last-requires-clause-there c =
    let t = c.in_ok-advance.ensures.took c.in-Took.is in
    let found = c.requires.there.1 in
    let more = turn_keeps c.args.world.now.state c.args.name.now c.args.index c.requires.there.0 t.event c.advance.new.world.state found (c.requires.rests c.requires.there.0 found.named) t.turn in
    let inside = found.inside in
    omega (arith, more, inside)

pub returns-in-Ok-log_last-clause-took : goal.returns-in-Ok-log_last-clause-took
returns-in-Ok-log_last-clause-took c = λ _.
    let p = c.args.world.now in
    let q = c.advance.new.world in
    let index = c.args.index in
    let l = c.args.log.now in
    let m = c.log_last.new.log in
    let a : ActorState = c.requires.there.0 in
    let found = c.requires.there.1 in
    let t = c.in_ok-advance.ensures.took c.in-Took.is in
    let same : c.as_slice.result.now ≡ c.args.world.now.state.actors = search rules in
    let there : slice_get c.as_slice.result.now index ≡ Some a = ap (λ (as_ : List ActorState). slice_get as_ index) same ∙ found.there in
    let doer : c.in-Ok.doer ≡ doer_of a = subst (λ (o : Option ActorState). IfSome o (λ x. c.in-Ok.doer ≡ doer_of x)) there c.in-Ok.ensures in
    let last : IsLastEvent q t.event = λ before u noted. last_of before p.turns u (record { actor = c.args.name.now; event = t.event }) (sym noted ∙ t.noted) in
    let n = c.in-Ok-log_last.ensures t.event last in
    let by_doer : IsEventNoted q.state.image t.event q.state.actors index (doer_of a) l m = subst (λ (d : Doer). IsEventNoted q.state.image t.event q.state.actors index d l m) doer n in
    let by_image : IsEventNoted p.state.image t.event q.state.actors index (doer_of a) l m = subst (λ i. IsEventNoted i t.event q.state.actors index (doer_of a) l m) c.advance.ensures.image by_doer in
    event_logged p c.args.name.now index a q l m found (c.requires.rests a found.named) c.requires.in_step t by_image
