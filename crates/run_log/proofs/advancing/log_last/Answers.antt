use Rattle.std.proofs.Common.{◌≡◌, ◌∙◌, List, sym, ap, subst, rules}
use Rattle.std.specs.Prelude.{Result, Ok, Err, OnOk}
use Rattle.wedge_base.specs.Images.{Image}
use Rattle.wedge_events.specs.declared.events.Event.{Event}
use Rattle.machine.specs.Actors.{ActorState}
use Rattle.run_log.specs.LoggedParts.{IsEventNoted}
use Rattle.run_log.proofs.TakenBack.{split_last}
use Rattle.world_turns.specs.Progress.{Progress}
use Rattle.run_log.proofs.advancing.log_last.Goals as goal

on_ok : {X E : Type 0} {A B : Type 0} (r : Result X E) → (A → B) → OnOk r A → OnOk r B
on_ok (Ok x) f h = f h
on_ok (Err e) f h = tt

pub returns : goal.returns
returns c =
    let p = c.args.world.now in
    let l = c.args.log.now in
    let m = c.log_event.new.log in
    let d = c.args.doer.now in
    let index = c.args.index in
    let event : Event = c.last_event.result.now in
    let s = split_last p.turns c.requires.some in
    let image : c.world.inside.program ≡ p.state.image = ap (λ (x : Progress). x.state.image) c.world.view_is in
    let actors : c.as_slice-actors.result.now ≡ p.state.actors = search rules in
    on_ok c.log_event.result (λ noted e last.
    (let same : event ≡ e = c.last_event.ensures s.0 s.1 s.2 ∙ sym (last s.0 s.1 s.2) in
    subst (λ (x : Event). IsEventNoted p.state.image x p.state.actors index d l m) same
    (subst (λ (as_ : List ActorState). IsEventNoted p.state.image event as_ index d l m) actors
    (subst (λ (i : Image). IsEventNoted i event c.as_slice-actors.result.now index d l m) image noted)))) c.log_event.ensures
