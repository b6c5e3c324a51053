use Rattle.std.proofs.Common.{rules}
use Rattle.world_turns.specs.Progress.{HasEnded}
use Rattle.run_log.proofs.LoggedTurns.{may_advance, whole_turn, waits_whole, busy_whole, ended_not}
use Rattle.std.specs.Prelude.{Result, Ok, Err, IfOk, OnOk}
use Rattle.world_turns.proofs.FamilyTurns.{if_ok}
use Rattle.run_log.proofs.advancing.advance_logged.Goals as goal

if_on : {X E : Type 0} {A C : X → Type 0} {B : Type 0} (r : Result X E) → ((x : X) → A x → B → C x) → IfOk r A → OnOk r B → IfOk r C
if_on (Ok x) f h k = f x h k
if_on (Err e) f h k = tt

pub advance_rested-requires-clause-there : goal.advance_rested-requires-clause-there
advance_rested-requires-clause-there c =
    (may_advance c.args.world.now c.args.name.now c.args.index c.args.log.now c.rest_logged.new.log c.rest_logged.new.world c.requires.in_step (c.in_ok-rest_logged.ensures.rests c.if-not-branch.false)).there

pub advance_rested-requires-clause-rests : goal.advance_rested-requires-clause-rests
advance_rested-requires-clause-rests c =
    (may_advance c.args.world.now c.args.name.now c.args.index c.args.log.now c.rest_logged.new.log c.rest_logged.new.world c.requires.in_step (c.in_ok-rest_logged.ensures.rests c.if-not-branch.false)).rests

pub advance_rested-requires-clause-in_step : goal.advance_rested-requires-clause-in_step
advance_rested-requires-clause-in_step c =
    (may_advance c.args.world.now c.args.name.now c.args.index c.args.log.now c.rest_logged.new.log c.rest_logged.new.world c.requires.in_step (c.in_ok-rest_logged.ensures.rests c.if-not-branch.false)).in_step

pub returns-clause-took : goal.returns-clause-took
returns-clause-took c =
    let r = c.in_ok-rest_logged.ensures.rests c.if-not-branch.false in
    if_on c.advance_rested.result (λ x took going is. whole_turn c.args.world.now c.args.name.now c.args.index c.args.log.now c.rest_logged.new.log c.advance_rested.new.log c.rest_logged.new.world c.advance_rested.new.world r going (took is))
    c.advance_rested.ensures.took c.advance_rested.ensures.going

pub returns-clause-ended : goal.returns-clause-ended
returns-clause-ended c =
    let r = c.in_ok-rest_logged.ensures.rests c.if-not-branch.false in
    let lives : HasEnded c.args.world.now.state.actors c.args.name.now → ⊥ = search rules in
    if_ok c.advance_rested.result (λ x ended is. ended_not c.args.world.now c.args.name.now c.args.index c.args.log.now c.rest_logged.new.log c.rest_logged.new.world r lives (ended is)) c.advance_rested.ensures.ended

pub returns-clause-waits : goal.returns-clause-waits
returns-clause-waits c =
    let r = c.in_ok-rest_logged.ensures.rests c.if-not-branch.false in
    if_ok c.advance_rested.result (λ x waits is. waits_whole c.args.world.now c.args.name.now c.args.index c.args.log.now c.rest_logged.new.log c.advance_rested.new.log c.rest_logged.new.world c.advance_rested.new.world r (waits is)) c.advance_rested.ensures.waits

pub returns-clause-busy : goal.returns-clause-busy
returns-clause-busy c =
    let r = c.in_ok-rest_logged.ensures.rests c.if-not-branch.false in
    if_ok c.advance_rested.result (λ x busy is. busy_whole c.args.world.now c.args.name.now c.args.index c.args.log.now c.rest_logged.new.log c.advance_rested.new.log c.rest_logged.new.world c.advance_rested.new.world r (busy is)) c.advance_rested.ensures.busy
