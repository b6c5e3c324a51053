use Rattle.std.proofs.Common.{◌≡◌, rules, subst}
use Rattle.wedge_events.specs.Journals.{turns_of}
use Rattle.run_log.specs.LoggedParts.{ComesToRest}
use Rattle.run_log.specs.Logging.{log_rested}
use Rattle.world_turns.specs.Progress.{Progress, state_of, HasEnded, IsWaiting, rested}
use Rattle.world_turns.proofs.Advancing.{IsKept}
use Rattle.run_log.proofs.LoggedTurns.{kept_noted, comes_to_rest, waits_on}
use Rattle.run_log.proofs.advancing.rest_logged.Goals as goal

pub invariant_of-world : goal.invariant_of-world
invariant_of-world c =
    let w = c.world.inside in
    let was : IsKept w.program w.cells w.residents w.entries.items w.stopped = record { numbered = c.world.invariant.numbered; run = c.world.invariant.run; family = c.world.invariant.family } in
    let lives : HasEnded w.residents c.args.name.now → ⊥ = search rules in
    let says = c.in-Ok.ensures in
    let is = kept_noted c.in-Ok.awake w.program w.cells w.residents c.rest_over.new.residents w.entries.items c.args.name.now c.args.index w.stopped c.args.log.now c.rest_over.new.log was lives says.rests (λ waiting. (says.waits waiting).0) in
    record { numbered = is.numbered; run = is.run; family = is.family }

pub returns-in-Ok-clause-rests : goal.returns-in-Ok-clause-rests
returns-in-Ok-clause-rests c = λ awake.
    let w = c.world.inside in
    let new : Progress = record { state = state_of w.program w.cells c.rest_over.new.residents; turns = turns_of w.entries.items; stopped = w.stopped } in
    let l = c.args.log.now in
    let m = c.rest_over.new.log in
    subst (λ (p : Progress). ComesToRest p c.args.name.now c.args.index l new m) c.world.view_is
    (comes_to_rest w.program w.cells w.residents c.rest_over.new.residents (turns_of w.entries.items) w.stopped c.args.name.now c.args.index l m (c.in-Ok.ensures.rests awake))

pub returns-in-Ok-clause-waits : goal.returns-in-Ok-clause-waits
returns-in-Ok-clause-waits c = λ waiting.
    let w = c.world.inside in
    let new : Progress = record { state = state_of w.program w.cells c.rest_over.new.residents; turns = turns_of w.entries.items; stopped = w.stopped } in
    let l = c.args.log.now in
    let m = c.rest_over.new.log in
    let says = c.in-Ok.ensures.waits waiting in
    let s = waits_on w.program w.cells w.residents c.rest_over.new.residents (turns_of w.entries.items) w.stopped c.args.name.now c.args.index l m says.0 says.1 in
    subst (λ (p : Progress). IsWaiting p.state c.args.name.now × (new ≡ record p { state = rested p.state c.args.name.now }) × (m ≡ log_rested p.state l c.args.name.now)) c.world.view_is (s.waits, s.rests, s.logged)
