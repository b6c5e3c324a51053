use Rattle.std.proofs.Common.{rules, ◌≡◌, ◌+◌, ◌-◌, ◌≤◌, true, List, ◌++◌, sym, ap, subst, ◌∙◌, drop, length, replicate, suc, arith}
use Rattle.std.proofs.lemmas.Result.{err_from_is_err_and}
use Rattle.machine.specs.Worlds.{initial_state, is_complete}
use Rattle.run_notes.specs.declared.note.Note.{Note}
use Rattle.world_turns.specs.Replay.{replay_from, IsFaultOf}
use Rattle.world_turns.proofs.Replays.{replaying_first, replaying_next, replaying_rest}
use Rattle.run_log.proofs.LoggedReplays.{replayed_all, logging_first, logging_next, logging_last, follows, opens}
use Rattle.run_log.proofs.NoteTurns.{numbered_first, numbered_next, numbered_last, took_adds}
use Rattle.run_log.proofs.replaying.replay_logged.Goals as goal

pub loop-i-init : goal.loop-i-init
loop-i-init c = record {
  replaying = replaying_first c.args.image.now c.args.schedule.now c.in_ok-world.world c.in_ok-world.ensures;
  of = opens c.args.image.now c.in_ok-world.world c.in_ok-log.log c.in_ok-world.ensures c.in_ok-log.ensures.log c.in_ok-log.ensures.procedures;
  numbered = numbered_first c.args.image.now c.args.schedule.now c.in_ok-world.world c.in_ok-log.log.log c.new-turns.result.items c.in_ok-world.ensures c.in_ok-log.ensures.log (search rules);
  logging = logging_first c.args.image.now c.args.schedule.now c.in_ok-world.world c.in_ok-log.log.log c.in_ok-world.ensures c.in_ok-log.ensures.log;
}

pub loop-i-preserved : goal.loop-i-preserved
loop-i-preserved c =
    let t = c.in_ok-follow_logged.ensures.ok in
    let l = c.loop-i.log.log in
    let m = c.follow_logged.new.log.log in
    record {
      replaying = replaying_next c.args.image.now c.args.schedule.now c.loop-i.i c.index-schedule-i.result c.loop-i.world c.follow_logged.new.world c.loop-i-test.true c.index-schedule-i.is c.loop-i.invariant.replaying
          (follows c.loop-i.world c.follow_logged.new.world l m c.index-schedule-i.result c.in_ok-follow_logged.ensures.goes_on t);
      of = c.in_ok-follow_logged.ensures.of;
      numbered = numbered_next c.args.image.now c.args.schedule.now c.loop-i.i c.index-schedule-i.result c.loop-i.world c.follow_logged.new.world l m c.loop-i.turns.items c.number_notes.new.turns.items c.loop-i-test.true c.index-schedule-i.is c.loop-i.invariant.numbered t
          (c.in_ok-number_notes.ensures ∙ ap (λ (ns : List Note). c.loop-i.turns.items ++ replicate (length ns - length c.loop-i.turns.items) (c.loop-i.i + 1)) c.notes.ensures);
      logging = logging_next c.args.image.now c.args.schedule.now c.loop-i.i c.index-schedule-i.result c.loop-i.world c.follow_logged.new.world l m c.loop-i-test.true c.index-schedule-i.is c.loop-i.invariant.logging t;
    }

pub number_notes-requires : goal.number_notes-requires
number_notes-requires c =
    let each = c.loop-i.invariant.numbered.each in
    let now = ap length c.notes.ensures in
    let no_less = took_adds c.loop-i.world c.follow_logged.new.world c.loop-i.log.log c.follow_logged.new.log.log c.index-schedule-i.result c.in_ok-follow_logged.ensures.ok in
    omega (arith, each, now, no_less)

pub returns-in_err-follow_logged-clause-rejected : goal.returns-in_err-follow_logged-clause-rejected
returns-in_err-follow_logged-clause-rejected c =
    let rest = drop (suc c.loop-i.i) c.args.schedule.now in
    let told = replaying_rest c.args.image.now c.args.schedule.now c.loop-i.i c.index-schedule-i.result c.loop-i.world c.loop-i-test.true c.index-schedule-i.is c.loop-i.invariant.replaying in
    let e = c.in_err-follow_logged.field-0.0 in
    let known : IsFaultOf (replay_from (initial_state c.args.image.now) 1 c.args.schedule.now) e = subst (λ r. IsFaultOf r e) (sym told) (c.in_err-follow_logged.ensures.rejected rest) in
    let p = err_from_is_err_and c.from_residual-in_err-follow_logged.result c.from_residual-in_err-follow_logged.ensures.1 in
    rw (p.1, p.2) known

pub returns-in_err-number_notes-clause-rejected : goal.returns-in_err-number_notes-clause-rejected
returns-in_err-number_notes-clause-rejected c =
    let p = err_from_is_err_and c.from_residual-in_err-number_notes.result c.from_residual-in_err-number_notes.ensures.1 in
    rw (p.1, p.2) tt

pub returns-clause-log : goal.returns-clause-log
returns-clause-log c =
    let over : length c.args.schedule.now ≤ c.loop-i.i = omega arith in
    logging_last c.args.image.now c.args.schedule.now c.loop-i.i c.loop-i.world c.loop-i.log.log over c.loop-i.invariant.logging

pub returns-clause-turns : goal.returns-clause-turns
returns-clause-turns c =
    let over : length c.args.schedule.now ≤ c.loop-i.i = omega arith in
    numbered_last c.args.image.now c.args.schedule.now c.loop-i.i c.loop-i.world c.loop-i.log.log c.loop-i.turns.items over c.loop-i.invariant.numbered

pub returns-clause-replayed : goal.returns-clause-replayed
returns-clause-replayed c = λ ok.
    let over : length c.args.schedule.now ≤ c.loop-i.i = omega arith in
    let whole : is_complete c.loop-i.world.state ≡ true = search rules in
    replayed_all c.args.image.now c.args.schedule.now c.loop-i.i c.loop-i.world over whole c.loop-i.invariant.replaying
