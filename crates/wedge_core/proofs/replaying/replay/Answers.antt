use Rattle.std.proofs.Common.{rules, ◌≡◌, sym, subst, drop, suc, true}
use Rattle.machine.specs.Worlds.{initial_state, is_complete}
use Rattle.world_turns.specs.Replay.{replay_from, IsFaultOf}
use Rattle.world_turns.proofs.Replays.{replaying_next, replaying_rest, complete_of}
use Rattle.wedge_core.proofs.replaying.replay.Goals as goal

pub returns-in_err-follow-clause-rejected : goal.returns-in_err-follow-clause-rejected
returns-in_err-follow-clause-rejected c =
    let rest = drop (suc c.loop-i.i) c.args.schedule.now in
    let told = replaying_rest c.args.image.now c.args.schedule.now c.loop-i.i c.index-schedule-i.result c.loop-i.world c.loop-i-test.true c.index-schedule-i.is c.loop-i.invariant in
    let e = c.in_err-follow.field-0.0 in
    let known : IsFaultOf (replay_from (initial_state c.args.image.now) 1 c.args.schedule.now) e = subst (λ r. IsFaultOf r e) (sym told) (c.in_err-follow.ensures.rejected rest) in
    search (rules, known)

pub loop-i-preserved : goal.loop-i-preserved
loop-i-preserved c =
    replaying_next c.args.image.now c.args.schedule.now c.loop-i.i c.index-schedule-i.result c.loop-i.world c.follow.new.world c.loop-i-test.true c.index-schedule-i.is c.loop-i.invariant c.in_ok-follow.ensures.ok

pub returns-clause-run : goal.returns-clause-run
returns-clause-run c =
    let whole : is_complete c.loop-i.world.state ≡ true = search rules in
    complete_of c.args.image.now c.loop-i.world.turns c.loop-i.world.state c.loop-i.invariant.run whole c.loop-i.invariant.goes_on
