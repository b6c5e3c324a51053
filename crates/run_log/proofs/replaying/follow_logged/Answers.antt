use Rattle.std.proofs.Common.{◌≡◌, false, ap, Err, rules}
use Rattle.machine.specs.Worlds.{is_complete}
use Rattle.world_turns.proofs.Replays.{replayed_unknown, replayed_ended, replayed_waits, replayed_busy}
use Rattle.run_log.proofs.LoggedReplays.{goes_with}
use Rattle.run_log.proofs.replaying.follow_logged.Goals as goal
use Rattle.run_log.proofs.replaying.follow_logged.Goals.{in-Ok, in-Err-NoMemory, in-Err-Unknown, in-Err-Ended, in-Err-Waits, in-Err-Busy}

pub returns-clause-rejected : goal.returns-clause-rejected
returns-clause-rejected c =
    let w = c.args.world.now.state in
    let at = c.args.at in
    let name = c.args.name.now in
    let going : is_complete w ≡ false = search rules in
    elim c.match-turn_logged.branch [
      | in-Ok b ↦ rw b.result-is tt
      | in-Err-NoMemory b ↦ rw b.result-is (λ names. tt)
      | in-Err-Unknown b ↦ rw b.result-is (λ names. replayed_unknown w at name names going (b.in-Err-Unknown.ensures.unknown (ap (λ x. Err x) b.in-Err-Unknown.field-0-is)))
      | in-Err-Ended b ↦ rw b.result-is (λ names. replayed_ended w at name names going (b.in-Err-Ended.ensures.ended (ap (λ x. Err x) b.in-Err-Ended.field-0-is)))
      | in-Err-Waits b ↦ rw b.result-is (λ names. replayed_waits w at name names going (b.in-Err-Waits.ensures.waits (ap (λ x. Err x) b.in-Err-Waits.field-0-is)))
      | in-Err-Busy b ↦ rw b.result-is (λ names. replayed_busy w at name names going (b.in-Err-Busy.ensures.busy (ap (λ x. Err x) b.in-Err-Busy.field-0-is)))
    ]

pub returns-clause-of : goal.returns-clause-of
returns-clause-of c =
    let p = c.args.world.now in
    let q = c.turn_logged.new.world in
    let l = c.args.log.now in
    let m = c.turn_logged.new.log in
    elim c.match-turn_logged.branch [
      | in-Ok b ↦ rw b.result-is (goes_with p q l m c.args.name.now c.requires.of (b.in-Ok.field-0.event, b.in-Ok.ensures.took) c.turn_logged.ensures.procedures)
      | in-Err-NoMemory b ↦ rw b.result-is tt
      | in-Err-Unknown b ↦ rw b.result-is tt
      | in-Err-Ended b ↦ rw b.result-is tt
      | in-Err-Waits b ↦ rw b.result-is tt
      | in-Err-Busy b ↦ rw b.result-is tt
    ]
