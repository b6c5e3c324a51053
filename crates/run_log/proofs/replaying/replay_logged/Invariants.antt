use Rattle.world_turns.proofs.Replays.{IsReplaying}
use Rattle.run_log.specs.LoggedParts.{IsLogOf}
use Rattle.run_log.proofs.LoggedReplays.{IsLogging}
use Rattle.run_log.proofs.NoteTurns.{AreNumbered}
use Rattle.run_log.proofs.replaying.replay_logged.Given as goal

abbrev pub invariant-loop-i : goal.invariant-loop-i
invariant-loop-i l = record {
  replaying : IsReplaying l.image l.schedule l.i l.world;
  of : IsLogOf l.world l.log;
  numbered : AreNumbered l.image l.schedule l.i l.world l.log.log l.turns.items;
  logging : IsLogging l.image l.schedule l.i l.world l.log.log;
}
