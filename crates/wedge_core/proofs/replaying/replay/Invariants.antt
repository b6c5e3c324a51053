use Rattle.world_turns.proofs.Replays.{IsReplaying}
use Rattle.wedge_core.proofs.replaying.replay.Given as goal

abbrev pub invariant-loop-i : goal.invariant-loop-i
invariant-loop-i l = IsReplaying l.image l.schedule l.i l.world
