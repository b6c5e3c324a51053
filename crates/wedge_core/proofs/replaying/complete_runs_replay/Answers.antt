use Rattle.world_turns.proofs.Replays.{complete_runs_replay, replays_are_complete, journals_replay}
use Rattle.wedge_core.proofs.replaying.complete_runs_replay.Goals as goal

pub returns : goal.returns
returns c = record { runs = complete_runs_replay; replays = replays_are_complete; journals = journals_replay }
