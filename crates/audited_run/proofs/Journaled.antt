-- A complete run on threads is a journaled one.
use Rattle.std.proofs.Common.{List}
use Rattle.wedge_base.specs.Images.{Image}
use Rattle.wedge_base.specs.declared.outcome.Outcome.{Outcome}
use Rattle.wedge_events.specs.Journals.{turns_of}
use Rattle.wedge_events.specs.declared.events.LogEntry.{LogEntry}
use Rattle.run_laws.specs.CompleteRuns.{IsJournaledRun}
use Rattle.thread_laws.specs.Joining.{IsJournalOfRun}
use Rattle.world_turns.proofs.Replays.{complete_of}

pub runs_are_journaled : (i : Image) (entries : List LogEntry) (outcome : Outcome)
    → IsJournalOfRun i entries outcome → IsJournaledRun i entries outcome
runs_are_journaled i entries outcome r = record {
  last = r.last;
  run = complete_of i (turns_of entries) r.last r.run r.complete r.goes_on;
  ends = r.ends;
}
