use Rattle.std.proofs.Common.{◌≡◌, take}
use Rattle.report_text.specs.Schedules.{actors_of, schedule_of}
use Rattle.report_text.proofs.Readings.{AreNames}
use Rattle.report_text.proofs.writing.write_schedule.Given as goal

-- The lines of the entries so far were added, and their actors' names are names.
abbrev pub invariant-loop-entry : goal.invariant-loop-entry
invariant-loop-entry l = record {
  text : l.out.items ≡ schedule_of (actors_of (take l.entry-index l.entry-items));
  named : AreNames (actors_of (take l.entry-index l.entry-items));
}
