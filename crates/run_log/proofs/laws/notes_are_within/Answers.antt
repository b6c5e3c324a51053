use Rattle.run_log.proofs.WithinNotes.{notes_within}
use Rattle.run_log.proofs.laws.notes_are_within.Goals as goal

pub returns : goal.returns
returns c = notes_within
