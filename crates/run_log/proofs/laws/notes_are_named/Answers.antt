use Rattle.run_log.proofs.NamedLogs.{notes_named}
use Rattle.run_log.proofs.laws.notes_are_named.Goals as goal

pub returns : goal.returns
returns c = notes_named
