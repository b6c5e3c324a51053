use Rattle.thread_laws.proofs.Families.{returned_logs_are_families}
use Rattle.thread_laws.proofs.laws.returned_logs_are_families.Goals as goal

pub returns : goal.returns
returns c = returned_logs_are_families
