use Rattle.run_laws.proofs.AllEnd.{ended_have_joined, all_have_ended}
use Rattle.run_laws.proofs.laws.complete_runs_end_all.Goals as goal

pub returns-clause-joined : goal.returns-clause-joined
returns-clause-joined c = ended_have_joined

pub returns-clause-all : goal.returns-clause-all
returns-clause-all c = all_have_ended
