use Rattle.thread_laws.proofs.Auditing.{different_disagree}
use Rattle.run_audit.proofs.OneDifference.{one_difference}
use Rattle.run_audit.proofs.laws.differences_disagree.Goals as goal

pub returns-clause-disagree : goal.returns-clause-disagree
returns-clause-disagree c = λ logs cells d h agrees. different_disagree logs cells d.cell d.index d.kept d.logged h.differ agrees

pub returns-clause-one : goal.returns-clause-one
returns-clause-one c = one_difference
