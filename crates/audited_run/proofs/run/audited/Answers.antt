use Rattle.std.proofs.Common.{subst}
use Rattle.run_audit.specs.ComparedCells.{IsAtCompared}
use Rattle.run_audit.specs.Differences.{IsFault, IsFirstDifference}
use Rattle.thread_laws.specs.Joining.{journal_of}
use Rattle.thread_laws.specs.Replaying.{all_histories}
use Rattle.thread_laws.proofs.Auditing.{different_disagree}
use Rattle.audited_run.proofs.Audits.{agreed, declared_agree, differing, differing_audited}
use Rattle.audited_run.proofs.run.audited.Goals as goal

pub again-requires : goal.again-requires
again-requires c =
    let i = c.args.image.now in
    let gathered = c.args.gathered in
    let refused = c.in-Err.ensures.result (declared_agree i gathered c.requires) in
    let first : IsFirstDifference (journal_of gathered.logs) (all_histories gathered) c.in-Disagree.disagree =
    subst (IsFault gathered.logs (all_histories gathered)) c.in-Disagree.is refused.1 in
    let undeclared = subst (IsAtCompared gathered) c.in-Disagree.is c.in-Err.ensures.cell in
    rw refused.0 (differing i gathered c.in-Disagree.disagree c.requires first undeclared)

pub returns-in-Ok-clause-run : goal.returns-in-Ok-clause-run
returns-in-Ok-clause-run c =
    let is = c.in-Ok.ensures.result (declared_agree c.args.image.now c.args.gathered c.requires) in
    rw c.without_difference.ensures (agreed c.args.image.now c.args.gathered c.in-Ok.audited c.requires is c.in-Ok.ensures.run c.in-Ok.ensures.caches)

pub returns-in-Ok-clause-of : goal.returns-in-Ok-clause-of
returns-in-Ok-clause-of c =
    let is = c.in-Ok.ensures.result (declared_agree c.args.image.now c.args.gathered c.requires) in
    rw c.without_difference.ensures is.agrees

pub returns-in-Disagree-clause-of : goal.returns-in-Disagree-clause-of
returns-in-Disagree-clause-of c =
    let gathered = c.args.gathered in
    let refused = c.in-Err.ensures.result (declared_agree c.args.image.now gathered c.requires) in
    let first : IsFirstDifference (journal_of gathered.logs) (all_histories gathered) c.in-Disagree.disagree =
    subst (IsFault gathered.logs (all_histories gathered)) c.in-Disagree.is refused.1 in
    let d = c.in-Disagree.disagree in
    differing_audited gathered (record { gathered = c.in-Err.field-0.gathered; disagree = d }) c.again.result refused.0
    (λ agree. different_disagree gathered.logs (all_histories gathered) d.cell d.index d.kept d.logged first.differ agree) c.again.ensures.differs
