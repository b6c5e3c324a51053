-- What an audit says of a run on threads.
use Rattle.std.proofs.Common.{◌≡◌, sym, subst}
use Rattle.std.specs.Prelude.{length, Some, None, Result, Ok, Err, IfOk}
use Rattle.wedge_base.specs.declared.errors.NoMemory.{NoMemory}
use Rattle.wedge_base.specs.Images.{Image}
use Rattle.thread_laws.specs.Joining.{AreWalked, AgreeOn, Agrees, IsJournalOfRun, journal_of}
use Rattle.thread_laws.specs.LookUps.{AreCountsOf}
use Rattle.thread_laws.specs.Replaying.{all_histories, Legal}
use Rattle.thread_laws.specs.declared.gathered.Gathered.{Gathered}
use Rattle.thread_laws.proofs.Replaying.{kept_are_legal}
use Rattle.gate_runner.specs.Gathering.{IsGathered}
use Rattle.tag_laws.specs.DeclaredTags.{IsDeclared}
use Rattle.tag_laws.proofs.SlotHistories.{ruled_cells_agree}
use Rattle.run_audit.specs.Audits.{IsAudit}
use Rattle.run_audit.specs.ComparedCells.{DeclaredAgree, IsUndeclared}
use Rattle.run_audit.specs.Differences.{IsFirstDifference}
use Rattle.run_audit.specs.declared.auditing.Audited.{Audited}
use Rattle.run_audit.specs.declared.fault.Difference.{Difference}
use Rattle.audited_run.specs.declared.run.AuditedRun.{AuditedRun}
use Rattle.audited_run.specs.declared.run.Differs.{Differs}
use Rattle.audited_run.specs.AuditedRuns.{IsAudited, IsAuditedRun, IsDiffering}
use Rattle.audited_run.proofs.Journaled.{runs_are_journaled}

-- the slots of declared tags have what was logged of them
pub declared_agree : (i : Image) (g : Gathered) → IsGathered i g → DeclaredAgree g
declared_agree i g left =
    let all = all_histories g in
    subst (λ n. AgreeOn (IsDeclared n) g.logs all) (sym left.declared_) (ruled_cells_agree i (length i.tags) g.logs all (kept_are_legal i all left.kept) left.ruled)

-- where all agree, it is a complete run
pub agreed : (i : Image) (g : Gathered) (a : Audited) → IsGathered i g
    → IsAudit i g.logs (all_histories g) a
    → (AreWalked i g.logs → Legal i (all_histories g) → DeclaredAgree g → IsJournalOfRun i a.journal.entries a.outcome)
    → (AreWalked i g.logs → AreCountsOf a.journal.entries a.outcome.actors a.caches)
    → IsAuditedRun i (record { journal = a.journal; outcome = a.outcome; caches = a.caches; differs = None })
agreed i g a left is run counts =
    let whole = run left.walked (kept_are_legal i (all_histories g) left.kept) (declared_agree i g left) in
    record {
      run = runs_are_journaled i a.journal.entries a.outcome whole;
      made = record {
        gathered = g;
        walked = left.walked;
        of_root = left.of_root;
        kept = left.kept;
        agrees = is.agrees;
        entries_are = is.journal;
        rising = whole.rising;
        outcome_is = is.outcome;
      };
      caches = counts left.walked;
    }

-- where something differs, it is so of a run that is whole and legal
pub differing : (i : Image) (g : Gathered) (d : Difference) → IsGathered i g
    → IsFirstDifference (journal_of g.logs) (all_histories g) d → IsUndeclared (length g.declared) d.cell
    → IsDiffering i (record { gathered = g; disagree = d })
differing i g d left first undeclared = record {
  left = left;
  first = first;
  undeclared = subst (λ n. IsUndeclared n d.cell) left.declared_ undeclared;
}

-- and its audit says so
pub differing_audited : (g : Gathered) (d : Differs) (o : Result AuditedRun NoMemory) → d.gathered ≡ g → (Agrees g.logs (all_histories g) → ⊥) → IfOk o (λ r. r.differs ≡ Some d) → IfOk o (λ r. IsAudited g r.differs)
differing_audited g d (Ok r) same apart is = subst (IsAudited g) (sym is) (same, apart)
differing_audited g d (Err e) same apart is = tt
