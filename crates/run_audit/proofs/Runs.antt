-- An audit of whole executions and legal histories is a run.
use Rattle.std.proofs.Common.{◌≡◌, List, sym, subst}
use Rattle.wedge_base.specs.Images.{Image}
use Rattle.thread_laws.specs.CacheLines.{counts_in}
use Rattle.thread_laws.specs.Joining.{AreWalked, IsJournalOfRun, journal_of, lines_in, logs_in_order, outcome_gathered}
use Rattle.thread_laws.specs.LookUps.{AreCountsOf}
use Rattle.thread_laws.specs.Replaying.{Legal}
use Rattle.thread_laws.specs.declared.gathered.ActorLog.{ActorLog}
use Rattle.thread_laws.specs.declared.gathered.CellHistory.{CellHistory}
use Rattle.thread_laws.proofs.CacheLines.{caches_are_counted}
use Rattle.thread_laws.proofs.Joining.{gathered_is_run}
use Rattle.run_audit.specs.Audits.{IsAudit}
use Rattle.run_audit.specs.declared.auditing.Audited.{Audited}

pub audit_is_run : (i : Image) (logs : List ActorLog) (cells : List CellHistory) (a : Audited) → AreWalked i logs → Legal i cells → IsAudit i logs cells a → IsJournalOfRun i a.journal.entries a.outcome
audit_is_run i logs cells a walked legal h =
    subst (λ es. IsJournalOfRun i es a.outcome) (sym h.journal) (subst (λ o. IsJournalOfRun i (journal_of logs) o) (sym h.outcome) (gathered_is_run i logs cells walked legal h.agrees))

-- and the counts of its caches are those for the entries of its journal
pub audit_counts : (i : Image) (logs : List ActorLog) (cells : List CellHistory) (a : Audited) → AreWalked i logs → a.journal.entries ≡ journal_of logs → a.outcome ≡ outcome_gathered i logs cells → a.caches ≡ counts_in i logs
    → AreCountsOf a.journal.entries a.outcome.actors a.caches
audit_counts i logs cells a walked journal outcome caches =
    subst (λ es. AreCountsOf es a.outcome.actors a.caches) (sym journal)
    (subst (λ o. AreCountsOf (journal_of logs) o.actors a.caches) (sym outcome)
    (subst (λ cs. AreCountsOf (journal_of logs) (lines_in i (logs_in_order logs)) cs) (sym caches) (caches_are_counted i logs walked)))
