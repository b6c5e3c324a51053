-- What an audit returns.
use Rattle.std.specs.Prelude.{◌≡◌, List, length}
use Rattle.wedge_base.specs.Images.{Image}
use Rattle.thread_laws.specs.CacheLines.{counts_in}
use Rattle.thread_laws.specs.Joining.{journal_of, AgreeOn, Agrees, outcome_gathered}
use Rattle.thread_laws.specs.Replaying.{all_histories}
use Rattle.thread_laws.specs.declared.gathered.ActorLog.{ActorLog}
use Rattle.thread_laws.specs.declared.gathered.CellHistory.{CellHistory}
use Rattle.thread_laws.specs.declared.gathered.Gathered.{Gathered}
use Rattle.run_audit.specs.ComparedCells.{IsUndeclared}
use Rattle.run_audit.specs.declared.auditing.Audited.{Audited}
use Rattle.run_audit.specs.declared.auditing.Compared.{Compared}

-- logs and histories agree for every cell, the journal is all that was logged, in order, the
-- outcome is the one that is read off both, and the counts of caches are those of the logs
pub record IsAudit (i : Image) (logs : List ActorLog) (cells : List CellHistory) (a : Audited)
    : Type 0 where
  pub agrees : Agrees logs cells
  pub journal : a.journal.entries ≡ journal_of logs
  pub outcome : a.outcome ≡ outcome_gathered i logs cells
  pub caches : a.caches ≡ counts_in i logs

-- logs and histories agree for every cell that is compared, the outcome is the one that is read off
-- both, and the counts of caches are those of the logs
pub record IsCompared (i : Image) (g : Gathered) (c : Compared) : Type 0 where
  pub agree : AgreeOn (IsUndeclared (length g.declared)) g.logs (all_histories g)
  pub outcome : c.outcome ≡ outcome_gathered i g.logs (all_histories g)
  pub caches : c.caches ≡ counts_in i g.logs
