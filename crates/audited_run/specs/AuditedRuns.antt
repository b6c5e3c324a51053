-- A run of an image: on threads, or, where what these left differs, made again on one.
use Rattle.std.specs.Prelude.{◌≡◌, List, [], length, Option, Some, None}
use Rattle.wedge_base.specs.Images.{Image}
use Rattle.wedge_base.specs.declared.outcome.ActorLine.{ActorLine}
use Rattle.wedge_base.specs.declared.outcome.Outcome.{Outcome}
use Rattle.wedge_events.specs.Journals.{turns_of}
use Rattle.wedge_events.specs.declared.events.LogEntry.{LogEntry}
use Rattle.machine.specs.Worlds.{initial_state}
use Rattle.run_laws.specs.CompleteRuns.{IsJournaledRun}
use Rattle.world_turns.specs.Progress.{IsStampedByIndex}
use Rattle.wedge_core.specs.Serial.{InSerialOrder}
use Rattle.grant_cache.specs.declared.count.CacheLine.{CacheLine}
use Rattle.thread_laws.specs.Joining.{AreWalked, Agrees, journal_of, outcome_gathered}
use Rattle.thread_laws.specs.LookUps.{AreCountsOf}
use Rattle.thread_laws.specs.Merging.{IsNondecreasing}
use Rattle.thread_laws.specs.Replaying.{all_histories, AreLegalHistories}
use Rattle.thread_laws.specs.declared.gathered.Gathered.{Gathered}
use Rattle.gate_runner.specs.Gathering.{IsGathered, IsOfRoot}
use Rattle.run_audit.specs.ComparedCells.{IsUndeclared}
use Rattle.run_audit.specs.Differences.{IsFirstDifference}
use Rattle.audited_run.specs.declared.run.AuditedRun.{AuditedRun}
use Rattle.audited_run.specs.declared.run.Differs.{Differs}

-- Entries and outcome are what threads left: logs of whole executions, one for each actor and no other, with the stamps
-- of their clocks, and the histories that locked cells kept. The entries are all that was logged, in the order of stamps
-- and names; of each cell they are its history; and the outcome is read off both.
pub record IsOfThreads (i : Image) (entries : List LogEntry) (outcome : Outcome) : Type 0 where
  pub gathered : Gathered
  pub walked : AreWalked i gathered.logs
  pub of_root : IsOfRoot i gathered.logs
  pub kept : AreLegalHistories i (all_histories gathered)
  pub agrees : Agrees gathered.logs (all_histories gathered)
  pub entries_are : entries ≡ journal_of gathered.logs
  pub rising : IsNondecreasing entries
  pub outcome_is : outcome ≡ outcome_gathered i gathered.logs (all_histories gathered)

-- What threads left, where the history of a cell differs from the entries of that cell that they logged: it is what a
-- run of the image leaves, the cell is the first of which this holds, and the entries are the first of its that differ.
-- It is not the slot of a declared tag.
pub record IsDiffering (i : Image) (d : Differs) : Type 0 where
  pub left : IsGathered i d.gathered
  pub first : IsFirstDifference (journal_of d.gathered.logs) (all_histories d.gathered) d.disagree
  pub undeclared : IsUndeclared (length i.tags) d.disagree.cell

-- Each turn was that of the actor that was started last and had not ended; the stamp of an entry is its index, from 1.
pub record IsInSerialOrder (i : Image) (entries : List LogEntry) : Type 0 where
  pub order : InSerialOrder (initial_state i) (turns_of entries)
  pub stamps : IsStampedByIndex entries

-- how the entries of a run came about, by what differed
abbrev pub IsMadeSo : Image → Option Differs → List LogEntry → Outcome → Type 0
IsMadeSo i None entries outcome = IsOfThreads i entries outcome
IsMadeSo i (Some d) entries outcome = IsDiffering i d × IsInSerialOrder i entries

-- The counts of the caches of rights are those of each actor of a run on threads, for its entries in the
-- journal; a run on one thread has no caches.
abbrev pub AreCachesOf : Option Differs → List LogEntry → List ActorLine → List CacheLine → Type 0
AreCachesOf None entries actors caches = AreCountsOf entries actors caches
AreCachesOf (Some d) entries actors caches = caches ≡ []

-- a complete run of the image, with its journal, its outcome and the counts of its caches
pub record IsAuditedRun (i : Image) (r : AuditedRun) : Type 0 where
  pub run : IsJournaledRun i r.journal.entries r.outcome
  pub made : IsMadeSo i r.differs r.journal.entries r.outcome
  pub caches : AreCachesOf r.differs r.journal.entries r.outcome.actors r.caches

-- something differs exactly where logs and histories do not agree, and then it is these that differ
abbrev pub IsAudited : Gathered → Option Differs → Type 0
IsAudited g None = Agrees g.logs (all_histories g)
IsAudited g (Some d) = (d.gathered ≡ g) × (Agrees g.logs (all_histories g) → ⊥)
