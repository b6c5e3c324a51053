-- What a run on threads leaves: the logs of its actors, and the histories of its cells.
use Rattle.std.specs.Prelude.{◌≡◌, ℕ, zero, suc, ◌+◌, true, false, List, [], ◌∷◌, ◌++◌, length, find, Option, Some, None}
use Rattle.wedge_base.specs.Images.{Image, procedure_name}
use Rattle.wedge_base.specs.Names.{same, root_name}
use Rattle.wedge_base.specs.declared.outcome.ActorLine.{ActorLine}
use Rattle.wedge_base.specs.declared.outcome.Outcome.{Outcome}
use Rattle.wedge_events.specs.Journals.{turns_of}
use Rattle.wedge_events.specs.Streams.{Stream}
use Rattle.wedge_events.specs.declared.events.CellName.{CellName}
use Rattle.wedge_events.specs.declared.events.CellName.TheVariants as cell
use Rattle.wedge_events.specs.declared.events.LogEntry.{LogEntry}
use Rattle.machine.specs.declared.opening.StreamLabel.{StreamLabel}
use Rattle.machine.specs.declared.phase.Phase.TheVariants as phase
use Rattle.machine.specs.Actors.{ActorState, root}
use Rattle.machine.specs.Cells.{opening_cells, stream_in}
use Rattle.run_laws.specs.Moments.{EachTurn}
use Rattle.machine.specs.Outcomes.{with_line, streams_of, outcome_of}
use Rattle.machine.specs.Worlds.{WorldState, initial_state, Runs, is_complete}
use Rattle.thread_laws.specs.Histories.{entries_on, left_by_history}
use Rattle.thread_laws.specs.Forests.{Forest, nobody, someone, executions, IsForestOf}
use Rattle.thread_laws.specs.Executions.{Execution, final_state, names_begun}
use Rattle.thread_laws.specs.LookUps.{IsCounted}
use Rattle.thread_laws.specs.Merging.{IsNondecreasing}
use Rattle.thread_laws.specs.Replaying.{history_of, Legal}
use Rattle.thread_laws.specs.Sorting.{in_order}
use Rattle.thread_laws.specs.declared.gathered.ActorLog.{ActorLog}
use Rattle.thread_laws.specs.declared.gathered.CellHistory.{CellHistory}

-- ---- logs

-- a log says how an actor ended, and has the counts of its cache for the entries of the log
pub record IsEndOf (a : ActorState) (g : ActorLog) : Type 0 where
  pub ended : a.phase ≡ phase.Ended g.end
  pub name : g.name ≡ a.name
  pub compartment : g.compartment ≡ a.compartment
  pub pc : g.pc ≡ a.hart.pc
  pub fuel : g.fuel ≡ a.fuel
  pub denials : g.denials ≡ a.denials
  pub labels : g.labels ≡ a.labels
  pub counted : IsCounted g.entries g.cache

-- the log of an execution
pub record IsExecutionLog (i : Image) (l : Execution) (g : ActorLog) : Type 0 where
  pub entries : g.entries ≡ l.entries
  pub end_ : IsEndOf (final_state i l) g

abbrev pub AreLogs : Image → List Execution → List ActorLog → Type 0
AreLogs i [] [] = Unit {0}
AreLogs i [] (g ∷ gs) = ⊥
AreLogs i (l ∷ ls) [] = ⊥
AreLogs i (l ∷ ls) (g ∷ gs) = IsExecutionLog i l g × AreLogs i ls gs

-- The logs of an actor that began so at a stamp, of all that it created, and that these created: each
-- is the log of a whole execution, there is one for each of them and no other, and what an actor
-- learned of another is how that one ended.
pub record IsFamily (i : Image) (a : ActorState) (low : ℕ) (logs : List ActorLog) : Type 0 where
  pub own : Execution
  pub its : Forest
  pub forest : IsForestOf i (record { began = a; stamp = low } ∷ []) (someone own its nobody)
  pub logs_ : AreLogs i (executions (someone own its nobody)) logs

-- all logs of a run
abbrev pub AreWalked : Image → List ActorLog → Type 0
AreWalked i logs = IsFamily i (root i) 0 logs

abbrev pub all_logged : List ActorLog → List LogEntry
all_logged [] = []
all_logged (g ∷ gs) = g.entries ++ all_logged gs

-- the journal: all logged entries in the order of their stamps, those of one stamp by the names of
-- their actors
abbrev pub journal_of : List ActorLog → List LogEntry
journal_of logs = in_order (all_logged logs)

-- ---- histories

-- the history of each of these cells is what the journal has of it
abbrev pub AgreeOn : (CellName → Type 0) → List ActorLog → List CellHistory → Type 0
AgreeOn compared logs cells =
    (name : CellName) → compared name → history_of cells name ≡ entries_on name (journal_of logs)

-- the cells whose histories are compared with the journal: all of them
abbrev pub IsAnyCell : CellName → Type 0
IsAnyCell name = Unit {0}

abbrev pub Agrees : List ActorLog → List CellHistory → Type 0
Agrees logs cells = AgreeOn IsAnyCell logs cells

-- ---- the outcome, read off the logs and the histories

abbrev pub log_named : List ActorLog → List ℕ → Option ActorLog
log_named logs name = find (λ g. same g.name name) logs

abbrev pub with_log : Option ActorLog → List ActorLog → List ActorLog
with_log None gs = gs
with_log (Some g) gs = g ∷ gs

abbrev pub logs_named : List ActorLog → List (List ℕ) → List ActorLog
logs_named logs [] = []
logs_named logs (n ∷ ns) = with_log (log_named logs n) (logs_named logs ns)

-- the logs in the order in which their actors were created
abbrev pub logs_in_order : List ActorLog → List ActorLog
logs_in_order logs = logs_named logs (root_name ∷ names_begun (journal_of logs))

-- the line of an actor, and those of all, by their names
abbrev pub line_in : Image → ActorLog → ActorLine
line_in i g =
    record {
      name = g.name;
      compartment = procedure_name i g.compartment;
      end = g.end;
      pc = g.pc;
      fuel = g.fuel;
      denials = g.denials;
    }

abbrev pub lines_in : Image → List ActorLog → List ActorLine
lines_in i [] = []
lines_in i (g ∷ gs) = with_line (line_in i g) (lines_in i gs)

abbrev pub labels_in : List ActorLog → List StreamLabel
labels_in [] = []
labels_in (g ∷ gs) = g.labels ++ labels_in gs

-- the stream of a descriptor as its history leaves it, and those of so many, from a number on
abbrev pub stream_left : Image → List CellHistory → ℕ → Option Stream
stream_left i cells fd = stream_in (left_by_history i (history_of cells (cell.Fd fd))) fd

abbrev pub streams_from : Image → List CellHistory → ℕ → ℕ → List (Option Stream)
streams_from i cells zero fd = []
streams_from i cells (suc n) fd = stream_left i cells fd ∷ streams_from i cells n (fd + 1)

abbrev pub streams_left : Image → List CellHistory → List (Option Stream)
streams_left i cells = streams_from i cells (length (opening_cells i).streams) 0

abbrev pub outcome_gathered : Image → List ActorLog → List CellHistory → Outcome
outcome_gathered i logs cells = record {
  actors = lines_in i (logs_in_order logs);
  streams = streams_of i (labels_in (logs_in_order logs)) 0 (streams_left i cells);
}

-- ---- the theorem

-- the journal is a complete run of the image, up to the end of its root, in the order of its stamps,
-- with this outcome
pub record IsJournalOfRun (i : Image) (journal : List LogEntry) (outcome : Outcome) : Type 0 where
  pub last : WorldState
  pub run : Runs (initial_state i) (turns_of journal) last
  pub complete : is_complete last ≡ true
  pub rising : IsNondecreasing journal
  pub goes_on : EachTurn (λ old t new. is_complete old ≡ false) (initial_state i) (turns_of journal)
  pub ends : outcome ≡ outcome_of last

-- Where the logs are walked, the histories are legal and both agree, the journal is a complete run.
abbrev pub GatheredIsRun : Type 0
GatheredIsRun = (i : Image) (logs : List ActorLog) (cells : List CellHistory) → AreWalked i logs
    → Legal i cells → Agrees logs cells
    → IsJournalOfRun i (journal_of logs) (outcome_gathered i logs cells)
