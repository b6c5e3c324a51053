-- What holds of executions and histories that fit together.
use Rattle.std.specs.Prelude.{◌≡◌, ℕ, true, List, ◌∷◌, map, Some, None}
use Rattle.wedge_base.specs.Images.{Image}
use Rattle.wedge_base.specs.Names.{root_name}
use Rattle.wedge_events.specs.declared.events.CellName.{CellName}
use Rattle.wedge_events.specs.Journals.{turns_of}
use Rattle.wedge_events.specs.declared.events.LogEntry.{LogEntry}
use Rattle.machine.specs.Worlds.{WorldState, initial_state, actor_named, Runs, is_complete}
use Rattle.thread_laws.specs.Histories.{entries_on, left_by_history, AreAlike}
use Rattle.thread_laws.specs.Executions.{Execution, final_state, names_begun}
use Rattle.thread_laws.specs.Merging.{AreExecutions, IsMerge, AreLegal, execution_named}

-- The entries are a complete run. After it each actor is as its execution left it, there is no other,
-- they are listed in the order of their creation, and each cell is as its history left it.
pub record IsRunOfExecutions (i : Image) (ls : List Execution) (es : List LogEntry) : Type 0 where
  pub last : WorldState
  pub run : Runs (initial_state i) (turns_of es) last
  pub complete : is_complete last ≡ true
  pub actors : (name : List ℕ) (l : Execution) → execution_named ls name ≡ Some l
      → actor_named last.actors name ≡ Some (final_state i l)
  pub others : (name : List ℕ) → execution_named ls name ≡ None
      → actor_named last.actors name ≡ None
  pub names : map (λ a. a.name) last.actors ≡ root_name ∷ names_begun es
  pub image : last.image ≡ i
  pub cells : (name : CellName) → AreAlike name last.cells (left_by_history i (entries_on name es))

-- Where executions fit together, their entries in the order of their stamps are a run, if those of
-- each cell are a legal history of it.
abbrev pub ExecutionsAreARun : Type 0
ExecutionsAreARun = (i : Image) (ls : List Execution) (es : List LogEntry) → AreExecutions i ls
    → IsMerge ls es → AreLegal i es → IsRunOfExecutions i ls es
