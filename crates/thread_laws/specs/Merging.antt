-- Executions that fit together, and their entries in one list.
use Rattle.std.specs.Prelude.{◌≡◌, ℕ, ◌≤◌, List, [], ◌∷◌, Option, Some, None, find, ◌⊎◌}
use Rattle.wedge_base.specs.Images.{Image}
use Rattle.wedge_base.specs.Names.{same, root_name}
use Rattle.wedge_events.specs.declared.events.CellName.{CellName}
use Rattle.wedge_events.specs.declared.events.LogEntry.{LogEntry}
use Rattle.machine.specs.Actors.{root}
use Rattle.machine.specs.Children.{child_name}
use Rattle.run_laws.specs.Walks.{entries_of}
use Rattle.machine.specs.Worlds.{ended_with}
use Rattle.thread_laws.specs.Executions.{LearnedEnd, learned_of, Execution, final_state, final_stamp, IsExecution, name_begun, Creation, creations}
use Rattle.thread_laws.specs.Histories.{IsLegal, entries_on}

-- the execution of the actor of a name, and its entries
abbrev pub execution_named : List Execution → List ℕ → Option Execution
execution_named ls name = find (λ l. same l.began.name name) ls

abbrev pub entries_in_execution : Option Execution → List LogEntry
entries_in_execution None = []
entries_in_execution (Some l) = l.entries

-- what was learned of the actor of this name is how its execution ended
pub record IsLearnedOf (i : Image) (ls : List Execution) (name : List ℕ) (t : LearnedEnd) : Type 0 where
  pub execution : Execution
  pub there : execution_named ls name ≡ Some execution
  pub ended : ended_with (Some (final_state i execution)) ≡ Some (t.how, t.fuel)
  pub stamp : final_stamp execution ≤ t.stamp

-- an actor that was created has an execution, which began so
pub record HasExecution (ls : List Execution) (b : Creation) : Type 0 where
  pub execution : Execution
  pub there : execution_named ls b.began.name ≡ Some execution
  pub began : execution.began ≡ b.began
  pub low : execution.low ≡ b.stamp

abbrev pub AllHaveExecutions : List Execution → List Creation → Type 0
AllHaveExecutions ls [] = Unit {0}
AllHaveExecutions ls (b ∷ bs) = HasExecution ls b × AllHaveExecutions ls bs

-- one of these entries creates the actor of this name, at this stamp
abbrev pub IsNamedBy : List ℕ → ℕ → List LogEntry → Type 0
IsNamedBy name low [] = ⊥
IsNamedBy name low (e ∷ es) =
    ((name_begun e.event ≡ Some name) × (e.stamp ≡ low)) ⊎ IsNamedBy name low es

-- some actor creates the one of this name, at this stamp
pub record IsCreated (ls : List Execution) (name : List ℕ) (low : ℕ) : Type 0 where
  pub parent : List ℕ
  pub execution : Execution
  pub there : execution_named ls parent ≡ Some execution
  pub entry : IsNamedBy name low execution.entries

-- the root begins as the image says, at stamp 0
pub record IsRootExecution (i : Image) (l : Execution) : Type 0 where
  pub began : l.began ≡ root i
  pub low : l.low ≡ 0

-- The executions of all actors of a run: that of the root, one for each actor that one of them created,
-- and no other. Each is all that its actor did, and what the actor learned is true.
pub record AreExecutions (i : Image) (ls : List Execution) : Type 0 where
  pub root_ : Execution
  pub root_there : execution_named ls root_name ≡ Some root_
  pub root_begins : IsRootExecution i root_
  pub each : (name : List ℕ) (l : Execution) → execution_named ls name ≡ Some l → IsExecution i l
  pub learned : (name : List ℕ) (l : Execution) → execution_named ls name ≡ Some l
      → (k : ℕ) (t : LearnedEnd) → learned_of l.learned k ≡ Some t
      → IsLearnedOf i ls (child_name name k) t
  pub begun : (name : List ℕ) (l : Execution) → execution_named ls name ≡ Some l
      → AllHaveExecutions ls (creations i l.learned l.began l.entries)
  pub origin : (name : List ℕ) (l : Execution) → execution_named ls name ≡ Some l
      → IsRootExecution i l ⊎ IsCreated ls name l.low

-- stamps never fall
abbrev pub IsBelowAll : ℕ → List LogEntry → Type 0
IsBelowAll stamp [] = Unit {0}
IsBelowAll stamp (e ∷ es) = (stamp ≤ e.stamp) × IsBelowAll stamp es

abbrev pub IsNondecreasing : List LogEntry → Type 0
IsNondecreasing [] = Unit {0}
IsNondecreasing (e ∷ es) = IsBelowAll e.stamp es × IsNondecreasing es

-- the entries of all executions in one list, in the order of their stamps
pub record IsMerge (ls : List Execution) (es : List LogEntry) : Type 0 where
  pub rising : IsNondecreasing es
  pub each : (name : List ℕ) → entries_of name es ≡ entries_in_execution (execution_named ls name)

-- the entries of each cell are a legal history of it
abbrev pub AreLegal : Image → List LogEntry → Type 0
AreLegal i es = (name : CellName) → IsLegal i name (entries_on name es)
