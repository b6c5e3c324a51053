-- An actor with all that it created, and that these created, and so on, as a forest.
use Rattle.std.specs.Prelude.{◌≡◌, ℕ, ◌≤◌, List, [], ◌∷◌, ◌++◌, Some, false, ◌⊎◌}
use Rattle.wedge_base.specs.Images.{Image}
use Rattle.wedge_base.specs.Names.{same}
use Rattle.machine.specs.Actors.{root}
use Rattle.machine.specs.Children.{child_name}
use Rattle.machine.specs.Worlds.{ended_with}
use Rattle.thread_laws.specs.Executions.{LearnedEnd, Execution, final_state, final_stamp, IsExecution, Creation, creations}
use Rattle.thread_laws.specs.Merging.{AreExecutions}

-- a forest: the execution of an actor, the forest of those that it created, in the order of creation,
-- and then the next tree beside it
pub data Forest : Type 0 where
  nobody : Forest
  someone : Execution → Forest → Forest → Forest

-- all executions: an actor's before those of all that it created
abbrev pub executions : Forest → List Execution
executions nobody = []
executions (someone l its next) = l ∷ (executions its ++ executions next)

-- what an actor of this name learned is how this execution ended
pub record IsLearnedBy (i : Image) (name : List ℕ) (t : LearnedEnd) (l : Execution) : Type 0 where
  pub number : l.began.name ≡ child_name name t.number
  pub ended : ended_with (Some (final_state i l)) ≡ Some (t.how, t.fuel)
  pub stamp : final_stamp l ≤ t.stamp

abbrev pub IsLearnedIn : Image → List ℕ → LearnedEnd → Forest → Type 0
IsLearnedIn i name t nobody = ⊥
IsLearnedIn i name t (someone l its next) = IsLearnedBy i name t l ⊎ IsLearnedIn i name t next

abbrev pub AllLearnedIn : Image → List ℕ → List LearnedEnd → Forest → Type 0
AllLearnedIn i name [] its = Unit {0}
AllLearnedIn i name (t ∷ ts) its = IsLearnedIn i name t its × AllLearnedIn i name ts its

-- the execution of an actor that was created so; what it learned is true of the forest below it
pub record IsTreeOf (i : Image) (b : Creation) (l : Execution) (its : Forest) : Type 0 where
  pub began : l.began ≡ b.began
  pub low : l.low ≡ b.stamp
  pub execution : IsExecution i l
  pub learned : AllLearnedIn i l.began.name l.learned its

-- One execution for each of these creations, in their order, one for each that these created in turn,
-- and no other.
abbrev pub IsForestOf : Image → List Creation → Forest → Type 0
IsForestOf i [] nobody = Unit {0}
IsForestOf i [] (someone l its next) = ⊥
IsForestOf i (b ∷ bs) nobody = ⊥
IsForestOf i (b ∷ bs) (someone l its next) = IsTreeOf i b l its
    × IsForestOf i (creations i l.learned l.began l.entries) its × IsForestOf i bs next

-- the root is created by nobody, at stamp 0
abbrev pub root_creation : Image → Creation
root_creation i = record { began = root i; stamp = 0 }

-- no two have one name
abbrev pub IsNewName : List ℕ → List Execution → Type 0
IsNewName name [] = Unit {0}
IsNewName name (l ∷ ls) = (same l.began.name name ≡ false) × IsNewName name ls

abbrev pub AreApart : List Execution → Type 0
AreApart [] = Unit {0}
AreApart (l ∷ ls) = IsNewName l.began.name ls × AreApart ls

-- The forest of the root holds executions that fit together, each with a name of its own.
pub record IsForestOfRoot (i : Image) (k : Forest) : Type 0 where
  pub executions_ : AreExecutions i (executions k)
  pub apart : AreApart (executions k)

abbrev pub ForestIsExecutions : Type 0
ForestIsExecutions = (i : Image) (k : Forest) → IsForestOf i (root_creation i ∷ []) k
    → IsForestOfRoot i k
