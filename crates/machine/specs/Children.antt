-- The actors that an actor began and has not joined: children, and the run of a gate for which it
-- waits. Each by its number, in order, with the fuel with which it began.
use Rattle.std.specs.Prelude.{ℕ, ◌+◌, Bool, not, List, [], ◌∷◌, ◌++◌, Option, Some, None, is_some}
use Rattle.std.specs.BTreeMap.{insert_entry, is_at}
use Rattle.std.specs.List.{filter}
use Rattle.std.specs.Map.{lookup}
use Rattle.std.specs.Ordering.{nat_cmp}

abbrev pub Children : Type 0
Children = List (ℕ × ℕ)

-- whether two numbers are equal
abbrev pub is_number : ℕ → ℕ → Bool
is_number k n = is_at (nat_cmp k) n

-- the fuel with which one began, if it is among them
abbrev pub fuel_given : Children → ℕ → Option ℕ
fuel_given cs k = lookup (is_number k) cs

abbrev pub is_child : Children → ℕ → Bool
is_child cs k = is_some (fuel_given cs k)

-- the least number among them
abbrev pub least_child : Children → Option ℕ
least_child [] = None
least_child (c ∷ cs) = Some c.0

-- one more, inserted by its number, and those without one
abbrev pub with_child : Children → ℕ → ℕ → Children
with_child cs k fuel = insert_entry nat_cmp cs k fuel

abbrev pub without_child : Children → ℕ → Children
without_child cs k = filter (λ c. not (is_number k c.0)) cs

-- the fuel with which they all began
abbrev pub all_given : Children → ℕ
all_given [] = 0
all_given (c ∷ cs) = c.1 + all_given cs

-- the name of the k-th actor that the actor of a name starts
abbrev pub child_name : List ℕ → ℕ → List ℕ
child_name name k = name ++ k ∷ []
