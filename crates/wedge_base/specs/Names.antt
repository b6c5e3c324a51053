-- Names of actors.
use Rattle.std.specs.Prelude.{ℕ, ◌==◌, ◌&&◌, nat_lt, Bool, false, List, [], ◌∷◌, length}
use Rattle.std.specs.Cmp.Lexicographic.{pointwise}
use Rattle.std.specs.List.{list_all}

-- whether two names are the same, part by part
abbrev pub same : List ℕ → List ℕ → Bool
same xs ys = pointwise ◌==◌ xs ys

-- the name of the root
abbrev pub root_name : List ℕ
root_name = 0 ∷ []

-- the most parts of a name
abbrev pub most_parts : ℕ
most_parts = 32

-- whether numbers are the parts of a name: 0, and then numbers from 1, at most 32 in all
abbrev pub is_actor_name : List ℕ → Bool
is_actor_name [] = false
is_actor_name (first ∷ others) = (first == 0) && (list_all (nat_lt 0) others && nat_lt (length others) most_parts)
