-- Where the actor of a name is among actors, and a map by names that says so.
use Rattle.std.specs.Prelude.{◌≡◌, ℕ, ◌+◌, List, [], ◌∷◌, Option, Some, None, option_map, if◌then◌else◌}
use Rattle.std.specs.Global.{Vec}
use Rattle.std.specs.HashMap.{HashMap, get_by}
use Rattle.wedge_base.specs.Names.{same}
use Rattle.machine.specs.Actors.{ActorState}

-- the index of the first actor of a name
abbrev pub index_in : List ActorState → List ℕ → Option ℕ
index_in [] name = None
index_in (a ∷ as_) name = if same a.name name then Some 0 else option_map (λ n. n + 1) (index_in as_ name)

module _ {S : Type 0} where
  -- what a map from the parts of names has for a name
  abbrev pub index_by : HashMap (Vec ℕ) ℕ S → List ℕ → Option ℕ
  index_by by_name name = get_by (λ k. same name k.items) by_name

  -- a map has the index of the first actor of each name
  abbrev pub IsNameMap : HashMap (Vec ℕ) ℕ S → List ActorState → Type 0
  IsNameMap by_name actors = (name : List ℕ) → index_by by_name name ≡ index_in actors name
