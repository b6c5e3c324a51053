-- What a directory keeps: a table of the slots that are claimed, and room to release each of them.
use Rattle.std.specs.Prelude.{◌≡◌, ℕ, ◌+◌, ◌<◌, ◌≤◌, Bool, true, false, not, ◌&&◌, List, [], ◌∷◌, length, sum_by, slice_index_or, nat_lt}
use Rattle.wedge_events.specs.Directories.{contains_place}

-- slots that are released: each below a limit, and each once
abbrev pub AreReleasedBelow : ℕ → List ℕ → Type 0
AreReleasedBelow limit [] = Unit {0}
AreReleasedBelow limit (p ∷ ps) = (p < limit) × (contains_place ps p ≡ false) × AreReleasedBelow limit ps

-- a slot that is claimed counts one
abbrev pub weight : Bool → ℕ
weight true = 1
weight false = 0

-- What the type keeps: `table` says of each slot once used whether it is claimed, and there is room
-- to release every claimed one.
pub record IsAllocatorState (places unused room : ℕ) (released : List ℕ) (table : List Bool) : Type 0 where
  pub within : unused ≤ places
  pub roomy : unused ≤ room
  pub apart : AreReleasedBelow unused released
  pub sized : length table ≡ unused
  pub claims : (place : ℕ) → slice_index_or table place false ≡ (nat_lt place unused && not (contains_place released place))
  pub counted : length released + sum_by weight table ≡ unused
