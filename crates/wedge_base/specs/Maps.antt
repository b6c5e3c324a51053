-- Finite maps from numbers, as the list of their entries in the order of the keys.
use Rattle.std.specs.Prelude.{◌≡◌, ℕ, ◌+◌, ◌≤◌, length, Bool, false, ◌||◌, List, [], ◌∷◌, map, Option, is_some, if◌then◌else◌}
use Rattle.std.specs.Option.{option_or}
use Rattle.std.specs.Ordering.{nat_cmp, is_eq}
use Rattle.std.specs.FinMap.{find as find_key, put as put_key}
use Rattle.std.specs.FinMap.Entries.{by_order}

-- the entries of a map, each a key and its value
abbrev pub Map : Type 0 → Type 0
Map X = List (ℕ × X)

-- the value at a key
abbrev pub at : {X : Type 0} → Map X → ℕ → Option X
at m k = find_key nat_cmp k m

abbrev pub has : {X : Type 0} → Map X → ℕ → Bool
has m k = is_some (at m k)

-- the map with a value put at a key, in place of what was there
abbrev pub with : {X : Type 0} → Map X → ℕ → X → Map X
with m k v = put_key nat_cmp k v m

-- how many entries there are after a value is put at a key
abbrev pub length_with : {X : Type 0} → Map X → ℕ → ℕ
length_with m k = if has m k then length m else length m + 1

-- the map with what another has at keys that it lacks
abbrev pub map_union : {X : Type 0} → Map X → Map X → Map X
map_union m [] = m
map_union m (e ∷ es) = map_union (if has m e.0 then m else with m e.0 e.1) es

-- at each key a map has what the first of two has, else what the second has
abbrev pub AreJoined : {X : Type 0} → Map X → Map X → Map X → Type 0
AreJoined first second m = (k : ℕ) → at m k ≡ option_or (at first k) (at second k)

-- the keys of a map, in order
abbrev pub keys : {X : Type 0} → Map X → List ℕ
keys m = map (λ e. e.0) m

-- ascending numbers with one more in its place, unless it is there
abbrev pub with_number : List ℕ → ℕ → List ℕ
with_number [] k = k ∷ []
with_number (n ∷ ns) k = by_order (nat_cmp k n) (k ∷ n ∷ ns) (n ∷ ns) (n ∷ with_number ns k)

-- whether a number is among others
abbrev pub is_among : List ℕ → ℕ → Bool
is_among [] k = false
is_among (n ∷ ns) k = is_eq (nat_cmp k n) || is_among ns k

-- the numbers ascend strictly, and the first is at least a given one
abbrev pub AreRising : ℕ → List ℕ → Type 0
AreRising low [] = Unit {0}
AreRising low (n ∷ ns) = (low ≤ n) × AreRising (n + 1) ns
