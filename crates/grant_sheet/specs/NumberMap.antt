-- Where a key is in a map, and where it would be inserted.
use Rattle.std.specs.Prelude.{◌≡◌, ℕ, zero, suc, ◌<◌, [], ◌∷◌}
use Rattle.wedge_base.specs.Maps.{Map}

-- the entry at a position has the key, and those before it have smaller ones
abbrev pub IsFound : {X : Type 0} → Map X → ℕ → ℕ → Type 0
IsFound [] k i = ⊥
IsFound (e ∷ es) k zero = e.0 ≡ k
IsFound (e ∷ es) k (suc i) = (e.0 < k) × IsFound es k i

-- the entries before a position have smaller keys, and the next one a greater key
abbrev pub IsGap : {X : Type 0} → Map X → ℕ → ℕ → Type 0
IsGap [] k zero = Unit {0}
IsGap [] k (suc i) = ⊥
IsGap (e ∷ es) k zero = k < e.0
IsGap (e ∷ es) k (suc i) = (e.0 < k) × IsGap es k i
