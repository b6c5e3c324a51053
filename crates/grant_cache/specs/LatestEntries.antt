-- The entry that is kept beside a cache.
use Rattle.std.specs.Prelude.{◌≡◌, ℕ, List, slice_get, Option, Some, None}
use Rattle.wedge_base.specs.declared.rights.Right.{Right}
use Rattle.grant_cache.specs.declared.cache.Latest.{Latest}

-- if there is one, it is the first
abbrev pub IsLatestOf : List (ℕ × Option Right) → Option Latest → Type 0
IsLatestOf es None = Unit {0}
IsLatestOf es (Some e) = slice_get es 0 ≡ Some (e.tag, e.right)
