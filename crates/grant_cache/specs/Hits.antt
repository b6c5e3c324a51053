-- What look-ups of tags, one after another, make of a cache: which tags it has, and how many look-ups
-- are hits.
use Rattle.std.specs.Prelude.{◌≡◌, ℕ, ◌+◌, ◌≤◌, List, [], ◌∷◌, length, take, reverse, nat_eq, if◌then◌else◌, Option}
use Rattle.std.specs.List.{list_any}
use Rattle.std.specs.Map.{keys_of}
use Rattle.wedge_base.specs.declared.rights.Right.{Right}
use Rattle.grant_cache.specs.Caches.{Cache, IsLookedUp, empty_cache}

-- the cache after the look-up of a tag on which a sheet gives some right, or none
abbrev pub IsLookUpOf : ℕ → Cache → Cache → Type 0
IsLookUpOf tag old new = (given : Option Right) × IsLookedUp given tag old new

-- the cache after look-ups of these tags, one after another
abbrev pub AreLookedUp : List ℕ → Cache → Cache → Type 0
AreLookedUp [] old new = new ≡ old
AreLookedUp (t ∷ ts) old new = (c : Cache) × IsLookUpOf t old c × AreLookedUp ts c new

-- tags without the first that is this one
abbrev pub without_tag : ℕ → List ℕ → List ℕ
without_tag tag [] = []
without_tag tag (t ∷ ts) = if nat_eq tag t then ts else t ∷ without_tag tag ts

-- the distinct tags of a list, each where it is listed first
abbrev pub distinct_tags : List ℕ → List ℕ
distinct_tags [] = []
distinct_tags (t ∷ ts) = t ∷ without_tag t (distinct_tags ts)

-- the tags that a cache of capacity n has after look-ups of these, the latest first
abbrev pub latest_tags : ℕ → List ℕ → List ℕ
latest_tags n tags = take n (distinct_tags tags)

-- of tags, the latest first, how many are among the first n distinct ones of those before them
abbrev pub hits_back : ℕ → List ℕ → ℕ
hits_back n [] = 0
hits_back n (t ∷ ts) = hits_back n ts + (if list_any (nat_eq t) (latest_tags n ts) then 1 else 0)

-- of tags in the order of their look-ups, how many a cache of capacity n finds
abbrev pub hits : ℕ → List ℕ → ℕ
hits n tags = hits_back n (reverse tags)

-- where no entry was refused: the cached tags are the distinct ones that were looked up, the latest
-- first, up to the capacity; and the hits are those of an unlimited memory
pub record IsExact (tags : List ℕ) (c : Cache) : Type 0 where
  pub entries : keys_of c.entries ≡ latest_tags c.capacity (reverse tags)
  pub hits : c.count.hits ≡ hits c.capacity tags

-- a cache that was empty, after look-ups of these tags in their order
pub record IsAfter (tags : List ℕ) (c : Cache) : Type 0 where
  pub made : AreLookedUp tags (empty_cache c.capacity) c
  pub lookups : c.count.lookups ≡ length tags
  pub refused : c.count.hits + c.count.refused ≤ c.count.lookups
  pub exact : c.count.refused ≡ 0 → IsExact tags c
