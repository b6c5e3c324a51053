-- A cache of the rights that a sheet gives on tags, and what the look-up of a tag makes of it.
use Rattle.std.specs.Prelude.{◌≡◌, ℕ, ◌+◌, ◌-◌, ◌⊎◌, Bool, true, false, List, [], ◌∷◌, take, Option, option_map, is_some, nat_eq}
use Rattle.std.specs.Map.{lookup}
use Rattle.lru.specs.LruCache.{promoted}
use Rattle.wedge_base.specs.Maps.{at}
use Rattle.wedge_base.specs.Sheets.{Sheet}
use Rattle.wedge_base.specs.declared.rights.Right.{Right}
use Rattle.grant_cache.specs.declared.count.CacheCount.{CacheCount}

-- tags, the most recently used first, each with the right that the sheet gives on it, if any; how
-- many there may be; and the counts of the look-ups
pub record Cache : Type 0 where
  pub entries : List (ℕ × Option Right)
  pub capacity : ℕ
  pub count : CacheCount

-- the most tags in the cache of an actor
abbrev pub cache_capacity : ℕ
cache_capacity = 8

abbrev pub zero_count : CacheCount
zero_count = record { lookups = 0; hits = 0; refused = 0 }

abbrev pub empty_cache : ℕ → Cache
empty_cache n = record { entries = []; capacity = n; count = zero_count }

-- the right that a sheet itself gives on a tag, if any
abbrev pub sheet_right : Sheet → ℕ → Option Right
sheet_right s tag = option_map (λ g. g.right) (at s.tags tag)

-- each entry has the right that this sheet gives on its tag
abbrev pub HaveRights : Sheet → List (ℕ × Option Right) → Type 0
HaveRights s [] = Unit {0}
HaveRights s (e ∷ es) = (e.1 ≡ sheet_right s e.0) × HaveRights s es

abbrev pub IsCacheOf : Sheet → Cache → Type 0
IsCacheOf s c = HaveRights s c.entries

abbrev pub is_cached : ℕ → Cache → Bool
is_cached tag c = is_some (lookup (nat_eq tag) c.entries)

-- after the look-up of a tag that is cached: its entry is the first
abbrev pub after_hit : ℕ → Cache → Cache
after_hit tag c = record {
  entries = promoted (nat_eq tag) c.entries;
  capacity = c.capacity;
  count = record {
    lookups = c.count.lookups + 1;
    hits = c.count.hits + 1;
    refused = c.count.refused;
  };
}

-- after the look-up of a tag that is not cached: it is put first, and the last of a full cache is
-- evicted
abbrev pub after_put : Option Right → ℕ → Cache → Cache
after_put given tag c = record {
  entries = (tag, given) ∷ take (c.capacity - 1) c.entries;
  capacity = c.capacity;
  count = record {
    lookups = c.count.lookups + 1;
    hits = c.count.hits;
    refused = c.count.refused;
  };
}

-- after the look-up of a tag that is not cached, where there is no memory for its entry
abbrev pub after_refusal : Cache → Cache
after_refusal c = record {
  entries = c.entries;
  capacity = c.capacity;
  count = record {
    lookups = c.count.lookups + 1;
    hits = c.count.hits;
    refused = c.count.refused + 1;
  };
}

-- the cache after the look-up of a tag on which the sheet gives this right
pub record IsLookedUp (given : Option Right) (tag : ℕ) (old new : Cache) : Type 0 where
  pub found : is_cached tag old ≡ true → new ≡ after_hit tag old
  pub missed : is_cached tag old ≡ false → (new ≡ after_put given tag old) ⊎ (new ≡ after_refusal old)
