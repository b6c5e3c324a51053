-- The tags that an actor looks up in its cache, and what the counts of that cache say of them.
use Rattle.std.specs.Prelude.{◌≡◌, ℕ, ◌+◌, ◌≤◌, List, [], ◌∷◌, length, map}
use Rattle.std.specs.Prelude.{Option, None, option_map}
use Rattle.std.specs.List.{filter_map}
use Rattle.wedge_base.specs.declared.outcome.ActorLine.{ActorLine}
use Rattle.wedge_events.specs.declared.cells.Live.{Live}
use Rattle.wedge_events.specs.declared.cells.SlotAsk.{SlotAsk}
use Rattle.wedge_events.specs.declared.cells.SlotAsk.TheVariants as slot_ask
use Rattle.wedge_events.specs.declared.events.Event.{Event}
use Rattle.wedge_events.specs.declared.events.Event.TheVariants as event
use Rattle.wedge_events.specs.declared.events.LogEntry.{LogEntry}
use Rattle.grant_cache.specs.Caches.{Cache, cache_capacity, empty_cache}
use Rattle.grant_cache.specs.Hits.{AreLookedUp, hits}
use Rattle.grant_cache.specs.declared.count.CacheCount.{CacheCount}
use Rattle.grant_cache.specs.declared.count.CacheLine.{CacheLine}
use Rattle.run_laws.specs.Walks.{entries_of}

-- the tag that lives in a slot, with the asker's right on it, where the ask carries it: that of a
-- load, of a store, or of the freeing of a block
abbrev pub live_asked : SlotAsk → Option Live
live_asked (slot_ask.Load width offset live) = live
live_asked (slot_ask.Store width offset value live) = live
live_asked (slot_ask.Sfree offset live) = live
live_asked q = None

-- the tag that an actor looks up for an event, if it does so
abbrev pub tag_looked_up : Event → Option ℕ
tag_looked_up (event.Slot slot q r) = option_map (λ l. l.tag) (live_asked q)
tag_looked_up e = None

-- the tags that an actor looks up for its entries, in their order
abbrev pub tags_looked_up : List LogEntry → List ℕ
tags_looked_up entries = filter_map (λ e. tag_looked_up e.event) entries

-- these are the counts of a cache of 8 tags that was empty, after look-ups of these tags
abbrev pub AreCounted : List ℕ → CacheCount → Type 0
AreCounted tags c = (k : Cache) × AreLookedUp tags (empty_cache cache_capacity) k × (k.count ≡ c)

-- The counts of an actor's cache for these entries of its log: they are those of a cache of 8 tags in
-- which the tags of these entries were looked up. So there were as many look-ups as tags; hits and
-- refused entries are no more than the look-ups; and where none was refused, the hits are as many as
-- tags that were among the 8 distinct ones looked up before them.
pub record IsCounted (entries : List LogEntry) (c : CacheCount) : Type 0 where
  pub cached : AreCounted (tags_looked_up entries) c
  pub lookups : c.lookups ≡ length (tags_looked_up entries)
  pub most : c.hits + c.refused ≤ c.lookups
  pub hits_ : c.refused ≡ 0 → c.hits ≡ hits cache_capacity (tags_looked_up entries)

-- each of these has the counts for the entries of its actor in a journal
abbrev pub AllCounted : List LogEntry → List CacheLine → Type 0
AllCounted journal [] = Unit {0}
AllCounted journal (c ∷ cs) =
    IsCounted (entries_of c.name journal) c.count × AllCounted journal cs

-- the counts for each actor of an outcome, in their order, by a journal
pub record AreCountsOf (journal : List LogEntry) (actors : List ActorLine) (cs : List CacheLine)
    : Type 0 where
  pub names : map (λ c. c.name) cs ≡ map (λ l. l.name) actors
  pub counted : AllCounted journal cs
