-- An actor on a thread.
use Rattle.std.specs.Prelude.{◌≡◌, ℕ, ◌≤◌, Bool, false, List, length}
use Rattle.wedge_events.specs.declared.events.LogEntry.{LogEntry}
use Rattle.grant_cache.specs.Caches.{Cache, IsCacheOf, cache_capacity}
use Rattle.grant_cache.specs.Hits.{IsAfter}
use Rattle.machine.specs.Actors.{ActorRecord}
use Rattle.machine.specs.declared.phase.Phase.{Phase}
use Rattle.machine.specs.declared.phase.Phase.TheVariants as phase
use Rattle.thread_laws.specs.ActorProgresses.{ActorProgress}
use Rattle.thread_laws.specs.KeptEntries.{entries_elsewhere}
use Rattle.thread_laws.specs.LookUps.{tags_looked_up}

-- its progress, and whether it has stopped because it ran out of memory
pub record RunState : Type 0 where
  pub progress : ActorProgress
  pub stopped : Bool

abbrev pub going : ActorProgress → RunState
going r = record { progress = r; stopped = false }

-- an actor's cache: the tags of its entries were looked up there; and until the actor stops, it has
-- the rights of the actor's sheet
pub record KeepsCache (actor : ActorRecord) (entries : List LogEntry) (cache : Cache) : Type 0 where
  pub after : IsAfter (tags_looked_up entries) cache
  pub capacity : cache.capacity ≡ cache_capacity
  pub rights : actor.stopped ≡ false → IsCacheOf actor.sheet cache

-- what its log keeps of its entries: all but those on the first n slots; and how many it has in all
pub record KeepsEntries (n : ℕ) (entries kept : List LogEntry) (count : ℕ) : Type 0 where
  pub kept_ : kept ≡ entries_elsewhere n entries
  pub count_ : count ≡ length entries

-- an actor that is about to enter a gate has the fuel with which a run of the gate begins
abbrev pub AffordsGate : Phase → ℕ → Type 0
AffordsGate (phase.Entering entrance) fuel = entrance.gate.fuel ≤ fuel
AffordsGate p fuel = Unit {0}
