-- What the log of an actor keeps of its entries.
use Rattle.std.specs.Prelude.{◌≡◌, ◌≤◌, ℕ, nat_lt, Bool, false, not, List, [], ◌∷◌, ◌++◌, length, All}
use Rattle.std.specs.List.{filter}
use Rattle.wedge_events.specs.declared.events.Event.{Event}
use Rattle.wedge_events.specs.declared.events.Event.TheVariants as event
use Rattle.wedge_events.specs.declared.events.LogEntry.{LogEntry}
use Rattle.thread_laws.specs.declared.gathered.ActorLog.{ActorLog}
use Rattle.thread_laws.specs.declared.gathered.Gathered.{Gathered}

-- whether an event is on one of the first n slots
abbrev pub is_on_declared : ℕ → Event → Bool
is_on_declared n (event.Slot slot q r) = nat_lt slot n
is_on_declared n e = false

-- the entries on none of the first n slots, in their order
abbrev pub entries_elsewhere : ℕ → List LogEntry → List LogEntry
entries_elsewhere n es = filter (λ (e : LogEntry). not (is_on_declared n e.event)) es

-- a log keeps all its entries but those on the first n slots, and counts them all
pub record IsKept (n : ℕ) (g : ActorLog) : Type 0 where
  pub kept : g.kept ≡ entries_elsewhere n g.entries
  pub count : g.count ≡ length g.entries

-- what logs keep, log by log
abbrev pub all_kept : List ActorLog → List LogEntry
all_kept [] = []
all_kept (g ∷ gs) = g.kept ++ all_kept gs

-- The logs of a run count all their entries, and keep what an audit compares: all but those on the first
-- `unkept` slots, which are no more than those of declared tags.
pub record AreKept (g : Gathered) : Type 0 where
  pub unkept : ℕ
  pub few : unkept ≤ length g.declared
  pub logs : All (IsKept unkept) g.logs
