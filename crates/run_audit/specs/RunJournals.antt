-- The journal of a run, and the entries that its logs keep in memory.
use Rattle.std.specs.Prelude.{◌≡◌, List, length}
use Rattle.wedge_events.specs.declared.events.LogEntry.{LogEntry}
use Rattle.thread_laws.specs.declared.gathered.ActorLog.{ActorLog}

-- the entries of a run in the order of its journal, and the entries that its logs keep in memory
pub record RunEntries : Type 0 where
  pub entries : List LogEntry
  pub kept : List LogEntry

-- a log has the count of all its entries
abbrev pub CountsAll : ActorLog → Type 0
CountsAll g = g.count ≡ length g.entries
