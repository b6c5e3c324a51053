-- The entries of histories, as entries of the journal.
use Rattle.std.specs.Prelude.{Bool, true, List, [], ◌∷◌, ◌++◌, Some, Option, None, if◌then◌else◌}
use Rattle.wedge_events.specs.declared.events.Event.{Event}
use Rattle.wedge_events.specs.declared.events.Event.TheVariants as event
use Rattle.wedge_events.specs.declared.events.LogEntry.{LogEntry}
use Rattle.journal_cell.specs.declared.entry.Entry.{Entry}
use Rattle.thread_laws.specs.Replaying.{cell_in, logged}
use Rattle.thread_laws.specs.declared.gathered.CellHistory.{CellHistory}
use Rattle.run_audit.specs.CellOrder.{comes_first}
use Rattle.run_audit.specs.declared.kept.KeptEntry.{KeptEntry}
use Rattle.run_audit.specs.declared.kept.KeptEntry.TheVariants as kept

-- an entry of a cell as one of the journal: ask and reply make the event
abbrev pub entry_as : {Q R : Type 0} → (Q → R → Event) → Entry Q R → LogEntry
entry_as make e = record { stamp = e.stamp; actor = e.actor; event = make e.ask e.reply }

abbrev pub kept_as : KeptEntry → LogEntry
kept_as (kept.Slots e) = entry_as event.Slots e.now
kept_as (kept.Slot slot e) = entry_as (event.Slot slot) e.now
kept_as (kept.Fds e) = entry_as event.Fds e.now
kept_as (kept.Fd fd e) = entry_as (event.Fd fd) e.now
kept_as (kept.Lives e) = entry_as event.Lives e.now
kept_as (kept.Gate gate e) = entry_as (event.Gate gate.now) e.now

-- whether the cell of a history comes before that of another
abbrev pub history_first : CellHistory → CellHistory → Bool
history_first h k = comes_first (cell_in h) (cell_in k)

-- The entries of histories in the order of their cells, of each cell those of the first history
-- alone: those after one of the same cell are left out.
abbrev pub entries_behind : CellHistory → List CellHistory → List LogEntry
entries_behind h [] = []
entries_behind h (k ∷ ks) =
    if history_first h k then logged k ++ entries_behind k ks else entries_behind h ks

abbrev pub entries_kept : List CellHistory → List LogEntry
entries_kept [] = []
entries_kept (h ∷ hs) = logged h ++ entries_behind h hs

abbrev pub entries_from : Option CellHistory → List CellHistory → List LogEntry
entries_from None hs = entries_kept hs
entries_from (Some h) hs = entries_behind h hs

abbrev pub new_after : Option CellHistory → CellHistory → Bool
new_after None k = true
new_after (Some h) k = history_first h k
