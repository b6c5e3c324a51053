-- Events, turns and journals.
use Rattle.std.specs.Prelude.{ℕ, ◌+◌, List, [], ◌∷◌, map, Option, Some, None}
use Rattle.wedge_events.specs.declared.events.Ask.{Ask}
use Rattle.wedge_events.specs.declared.events.Ask.TheVariants as ask
use Rattle.wedge_events.specs.declared.events.Event.{Event}
use Rattle.wedge_events.specs.declared.events.Event.TheVariants as event
use Rattle.wedge_events.specs.declared.events.CellName.{CellName}
use Rattle.wedge_events.specs.declared.events.CellName.TheVariants as cell
use Rattle.wedge_events.specs.declared.events.Turn.{Turn}
use Rattle.wedge_events.specs.declared.events.LogEntry.{LogEntry}

-- the cell of an event, if it has one
abbrev pub cell_of : Event → Option CellName
cell_of (event.Slots q r) = Some cell.Slots
cell_of (event.Slot slot q r) = Some (cell.Slot slot)
cell_of (event.Fds q r) = Some cell.Fds
cell_of (event.Fd fd q r) = Some (cell.Fd fd)
cell_of (event.Lives q r) = Some cell.Lives
cell_of (event.Gate gate q r) = Some (cell.Gate gate)
cell_of (event.Start child) = None
cell_of (event.Join child end fuel) = None
cell_of (event.Enter run) = None
cell_of (event.Leave end) = None

-- what was asked in an event
abbrev pub event_ask : Event → Ask
event_ask (event.Slots q r) = ask.Slots q
event_ask (event.Slot slot q r) = ask.Slot slot q
event_ask (event.Fds q r) = ask.Fds q
event_ask (event.Fd fd q r) = ask.Fd fd q
event_ask (event.Lives q r) = ask.Lives q
event_ask (event.Gate gate q r) = ask.Gate gate q
event_ask (event.Start child) = ask.Start child
event_ask (event.Join child end fuel) = ask.Join child
event_ask (event.Enter run) = ask.Enter run
event_ask (event.Leave end) = ask.Leave end

-- the turns of a journal's entries
abbrev pub turns_of : List LogEntry → List Turn
turns_of entries = map (λ e. record { actor = e.actor; event = e.event }) entries

-- entries of turns taken one after another, with stamps that count up from this one
abbrev pub numbered : ℕ → List Turn → List LogEntry
numbered stamp [] = []
numbered stamp (t ∷ ts) = record { stamp = stamp; actor = t.actor; event = t.event } ∷ numbered (stamp + 1) ts
