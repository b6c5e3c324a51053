-- The bytes of a tag by the history of its slot, and those of a stream by the history of its
-- descriptor.
use Rattle.std.specs.Prelude.{ℕ, ◌+◌, ◌*◌, ◌==◌, List, [], ◌∷◌, ◌++◌, length, Option, Some, None, option_map, if◌then◌else◌}
use Rattle.wedge_base.specs.Bytes.{zeros, overwrite, bytes_of}
use Rattle.wedge_base.specs.Images.{page}
use Rattle.wedge_events.specs.declared.events.Event.{Event}
use Rattle.wedge_events.specs.declared.events.Event.TheVariants as event
use Rattle.wedge_events.specs.declared.events.Turn.{Turn}
use Rattle.wedge_events.specs.declared.cells.SlotAsk.{SlotAsk}
use Rattle.wedge_events.specs.declared.cells.SlotAsk.TheVariants as ask
use Rattle.wedge_events.specs.declared.cells.SlotReply.{SlotReply}
use Rattle.wedge_events.specs.declared.cells.SlotReply.TheVariants as reply
use Rattle.wedge_events.specs.declared.cells.StreamAsk.{StreamAsk}
use Rattle.wedge_events.specs.declared.cells.StreamAsk.TheVariants as stream_ask
use Rattle.wedge_events.specs.declared.cells.StreamReply.{StreamReply}
use Rattle.wedge_events.specs.declared.cells.StreamReply.TheVariants as stream_reply

-- The bytes of a slot after one event of it: an opening begins with zeros, a closing ends them, a
-- store that took place replaces some, and nothing else changes any.
abbrev pub bytes_by : Option (List ℕ) → SlotAsk → SlotReply → Option (List ℕ)
bytes_by bytes (ask.Open tag pages) r = Some (zeros (pages * page))
bytes_by bytes (ask.Close tag) reply.Closed = None
bytes_by bytes (ask.Store width offset value live) reply.Stored = option_map (λ b. overwrite b offset (bytes_of width value)) bytes
bytes_by bytes q r = bytes

-- the same, of an event on any cell
abbrev pub bytes_after_event : ℕ → Option (List ℕ) → Event → Option (List ℕ)
bytes_after_event slot bytes (event.Slot s q r) = if s == slot then bytes_by bytes q r else bytes
bytes_after_event slot bytes e = bytes

-- the bytes in a slot after these turns, from those before
abbrev pub bytes_after : ℕ → Option (List ℕ) → List Turn → Option (List ℕ)
bytes_after slot bytes [] = bytes
bytes_after slot bytes (t ∷ ts) = bytes_after slot (bytes_after_event slot bytes t.event) ts

-- what a stream has had so far: its bytes, and how many of them were read
pub record Flow : Type 0 where
  pub bytes : List ℕ
  pub taken : ℕ

abbrev pub flow : List ℕ → ℕ → Flow
flow bytes taken = record { bytes = bytes; taken = taken }

-- The stream of a descriptor after one event of it: an opening begins it with its bytes, a read
-- takes as many as it was given, an append that took place adds some at the end, and nothing else
-- changes any.
abbrev pub flow_by : Option Flow → StreamAsk → StreamReply → Option Flow
flow_by f (stream_ask.Open kind bytes) r = Some (flow bytes 0)
flow_by f (stream_ask.Read bits count) (stream_reply.Given bytes) = option_map (λ g. flow g.bytes (g.taken + length bytes)) f
flow_by f (stream_ask.Append bits bytes) stream_reply.Appended = option_map (λ g. flow (g.bytes ++ bytes) g.taken) f
flow_by f q r = f

-- the same, of an event on any cell
abbrev pub flow_after_event : ℕ → Option Flow → Event → Option Flow
flow_after_event fd f (event.Fd n q r) = if n == fd then flow_by f q r else f
flow_after_event fd f e = f

-- the stream of a descriptor after these turns, from what it was before
abbrev pub flow_after : ℕ → Option Flow → List Turn → Option Flow
flow_after fd f [] = f
flow_after fd f (t ∷ ts) = flow_after fd (flow_after_event fd f t.event) ts
