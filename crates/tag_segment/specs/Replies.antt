-- Replies that hold no memory.
use Rattle.wedge_events.specs.declared.cells.SlotReply.{SlotReply}
use Rattle.wedge_events.specs.declared.cells.SlotReply.TheVariants as reply

-- a reply has no pages, unless it is a copy of a tag
abbrev pub HasNoPages : SlotReply → Type 0
HasNoPages (reply.Snapped pages) = ⊥
HasNoPages r = Unit {0}
