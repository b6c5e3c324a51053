-- What is accessed: tags, descriptors, files and gates, by what people call them.
use Rattle.std.specs.Prelude.{ℕ, ◌-◌, ◌==◌, Bool, ◌&&◌, List, [], ◌∷◌, length, max, slice_get, Option, Some, None, option_map, nat_lt, if◌then◌else◌}
use Rattle.wedge_base.specs.Images.{Image}
use Rattle.wedge_base.specs.Maps.{Map, at, with}
use Rattle.wedge_base.specs.Sheets.{Sheet, is_copy}
use Rattle.wedge_base.specs.declared.rights.Grant.{Grant}
use Rattle.wedge_events.specs.declared.events.Event.{Event}
use Rattle.wedge_events.specs.declared.events.Event.TheVariants as event
use Rattle.wedge_events.specs.declared.cells.SlotAsk.TheVariants as slot_ask
use Rattle.wedge_events.specs.declared.cells.SlotReply.TheVariants as slot_reply
use Rattle.wedge_events.specs.declared.cells.StreamAsk.TheVariants as stream_ask
use Rattle.wedge_events.specs.declared.cells.StreamReply.TheVariants as stream_reply
use Rattle.machine.specs.declared.opening.StreamLabel.{StreamLabel}
use Rattle.run_notes.specs.declared.items.NoteItem.{NoteItem}
use Rattle.run_notes.specs.declared.items.NoteItem.TheVariants as item
use Rattle.run_notes.specs.declared.items.Origin.{Origin}
use Rattle.run_notes.specs.declared.items.Makings.{Makings}
use Rattle.run_notes.specs.declared.doer.Doer.{Doer}

-- nothing is made yet
abbrev pub no_makings : Makings
no_makings = record { tags = []; files = [] }

-- ---- the item of a tag and of a descriptor

-- a tag that was made, by the compartment and the address that made it; one that neither the image
-- nor the run has stays a number
abbrev pub made_item : ℕ → Option Origin → NoteItem
made_item tag None = item.Declared tag
made_item tag (Some o) = item.Made o.compartment o.pc

-- the image's tags are those with the least numbers
abbrev pub tag_item : Image → Makings → ℕ → NoteItem
tag_item i m tag = if nat_lt tag (length i.tags) then item.Declared tag else made_item tag (at m.tags tag)

abbrev pub file_item : ℕ → Option (List ℕ) → NoteItem
file_item fd None = item.Fd fd
file_item fd (Some path) = item.File path

-- so are its descriptors
abbrev pub fd_item : Image → Makings → ℕ → NoteItem
fd_item i m fd = if nat_lt fd (length i.fds) then item.Fd fd else file_item fd (at m.files fd)

-- ---- the item of a private copy: that of the tag with the greatest number among those of which
-- the sheet grants a copy, and which were opened in its slot

abbrev pub is_copy_in : ℕ → Grant → Bool
is_copy_in slot g = is_copy g.right && (g.slot == slot)

abbrev pub greater_so_far : ℕ → Option ℕ → ℕ
greater_so_far n None = n
greater_so_far n (Some best) = max best n

abbrev pub greatest_copy : ℕ → Option ℕ → Map Grant → Option ℕ
greatest_copy slot best [] = best
greatest_copy slot best (e ∷ es) = greatest_copy slot (if is_copy_in slot e.1 then Some (greater_so_far e.0 best) else best) es

abbrev pub copy_item : Image → Makings → Sheet → ℕ → Option NoteItem
copy_item i m sheet slot = option_map (tag_item i m) (greatest_copy slot None sheet.tags)

-- ---- what an event makes

-- the path under which an actor last opened a file is that of the descriptor
abbrev pub with_label : Map (List ℕ) → ℕ → Option StreamLabel → Map (List ℕ)
with_label files fd None = files
with_label files fd (Some l) = with files fd l.path

abbrev pub last_label : List StreamLabel → Option StreamLabel
last_label labels = slice_get labels (length labels - 1)

-- a tag, and a descriptor, that an event of this actor opens, which afterwards keeps these paths of
-- the files that it opened
abbrev pub makings_after : Makings → Doer → List StreamLabel → Event → Makings
makings_after m d labels (event.Slot slot (slot_ask.Open tag pages) slot_reply.Opened) =
    record m { tags = with m.tags tag (record { compartment = d.compartment; pc = d.pc }) }
makings_after m d labels (event.Fd fd (stream_ask.Open k bytes) stream_reply.Opened) =
    record m { files = with_label m.files fd (last_label labels) }
makings_after m d labels e = m
