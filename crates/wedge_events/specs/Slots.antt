-- The cell of a slot: the tag that lives there, its bytes and its blocks.
use Rattle.std.specs.Prelude.{◌≡◌, ℕ, ◌+◌, ◌-◌, ◌*◌, ◌%◌, ◌==◌, ◌≤◌, ◌<◌, ◌⊎◌, not, List, [], ◌∷◌, ◌++◌, length, slice_range, slice_get, Option, Some, None, is_some, option_map, nat_lt, if◌then◌else◌}
use Rattle.wedge_base.specs.Bytes.{zeros, overwrite, number_of, bytes_of}
use Rattle.wedge_base.specs.Images.{Image, page, window, most_pages}
use Rattle.wedge_base.specs.Pages.{pages_of}
use Rattle.wedge_base.specs.Rights.{at_least}
use Rattle.wedge_base.specs.Blocks.{Block, block, rounded, first_fit, with_block, block_at, without_block}
use Rattle.wedge_base.specs.declared.image.TagEntry.{TagEntry}
use Rattle.wedge_base.specs.declared.rights.Right.{Right}
use Rattle.wedge_base.specs.declared.rights.Right.TheVariants as right
use Rattle.wedge_events.specs.declared.cells.Live.{Live}
use Rattle.wedge_events.specs.declared.cells.SlotAsk.{SlotAsk}
use Rattle.wedge_events.specs.declared.cells.SlotAsk.TheVariants as ask
use Rattle.wedge_events.specs.declared.cells.SlotReply.{SlotReply}
use Rattle.wedge_events.specs.declared.cells.SlotReply.TheVariants as reply

-- a live tag
pub record Segment : Type 0 where
  pub tag : ℕ
  pub bytes : List ℕ
  pub blocks : List Block

-- the right in an ask's pair
abbrev pub right_in : Option Live → Option Right
right_in None = None
right_in (Some l) = l.right

-- The reply to a load or store: Unmapped past the bytes; Denied where the right in the pair is
-- below the one wanted; else `done`.
abbrev pub access_reply : Segment → ℕ → Option Live → Right → SlotReply → SlotReply
access_reply g offset live wants done =
    if not (nat_lt offset (length g.bytes)) then reply.Unmapped
    else if at_least (right_in live) wants then done else reply.Denied g.tag wants

-- where a block is placed, or that there is no room
abbrev pub place_reply : Option ℕ → SlotReply
place_reply None = reply.Full
place_reply (Some offset) = reply.Placed offset

-- the reply where a tag lives
abbrev pub live_reply : Segment → SlotAsk → SlotReply
live_reply g (ask.Open tag pages) = reply.Opened
live_reply g (ask.Close tag) = if g.tag == tag then reply.Closed else reply.NoSuch
live_reply g (ask.Load width offset live) = access_reply g offset live right.Read (reply.Loaded (number_of (slice_range g.bytes offset (offset + width))))
live_reply g (ask.Store width offset value live) = access_reply g offset live right.ReadWrite reply.Stored
live_reply g (ask.Smalloc tag size) = if g.tag == tag then place_reply (first_fit 0 (rounded size) (length g.bytes) g.blocks) else reply.NoSuch
live_reply g (ask.Sfree offset live) =
    if not (at_least (right_in live) right.ReadWrite) then reply.Denied g.tag right.ReadWrite
    else if is_some (block_at g.blocks offset) then reply.Freed else reply.Bad
live_reply g (ask.Snap tag) = if g.tag == tag then reply.Snapped (pages_of g.bytes) else reply.Gone

-- the reply where none lives
abbrev pub empty_reply : SlotAsk → SlotReply
empty_reply (ask.Open tag pages) = reply.Opened
empty_reply (ask.Close tag) = reply.NoSuch
empty_reply (ask.Load width offset live) = reply.Unmapped
empty_reply (ask.Store width offset value live) = reply.Unmapped
empty_reply (ask.Smalloc tag size) = reply.NoSuch
empty_reply (ask.Sfree offset live) = reply.NoSuch
empty_reply (ask.Snap tag) = reply.Gone

abbrev pub slot_reply : Option Segment → SlotAsk → SlotReply
slot_reply None q = empty_reply q
slot_reply (Some g) q = live_reply g q

-- a new tag has zero bytes and no blocks
abbrev pub new_segment : ℕ → ℕ → Segment
new_segment tag pages = record { tag = tag; bytes = zeros (pages * page); blocks = [] }

abbrev pub write_segment : ℕ → ℕ → ℕ → Segment → Segment
write_segment offset width value g = record g { bytes = overwrite g.bytes offset (bytes_of width value) }

abbrev pub with_blocks : List Block → Segment → Segment
with_blocks blocks g = record g { blocks = blocks }

-- a tag with a block placed, and with one freed
abbrev pub with_placed_block : ℕ → ℕ → Segment → Segment
with_placed_block offset size g = with_blocks (with_block (block offset (rounded size)) g.blocks) g

abbrev pub with_freed_block : ℕ → Segment → Segment
with_freed_block offset g = with_blocks (without_block offset g.blocks) g

-- what an ask with its reply makes of the slot; each other reply changes nothing
abbrev pub slot_after : Option Segment → SlotAsk → SlotReply → Option Segment
slot_after s (ask.Open tag pages) r = Some (new_segment tag pages)
slot_after s (ask.Close tag) reply.Closed = None
slot_after s (ask.Store width offset value live) reply.Stored = option_map (write_segment offset width value) s
slot_after s (ask.Smalloc tag size) (reply.Placed offset) = option_map (with_placed_block offset size) s
slot_after s (ask.Sfree offset live) reply.Freed = option_map (with_freed_block offset) s
slot_after s q r = s

abbrev pub slot_next : Option Segment → SlotAsk → Option Segment
slot_next s q = slot_after s q (slot_reply s q)

-- a declared tag as a run begins: its content, then zeros
abbrev pub declared_segment : ℕ → TagEntry → Segment
declared_segment number t = record { tag = number; bytes = t.content ++ zeros (t.pages * page - length t.content); blocks = [] }

-- the declared tags live in the first slots, in order
abbrev pub declared_slots : ℕ → List TagEntry → List (Option Segment)
declared_slots number [] = []
declared_slots number (t ∷ ts) = Some (declared_segment number t) ∷ declared_slots (number + 1) ts

abbrev pub slot_opening : Image → ℕ → Option Segment
slot_opening i slot = option_map (declared_segment slot) (slice_get i.tags slot)

-- an ask's pair names the tag that lives in the slot
abbrev pub IsPair : Option Segment → Option Live → Type 0
IsPair None live = live ≡ None
IsPair (Some g) None = ⊥
IsPair (Some g) (Some l) = l.tag ≡ g.tag

abbrev pub IsAligned : ℕ → ℕ → Type 0
IsAligned offset width = ((width ≡ 1) ⊎ (width ≡ 2) ⊎ (width ≡ 4)) × (offset % width ≡ 0) × (offset < window)

-- Which asks fit: a load or store of 1, 2 or 4 bytes at a multiple of its width in the window, and
-- the freeing of a block in the window, each with the pair of the tag that lives there, or without
-- one where none does; a tag of 1 to 16 pages; a block of at least one byte; every close and copy.
abbrev pub SlotFits : Option Segment → SlotAsk → Type 0
SlotFits s (ask.Open tag pages) = (1 ≤ pages) × (pages ≤ most_pages)
SlotFits s (ask.Close tag) = Unit {0}
SlotFits s (ask.Load width offset live) = IsAligned offset width × IsPair s live
SlotFits s (ask.Store width offset value live) = IsAligned offset width × IsPair s live
SlotFits s (ask.Smalloc tag size) = 1 ≤ size
SlotFits s (ask.Sfree offset live) = (offset < window) × IsPair s live
SlotFits s (ask.Snap tag) = Unit {0}
