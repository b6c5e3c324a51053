-- Events of the directories, of slots and of streams are in bounds.
use Rattle.std.proofs.Common.{◌≡◌, ℕ, zero, suc, ◌+◌, ◌/◌, ◌<◌, ◌≤◌, ◌==◌, Bool, true, false, List, [], ◌∷◌, length, drop, refl, sym, ◌∙◌, arith}
use Rattle.std.proofs.lemmas.List.{length-append, length-take}
use Rattle.std.proofs.lemmas.Bool.Decides.{nat_tests}
use Rattle.std.specs.Prelude.{Option, Some, None, IfSome, not, nat_lt, nat_le, is_some, slice_range, if◌then◌else◌}
use Rattle.wedge_base.specs.Blocks.{Block, AreBlocks, rounded, first_fit, block_at}
use Rattle.wedge_base.specs.Bytes.{number_of}
use Rattle.wedge_events.specs.Directories.{Directory, directory_reply}
use Rattle.wedge_base.specs.Images.{page, slots, window, most_pages}
use Rattle.wedge_base.specs.Rights.{at_least, read_bit, append_bit, bits_within}
use Rattle.wedge_events.specs.Slots.{Segment, right_in, place_reply, slot_reply}
use Rattle.wedge_events.specs.declared.cells.DirectoryAsk.{DirectoryAsk}
use Rattle.wedge_events.specs.declared.cells.DirectoryAsk.TheVariants as directory_ask
use Rattle.wedge_events.specs.declared.cells.DirectoryReply.{DirectoryReply}
use Rattle.wedge_events.specs.declared.cells.DirectoryReply.TheVariants as directory_reply_
use Rattle.wedge_events.specs.Streams.{Stream, most_fds, closing_bit, read_reply, append_reply, live_stream_reply, dead_reply, stream_reply}
use Rattle.wedge_events.specs.declared.cells.StreamAsk.{StreamAsk}
use Rattle.wedge_events.specs.declared.cells.StreamAsk.TheVariants as stream_ask
use Rattle.wedge_events.specs.declared.cells.StreamReply.TheVariants as stream_reply_
use Rattle.wedge_base.specs.declared.rights.FdBits.{FdBits}
use Rattle.wedge_base.specs.declared.rights.StreamKind.{StreamKind}
use Rattle.wedge_base.specs.declared.rights.StreamKind.TheVariants as kind
use Rattle.wedge_events.specs.declared.cells.SlotAsk.{SlotAsk}
use Rattle.wedge_events.specs.declared.cells.SlotAsk.TheVariants as ask
use Rattle.wedge_events.specs.declared.cells.SlotReply.{SlotReply}
use Rattle.wedge_events.specs.declared.cells.SlotReply.TheVariants as reply
use Rattle.wedge_events.specs.declared.events.Event.TheVariants as event
use Rattle.wedge_base.specs.declared.rights.Right.TheVariants as right
use Rattle.wedge_base.specs.Pages.{page_of, pages_before, pages_of}
use Rattle.machine.specs.Between.{GivesBelow, IsInBounds}
use Rattle.run_laws.proofs.Directing.{claimed_inside}

-- ---- the directories

-- an index that is claimed is below the limit of its directory
claimed_below : (limit : ℕ) (d : Directory) (q : DirectoryAsk) (index number : ℕ) → GivesBelow limit d → directory_reply_.Claimed index number ≡ directory_reply d q → index < limit
claimed_below limit d directory_ask.Claim index number below is = claimed_inside limit d index number below (sym is)
claimed_below limit d (directory_ask.Release released) index number below is = absurd cc

pub place_in_bounds : (d : Directory) (q : DirectoryAsk) (r : DirectoryReply) → GivesBelow slots d → r ≡ directory_reply d q → IsInBounds (event.Slots q r)
place_in_bounds d q (directory_reply_.Claimed slot tag) below is = claimed_below slots d q slot tag below is
place_in_bounds d q directory_reply_.Full below is = tt
place_in_bounds d q directory_reply_.Released below is = tt

pub number_in_bounds : (d : Directory) (q : DirectoryAsk) (r : DirectoryReply) → GivesBelow most_fds d → r ≡ directory_reply d q → IsInBounds (event.Fds q r)
number_in_bounds d q (directory_reply_.Claimed fd number) below is = claimed_below most_fds d q fd number below is
number_in_bounds d q directory_reply_.Full below is = tt
number_in_bounds d q directory_reply_.Released below is = tt

-- ---- a block that is placed

blocks_below : (low room : ℕ) (bs : List Block) → AreBlocks low room bs → low ≤ room
blocks_below low room [] h = h
blocks_below low room (b ∷ bs) h = let others = blocks_below (b.offset + b.size) room bs h.4 in omega (arith, h.0, others)

fits_below : (low size room : ℕ) (bs : List Block) (o : ℕ) → AreBlocks low room bs → first_fit low size room bs ≡ Some o → o + size ≤ room
fits_below low size room [] o h e = by_room (nat_le (low + size) room) refl e
  where
    by_room : (t : Bool) → nat_le (low + size) room ≡ t → (if t then Some low else None) ≡ Some o → o + size ≤ room
    by_room true is f = let same : low ≡ o = cc in below low o room is same
      where
        below : (low o room : ℕ) → nat_le (low + size) room ≡ true → low ≡ o → o + size ≤ room
        below low o room is same = grind (arith, nat_tests, is, same)
    by_room false is f = absurd cc
fits_below low size room (b ∷ bs) o h e = by_gap (nat_le (low + size) b.offset) refl e (fits_below (b.offset + b.size) size room bs o h.4)
  where
    by_gap : (t : Bool) → nat_le (low + size) b.offset ≡ t → (if t then Some low else first_fit (b.offset + b.size) size room bs) ≡ Some o → (first_fit (b.offset + b.size) size room bs ≡ Some o → o + size ≤ room) → o + size ≤ room
    by_gap true is f others =
        let same : low ≡ o = cc in
        let room_ = blocks_below (b.offset + b.size) room bs h.4 in
        below low o is same room_
      where
        below : (low o : ℕ) → nat_le (low + size) b.offset ≡ true → low ≡ o → b.offset + b.size ≤ room → o + size ≤ room
        below low o is same room_ = grind (arith, nat_tests, is, same, room_)
    by_gap false is f others = others f

some_bytes : (size : ℕ) → 1 ≤ size → 0 < rounded size
some_bytes size h = omega (arith, h)

-- an event of a slot that is there, with a reply that places no block and has no pages
abbrev PlacesNone : SlotReply → Type 0
PlacesNone (reply.Placed offset) = ⊥
PlacesNone (reply.Snapped pages) = ⊥
PlacesNone r = Unit {0}

none_in_bounds : (slot : ℕ) (q : SlotAsk) (r : SlotReply) → slot < slots → PlacesNone r → IsInBounds (event.Slot slot q r)
none_in_bounds slot q (reply.Placed offset) inside k = absurd k
none_in_bounds slot q (reply.Snapped pages) inside k = absurd k
none_in_bounds slot q r inside k = inside

pub places_inside : (slot tag size : ℕ) (s : Option Segment) → slot < slots → 1 ≤ size → IfSome s (λ g. AreBlocks 0 (length g.bytes) g.blocks) → IfSome s (λ g. length g.bytes ≤ window) → IsInBounds (event.Slot slot (ask.Smalloc tag size) (slot_reply s (ask.Smalloc tag size)))
places_inside slot tag size None inside some apart few = inside
places_inside slot tag size (Some g) inside some apart few = by_tests (g.tag == tag) (first_fit 0 (rounded size) (length g.bytes) g.blocks) refl
  where
    by_tests : (t : Bool) (o : Option ℕ) → first_fit 0 (rounded size) (length g.bytes) g.blocks ≡ o → IsInBounds (event.Slot slot (ask.Smalloc tag size) (if t then place_reply o else reply.NoSuch))
    by_tests false o e = inside
    by_tests true None e = inside
    by_tests true (Some offset) e =
        let fits = fits_below 0 (rounded size) (length g.bytes) g.blocks offset apart e in
        let bytes = some_bytes size some in
        (inside, omega (arith, fits, bytes, few))

-- ---- a copy of a tag

pages_count : (bytes : List ℕ) (n : ℕ) → length (pages_before bytes n) ≡ n
pages_count bytes zero = refl
pages_count bytes (suc n) = length-append (pages_before bytes n) (page_of bytes n ∷ []) ∙ (let before = pages_count bytes n in omega (arith, before))

few_pages : (bytes : List ℕ) → length bytes ≤ window → length (pages_of bytes) ≤ most_pages
unfolding pages_of
few_pages bytes few = let count = pages_count bytes (length bytes / page) in grind (arith, count, few)

pub snaps_inside : (slot tag : ℕ) (s : Option Segment) → slot < slots → IfSome s (λ g. length g.bytes ≤ window) → IsInBounds (event.Slot slot (ask.Snap tag) (slot_reply s (ask.Snap tag)))
snaps_inside slot tag None inside few = inside
snaps_inside slot tag (Some g) inside few = by_tag (g.tag == tag)
  where
    by_tag : (t : Bool) → IsInBounds (event.Slot slot (ask.Snap tag) (if t then reply.Snapped (pages_of g.bytes) else reply.Gone))
    by_tag true = (inside, few_pages g.bytes few)
    by_tag false = inside

-- ---- what else is asked of a slot

abbrev IsOther : SlotAsk → Type 0
IsOther (ask.Smalloc tag size) = ⊥
IsOther (ask.Snap tag) = ⊥
IsOther q = Unit {0}

pub others_inside : (slot : ℕ) (s : Option Segment) (q : SlotAsk) → slot < slots → IsOther q → IsInBounds (event.Slot slot q (slot_reply s q))
others_inside slot None q inside k = none_in_bounds slot q (slot_reply None q) inside (empty_places q)
  where
    empty_places : (q : SlotAsk) → PlacesNone (slot_reply None q)
    empty_places (ask.Open tag pages) = tt
    empty_places (ask.Close tag) = tt
    empty_places (ask.Load width offset live) = tt
    empty_places (ask.Store width offset value live) = tt
    empty_places (ask.Smalloc tag size) = tt
    empty_places (ask.Sfree offset live) = tt
    empty_places (ask.Snap tag) = tt
others_inside slot (Some g) q inside k = none_in_bounds slot q (slot_reply (Some g) q) inside (live_places q k)
  where
    by_load : (u t : Bool) (value : ℕ) → PlacesNone (if not u then reply.Unmapped else if t then reply.Loaded value else reply.Denied g.tag right.Read)
    by_load false t value = tt
    by_load true false value = tt
    by_load true true value = tt

    by_store : (u t : Bool) → PlacesNone (if not u then reply.Unmapped else if t then reply.Stored else reply.Denied g.tag right.ReadWrite)
    by_store false t = tt
    by_store true false = tt
    by_store true true = tt

    by_free : (t u : Bool) → PlacesNone (if not t then reply.Denied g.tag right.ReadWrite else if u then reply.Freed else reply.Bad)
    by_free false u = tt
    by_free true true = tt
    by_free true false = tt

    by_close : (t : Bool) → PlacesNone (if t then reply.Closed else reply.NoSuch)
    by_close true = tt
    by_close false = tt

    live_places : (q : SlotAsk) → IsOther q → PlacesNone (slot_reply (Some g) q)
    live_places (ask.Open tag pages) k = tt
    live_places (ask.Close tag) k = by_close (g.tag == tag)
    live_places (ask.Load width offset live) k = by_load (nat_lt offset (length g.bytes)) (at_least (right_in live) right.Read) (number_of (slice_range g.bytes offset (offset + width)))
    live_places (ask.Store width offset value live) k = by_store (nat_lt offset (length g.bytes)) (at_least (right_in live) right.ReadWrite)
    live_places (ask.Smalloc tag size) k = absurd k
    live_places (ask.Sfree offset live) k = by_free (at_least (right_in live) right.ReadWrite) (is_some (block_at g.blocks offset))
    live_places (ask.Snap tag) k = absurd k

-- ---- a stream

-- a read gives at most as many bytes as were asked for, and nothing else gives any
pub gives_inside : (fd : ℕ) (s : Option Stream) (q : StreamAsk) → IsInBounds (event.Fd fd q (stream_reply s q))
gives_inside fd None (stream_ask.Open k bytes) = tt
gives_inside fd None (stream_ask.Read bits count) = tt
gives_inside fd None (stream_ask.Append bits bytes) = tt
gives_inside fd None (stream_ask.Close bits) = tt
gives_inside fd (Some s) q = by_ask s.live q
  where
    reads : (count : ℕ) (bits : FdBits) (t : Bool) (k : StreamKind) → IsInBounds (event.Fd fd (stream_ask.Read bits count) (if t then read_reply k s count else stream_reply_.Denied read_bit))
    reads count bits false k = tt
    reads count bits true kind.Source = omega (arith, length-take count (drop s.position s.bytes))
    reads count bits true kind.Append = tt

    appends : (bits : FdBits) (bytes : List ℕ) (t : Bool) (k : StreamKind) → IsInBounds (event.Fd fd (stream_ask.Append bits bytes) (if t then append_reply k else stream_reply_.Denied append_bit))
    appends bits bytes false k = tt
    appends bits bytes true kind.Source = tt
    appends bits bytes true kind.Append = tt

    closes : (bits wants : FdBits) (t : Bool) → IsInBounds (event.Fd fd (stream_ask.Close bits) (if t then stream_reply_.Closed else stream_reply_.Denied wants))
    closes bits wants false = tt
    closes bits wants true = tt

    by_ask : (v : Bool) (q : StreamAsk) → IsInBounds (event.Fd fd q (if v then live_stream_reply s q else dead_reply q))
    by_ask false (stream_ask.Open k bytes) = tt
    by_ask true (stream_ask.Open k bytes) = tt
    by_ask false (stream_ask.Read bits count) = tt
    by_ask true (stream_ask.Read bits count) = reads count bits bits.read s.kind
    by_ask false (stream_ask.Append bits bytes) = tt
    by_ask true (stream_ask.Append bits bytes) = appends bits bytes bits.append s.kind
    by_ask false (stream_ask.Close bits) = tt
    by_ask true (stream_ask.Close bits) = closes bits (closing_bit s.kind) (bits_within (closing_bit s.kind) bits)
