-- The requests that a sheet may forbid, and which of them an instruction makes: read off its word,
-- the registers, private memory and what lives in the cells. Nothing here calls the step, so that
-- what the step makes of a request is a theorem.
use Rattle.std.specs.Prelude.{ℕ, ◌%◌, ◌==◌, Bool, true, false, not, ◌&&◌, List, [], length, slice_get, find, Option, Some, None, is_some, is_none, option_map, option_and_then, nat_le, nat_lt, ◌||◌, if◌then◌else◌}
use Rattle.std.specs.List.{list_any}
use Rattle.cow_pages.specs.Copies.{copy_at}
use Rattle.wedge_base.specs.Memory.{range_at, read_range}
use Rattle.wedge_base.specs.Images.{Image, fetch, in_text, read_text, slot_of}
use Rattle.wedge_base.specs.Names.{same}
use Rattle.wedge_base.specs.Paths.{resolve}
use Rattle.wedge_base.specs.Sheets.{Draft}
use Rattle.wedge_events.specs.Slots.{Segment}
use Rattle.wedge_events.specs.Streams.{Stream, most_fds}
use Rattle.wedge_base.specs.declared.address.Place.{Place}
use Rattle.wedge_base.specs.declared.image.FileEntry.{FileEntry}
use Rattle.wedge_base.specs.declared.image.MemoryRange.{MemoryRange}
use Rattle.wedge_base.specs.declared.rights.FdBits.{FdBits}
use Rattle.rv_isa.specs.declared.Instr.{Instr}
use Rattle.rv_isa.specs.Table.{decode}
use Rattle.rv_hart.specs.declared.Need.{Need}
use Rattle.rv_hart.specs.declared.Need.TheVariants as need
use Rattle.rv_hart.specs.Local.{local, reg}
use Rattle.machine.specs.Actors.{ActorState}
use Rattle.machine.specs.Cells.{Cells, slot_in, stream_in}
use Rattle.run_laws.specs.Holding.{gate_for, is_loan}
use Rattle.callgate.specs.declared.gate.Gate.{Gate}

-- an access: its place in a window, how many bytes, and the tag that lives there
pub record Access : Type 0 where
  pub place : Place
  pub width : ℕ
  pub living : Segment

-- a request that a sheet may forbid: to load into a register, with a sign or without, to store a
-- value, to read so many bytes of a live stream, to append bytes to one, to close one, to open the
-- file of a path with bits, to start a child with the sheet of a draft, to make a gate with one, to
-- enter the gate at an entry and lend it a draft or nothing, to delete a tag, to place a block of
-- so many bytes in a tag, and to free the block at a place of a tag that lives there
pub data Request : Type 0 where
  Loads : Access → (rd : ℕ) → (is_signed : Bool) → Request
  Stores : Access → (value : ℕ) → Request
  Reads : (fd : ℕ) → Stream → (count : ℕ) → Request
  Appends : (fd : ℕ) → Stream → (bytes : List ℕ) → Request
  Closes : (fd : ℕ) → Stream → Request
  Opens : (path : List ℕ) → FileEntry → FdBits → Request
  Creates : Draft → Request
  Makes : Draft → Request
  Enters : (entry : ℕ) → (lent : Option Draft) → Request
  Deletes : (tag : ℕ) → Request
  Allots : (tag size : ℕ) → Request
  Frees : Place → Segment → Request

-- ---- which request an instruction makes, once its unit of fuel is taken

-- an access reaches a window where it is aligned, and neither in the text nor in private memory
abbrev pub reaches_window : Image → ActorState → ℕ → ℕ → Bool
reaches_window i a address width = (address % width == 0) && not (in_text i address width) && not (is_some (range_at a.memory.ranges address width))

-- inside the bytes of the tag that lives there
abbrev pub in_tag : (Access → Request) → Place → ℕ → Option Segment → Option Request
in_tag of p width None = None
in_tag of p width (Some g) = if nat_lt p.offset (length g.bytes) then Some (of (record { place = p; width = width; living = g })) else None

-- where the actor has no private copy at the slot
abbrev pub in_window : (Access → Request) → Cells → ActorState → ℕ → Option Place → Option Request
in_window of c a width None = None
in_window of c a width (Some p) = if is_some (copy_at a.memory.copies p.slot) then None else in_tag of p width (slot_in c p.slot)

-- the bytes of a buffer that is read, where it fits: 256 at most, in one private range or in the
-- text
abbrev pub bytes_in_range : Image → ℕ → ℕ → Option MemoryRange → Option (List ℕ)
bytes_in_range i pointer n (Some r) = Some (read_range r pointer n)
bytes_in_range i pointer n None = if in_text i pointer n then Some (read_text i pointer n) else None

abbrev pub buffer_bytes : Image → ActorState → ℕ → ℕ → Option (List ℕ)
buffer_bytes i a pointer n =
    if not (nat_le n 256) then None
    else if n == 0 then Some []
    else bytes_in_range i pointer n (range_at a.memory.ranges pointer n)

-- the path that such bytes are, under the actor's root directory
abbrev pub path_at : Image → ActorState → ℕ → ℕ → Option (List ℕ)
path_at i a pointer n = option_and_then (resolve a.sheet.root) (buffer_bytes i a pointer n)

-- of the stream behind a descriptor, where it is live
abbrev pub in_stream : (Stream → Request) → Option Stream → Option Request
in_stream of None = None
in_stream of (Some s) = if s.live then Some (of s) else None

-- a buffer that is written, where it fits: 256 bytes at most, in one private range
abbrev pub is_room : ActorState → ℕ → ℕ → Bool
is_room a pointer n = nat_le n 256 && ((n == 0) || is_some (range_at a.memory.ranges pointer n))

-- fd_read: the buffer fits, the fuel is enough, and the descriptor is live
abbrev pub read_of : Cells → ActorState → ℕ → ℕ → ℕ → Option Request
read_of c a fd pointer n = if is_room a pointer n && (nat_le n a.fuel && nat_lt fd most_fds) then in_stream (λ s. Reads fd s n) (stream_in c fd) else None

-- fd_append: the same, of a buffer that is read
abbrev pub append_of : Cells → ActorState → ℕ → ℕ → Option (List ℕ) → Option Request
append_of c a fd n None = None
append_of c a fd n (Some bytes) = if nat_le n a.fuel && nat_lt fd most_fds then in_stream (λ s. Appends fd s bytes) (stream_in c fd) else None

-- fd_close: the descriptor is live
abbrev pub close_of : Cells → ℕ → Option Request
close_of c fd = if nat_lt fd most_fds then in_stream (Closes fd) (stream_in c fd) else None

-- file_open: the bits are 1 to read or 2 to append, the buffer holds a path, the fuel is enough,
-- and there is such a file
abbrev pub bits_to_open : ℕ → Option FdBits
bits_to_open n =
    if n == 1 then Some (record { read = true; append = false })
    else if n == 2 then Some (record { read = false; append = true })
    else None

abbrev pub file_of : Image → List ℕ → Option FileEntry
file_of i path = find (λ f. same f.path path) i.files

abbrev pub open_of : Image → ActorState → ℕ → Option FdBits → Option (List ℕ) → Option Request
open_of i a n None path = None
open_of i a n (Some b) None = None
open_of i a n (Some b) (Some path) = if nat_le n a.fuel then option_map (λ f. Opens path f b) (file_of i path) else None

-- sthread_create: there is such a draft, and a procedure at the entry
abbrev pub create_of : Image → ℕ → Option Draft → Option Request
create_of i entry None = None
create_of i entry (Some d) = if list_any (λ p. p.address == entry) i.procedures then Some (Creates d) else None

-- cgate_make: there is such a draft, without a user and without a root directory, a procedure at
-- the entry, and the kind is 0 or 1
abbrev pub suits_gate : Image → ℕ → ℕ → Draft → Bool
suits_gate i entry kind d = list_any (λ p. p.address == entry) i.procedures && (((kind == 0) || (kind == 1)) && (is_none d.user && is_none d.root))

abbrev pub make_of : Image → ℕ → ℕ → Option Draft → Option Request
make_of i entry kind None = None
make_of i entry kind (Some d) = if suits_gate i entry kind d then Some (Makes d) else None

-- cgate: where the actor holds a gate at the entry, there is such a draft, or nothing is lent, and
-- the draft may be lent
abbrev pub lent_of : List Draft → ℕ → Option (Option Draft)
lent_of ds n = if n == 4294967295 then Some None else option_map (λ d. Some d) (slice_get ds n)

abbrev pub lending_of : ℕ → Option (Option Draft) → Option Request
lending_of entry None = None
lending_of entry (Some lent) = if is_loan lent then Some (Enters entry lent) else None

abbrev pub enter_of : ℕ → Option Gate → Option (Option Draft) → Option Request
enter_of entry None lent = Some (Enters entry None)
enter_of entry (Some g) lent = lending_of entry lent

-- smalloc: the size is not 0; the tag need not live
abbrev pub allot_of : ℕ → ℕ → Option Request
allot_of tag size = if size == 0 then None else Some (Allots tag size)

-- sfree: the address is in a window, and a tag lives in its slot
abbrev pub free_of : Cells → Option Place → Option Request
free_of c None = None
free_of c (Some p) = option_map (Frees p) (slot_in c p.slot)

-- a service call, by its number
abbrev pub call_request : Image → Cells → ActorState → List ℕ → ℕ → Option Request
call_request i c a regs n =
    if n == 1 then create_of i (reg regs 11) (slice_get a.drafts (reg regs 10))
    else if n == 4 then Some (Deletes (reg regs 10))
    else if n == 5 then allot_of (reg regs 10) (reg regs 11)
    else if n == 6 then free_of c (slot_of (reg regs 10))
    else if n == 13 then make_of i (reg regs 11) (reg regs 14) (slice_get a.drafts (reg regs 10))
    else if n == 14 then enter_of (reg regs 10) (gate_for a (reg regs 10)) (lent_of a.drafts (reg regs 12))
    else if n == 15 then read_of c a (reg regs 10) (reg regs 11) (reg regs 12)
    else if n == 16 then append_of c a (reg regs 10) (reg regs 12) (buffer_bytes i a (reg regs 11) (reg regs 12))
    else if n == 17 then close_of c (reg regs 10)
    else if n == 18 then open_of i a (reg regs 11) (bits_to_open (reg regs 12)) (path_at i a (reg regs 10) (reg regs 11))
    else None

abbrev pub needed_request : Image → Cells → ActorState → ℕ → Need → Option Request
needed_request i c a rd (need.Load address width is_signed) = if reaches_window i a address width then in_window (λ x. Loads x rd is_signed) c a width (slot_of address) else None
needed_request i c a rd (need.Store address width value) = if reaches_window i a address width then in_window (λ x. Stores x value) c a width (slot_of address) else None
needed_request i c a rd need.Call = call_request i c a a.hart.regs (reg a.hart.regs 17)
needed_request i c a rd n = None

abbrev pub instr_request : Image → Cells → ActorState → Option Instr → Option Request
instr_request i c a None = None
instr_request i c a (Some ins) = needed_request i c a ins.rd (local ins a.hart).need

abbrev pub word_request : Image → Cells → ActorState → Option ℕ → Option Request
word_request i c a None = None
word_request i c a (Some word) = instr_request i c a (decode word)

abbrev pub request_at : Image → Cells → ActorState → Option Request
request_at i c a = word_request i c a (fetch i a.hart.pc)
