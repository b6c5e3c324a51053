-- The code with which a call is refused, by the row of the call: in its instruction, before its
-- denial, or at its event, before or behind it. A second statement, beside the calls; the codes are
-- numbers, as programs see them.
use Rattle.std.specs.Prelude.{◌≡◌, ℕ, zero, suc, ◌==◌, Bool, true, false, not, ◌&&◌, ◌||◌, List, [], ◌∷◌, length, slice_get, Option, Some, None, is_none, nat_le, nat_lt, if◌then◌else◌}
use Rattle.std.specs.List.{list_any}
use Rattle.wedge_base.specs.Blocks.{rounded, first_fit, block_at}
use Rattle.wedge_events.specs.Directories.{Directory}
use Rattle.wedge_base.specs.Images.{Image, fetch, slot_of}
use Rattle.wedge_events.specs.Slots.{Segment}
use Rattle.wedge_base.specs.Sheets.{Draft, takes_tag, takes_fd, takes_gate, first_excess}
use Rattle.wedge_events.specs.Streams.{Stream, most_fds}
use Rattle.wedge_base.specs.declared.address.Place.{Place}
use Rattle.wedge_events.specs.declared.events.Event.{Event}
use Rattle.wedge_events.specs.declared.events.Event.TheVariants as event
use Rattle.wedge_events.specs.declared.cells.DirectoryReply.TheVariants as directory_reply
use Rattle.wedge_events.specs.declared.cells.LivesReply.TheVariants as lives_reply
use Rattle.wedge_events.specs.declared.cells.SlotReply.{SlotReply}
use Rattle.wedge_events.specs.declared.cells.SlotReply.TheVariants as slot_reply
use Rattle.wedge_events.specs.declared.cells.StreamReply.{StreamReply}
use Rattle.wedge_events.specs.declared.cells.StreamReply.TheVariants as stream_reply
use Rattle.wedge_base.specs.declared.image.FileEntry.{FileEntry}
use Rattle.wedge_base.specs.declared.rights.FdBits.{FdBits}
use Rattle.wedge_base.specs.declared.rights.Right.TheVariants as right
use Rattle.wedge_base.specs.declared.rights.Denial.{Denial}
use Rattle.rv_isa.specs.declared.Instr.{Instr}
use Rattle.rv_isa.specs.Table.{decode}
use Rattle.rv_hart.specs.declared.Need.{Need}
use Rattle.rv_hart.specs.declared.Need.TheVariants as need
use Rattle.rv_hart.specs.Local.{local, reg}
use Rattle.machine.specs.declared.phase.Phase.{Phase}
use Rattle.machine.specs.declared.phase.Phase.TheVariants as phase
use Rattle.machine.specs.Actors.{ActorState, bits_of, slot_held}
use Rattle.machine.specs.Cells.{Cells, slot_in, stream_in}
use Rattle.machine.specs.Children.{is_child}
use Rattle.machine.specs.Worlds.{WorldState, with_actor}
use Rattle.run_laws.specs.Requests.{buffer_bytes, path_at, is_room, bits_to_open, file_of, suits_gate, lent_of}
use Rattle.run_laws.specs.Allowed.{may_use, may_be_opened, is_source, fits_kind, answered_hart}
use Rattle.run_laws.specs.Holding.{gate_for, loan_lacks, is_loan}
use Rattle.callgate.specs.declared.gate.Gate.{Gate}

abbrev pub fuel_short : ℕ
fuel_short = 3

abbrev pub full : ℕ
full = 2

abbrev pub deep : ℕ
deep = 4

abbrev pub no_such : ℕ
no_such = 5

abbrev pub bad : ℕ
bad = 6

-- ---- in the instruction, once its unit of fuel is taken

-- fd_close: a number that no descriptor has
abbrev pub number_refusal : ℕ → Option ℕ
number_refusal fd = if nat_lt fd most_fds then None else Some no_such

-- fd_read and fd_append: a buffer that does not fit; more bytes than there is fuel; a number that
-- no descriptor has
abbrev pub transfer_refusal : ActorState → ℕ → ℕ → Option ℕ
transfer_refusal a fd n = if nat_le n a.fuel then number_refusal fd else Some fuel_short

abbrev pub read_refusal : ActorState → ℕ → ℕ → Bool → Option ℕ
read_refusal a fd n fits = if fits then transfer_refusal a fd n else Some bad

abbrev pub append_refusal : ActorState → ℕ → ℕ → Option (List ℕ) → Option ℕ
append_refusal a fd n None = Some bad
append_refusal a fd n (Some bytes) = transfer_refusal a fd n

-- file_open: bits that are neither 1 nor 2, a buffer that does not fit, or that holds no path; more
-- bytes than there is fuel; no such file; and, where its user may open it so, a file of the other
-- kind
abbrev pub file_refusal : ActorState → FdBits → Option FileEntry → Option ℕ
file_refusal a b None = Some no_such
file_refusal a b (Some f) = if may_be_opened a.sheet.user f b && not (fits_kind f.kind b) then Some bad else None

abbrev pub open_refusal : Image → ActorState → ℕ → Option FdBits → Option (List ℕ) → Option ℕ
open_refusal i a n None path = Some bad
open_refusal i a n (Some b) None = Some bad
open_refusal i a n (Some b) (Some path) = if nat_le n a.fuel then file_refusal a b (file_of i path) else Some fuel_short

-- sthread_create: no such draft; no procedure at the entry; and where every grant of the draft may
-- be given, a name that has 32 parts already, or less fuel than the child is to have
abbrev pub start_refusal : ActorState → Option Denial → Option ℕ
start_refusal a (Some d) = None
start_refusal a None =
    if not (nat_lt (length a.name) 32) then Some deep
    else if nat_lt a.fuel (reg a.hart.regs 13) then Some fuel_short
    else None

abbrev pub create_refusal : Image → ActorState → ℕ → Option Draft → Option ℕ
create_refusal i a entry None = Some no_such
create_refusal i a entry (Some d) = if not (list_any (λ p. p.address == entry) i.procedures) then Some bad else start_refusal a (first_excess a.sheet a.made d)

-- cgate_make: no such draft; no procedure at the entry, a kind that is neither 0 nor 1, or a draft
-- with a user or a root directory
abbrev pub make_refusal : Image → ℕ → ℕ → Option Draft → Option ℕ
make_refusal i entry kind None = Some no_such
make_refusal i entry kind (Some d) = if suits_gate i entry kind d then None else Some bad

-- cgate: where the actor holds a gate at the entry, no such draft; a draft that may not be lent;
-- and where every grant of it may be given, a name that has 32 parts already, or less fuel than the
-- gate's
abbrev pub entry_refusal : ActorState → Gate → Option Denial → Option ℕ
entry_refusal a g (Some d) = None
entry_refusal a g None =
    if not (nat_lt (length a.name) 32) then Some deep
    else if nat_lt a.fuel g.fuel then Some fuel_short
    else None

abbrev pub lending_refusal : ActorState → Gate → Option (Option Draft) → Option ℕ
lending_refusal a g None = Some no_such
lending_refusal a g (Some lent) = if not (is_loan lent) then Some bad else entry_refusal a g (loan_lacks a lent)

abbrev pub enter_refusal : ActorState → Option Gate → Option (Option Draft) → Option ℕ
enter_refusal a None lent = None
enter_refusal a (Some g) lent = lending_refusal a g lent

-- sthread_join: a number that is of no child to be joined
abbrev pub join_refusal : ActorState → ℕ → Option ℕ
join_refusal a k = if is_child a.unjoined k then None else Some no_such

-- tag_new: pages that are not 1 to 16
abbrev pub pages_refusal : ℕ → Option ℕ
pages_refusal n = if nat_lt 0 n && nat_lt n 17 then None else Some bad

-- smalloc: a size of 0
abbrev pub size_refusal : ℕ → Option ℕ
size_refusal size = if size == 0 then Some bad else None

-- sfree: an address outside the windows
abbrev pub address_refusal : Option Place → Option ℕ
address_refusal None = Some bad
address_refusal (Some p) = None

-- sc_new: 64 drafts are there
abbrev pub new_refusal : List Draft → Option ℕ
new_refusal ds = if nat_lt (length ds) 64 then None else Some full

-- sc_mem_add: no such draft; a right that is not 1, 2 or 3; a draft without room, to which the tag
-- is new
abbrev pub right_refusal : ℕ → ℕ → Option Draft → Option ℕ
right_refusal tag right None = Some no_such
right_refusal tag right (Some d) = if not ((right == 1) || ((right == 2) || (right == 3))) then Some bad else if takes_tag d tag then None else Some full

-- sc_fd_add: the same, of a descriptor and its bits
abbrev pub bits_refusal : ℕ → ℕ → Option Draft → Option ℕ
bits_refusal fd bits None = Some no_such
bits_refusal fd bits (Some d) = if not ((bits == 1) || ((bits == 2) || (bits == 3))) then Some bad else if takes_fd d fd then None else Some full

-- sc_cgate_add: no such draft; no procedure at the entry; a draft without room, to which the entry
-- is new
abbrev pub gate_refusal : Image → ℕ → Option Draft → Option ℕ
gate_refusal i entry None = Some no_such
gate_refusal i entry (Some d) =
    if not (list_any (λ p. p.address == entry) i.procedures) then Some bad
    else if takes_gate d entry then None
    else Some full

-- sc_user: no such draft
abbrev pub user_refusal : Option Draft → Option ℕ
user_refusal None = Some no_such
user_refusal (Some d) = None

-- sc_root: no such draft; a buffer that does not fit, or that holds no path; more bytes than there
-- is fuel
abbrev pub root_refusal : ActorState → ℕ → Option (List ℕ) → Option Draft → Option ℕ
root_refusal a n path None = Some no_such
root_refusal a n None (Some d) = Some bad
root_refusal a n (Some path) (Some d) = if nat_le n a.fuel then None else Some fuel_short

abbrev pub draft_refusal : Image → ActorState → List ℕ → ℕ → Option ℕ
draft_refusal i a regs n =
    if n == 7 then new_refusal a.drafts
    else if n == 8 then right_refusal (reg regs 11) (reg regs 12) (slice_get a.drafts (reg regs 10))
    else if n == 9 then bits_refusal (reg regs 11) (reg regs 12) (slice_get a.drafts (reg regs 10))
    else if n == 10 then gate_refusal i (reg regs 11) (slice_get a.drafts (reg regs 10))
    else if n == 11 then user_refusal (slice_get a.drafts (reg regs 10))
    else if n == 12 then root_refusal a (reg regs 12) (path_at i a (reg regs 11) (reg regs 12)) (slice_get a.drafts (reg regs 10))
    else Some bad

-- exit is never refused, and a number that is no call is bad
abbrev pub call_refusal : Image → ActorState → List ℕ → ℕ → Option ℕ
call_refusal i a regs n =
    if n == 0 then None
    else if n == 1 then create_refusal i a (reg regs 11) (slice_get a.drafts (reg regs 10))
    else if n == 2 then join_refusal a (reg regs 10)
    else if n == 3 then pages_refusal (reg regs 10)
    else if n == 4 then None
    else if n == 5 then size_refusal (reg regs 11)
    else if n == 6 then address_refusal (slot_of (reg regs 10))
    else if n == 13 then make_refusal i (reg regs 11) (reg regs 14) (slice_get a.drafts (reg regs 10))
    else if n == 14 then enter_refusal a (gate_for a (reg regs 10)) (lent_of a.drafts (reg regs 12))
    else if n == 15 then read_refusal a (reg regs 10) (reg regs 12) (is_room a (reg regs 11) (reg regs 12))
    else if n == 16 then append_refusal a (reg regs 10) (reg regs 12) (buffer_bytes i a (reg regs 11) (reg regs 12))
    else if n == 17 then number_refusal (reg regs 10)
    else if n == 18 then open_refusal i a (reg regs 11) (bits_to_open (reg regs 12)) (path_at i a (reg regs 10) (reg regs 11))
    else draft_refusal i a regs n

abbrev pub need_refusal : Image → ActorState → Need → Option ℕ
need_refusal i a need.Call = call_refusal i a a.hart.regs (reg a.hart.regs 17)
need_refusal i a n = None

abbrev pub instr_refusal : Image → ActorState → Option Instr → Option ℕ
instr_refusal i a None = None
instr_refusal i a (Some ins) = need_refusal i a (local ins a.hart).need

abbrev pub word_refusal : Image → ActorState → Option ℕ → Option ℕ
word_refusal i a None = None
word_refusal i a (Some word) = instr_refusal i a (decode word)

abbrev pub refusal_at : Image → ActorState → Option ℕ
refusal_at i a = word_refusal i a (fetch i a.hart.pc)

-- ---- at the event

-- a call on a stream: a descriptor that is not live; and, where it is, what refuses the call
-- besides
abbrev pub live_refusal : (Stream → Option ℕ) → Option Stream → Option ℕ
live_refusal besides None = Some no_such
live_refusal besides (Some s) = if s.live then besides s else Some no_such

-- fd_read: where the bit to read is held, an append stream; fd_append: where the bit to append is
-- held, a source; and fd_close: nothing
abbrev pub kind_refusal : (held fits : Bool) → Option ℕ
kind_refusal held fits = if held && not fits then Some bad else None

abbrev pub read_refusal_after : ActorState → ℕ → Option Stream → Option ℕ
read_refusal_after a fd s = live_refusal (λ x. kind_refusal (bits_of a fd).read (is_source x.kind)) s

abbrev pub append_refusal_after : ActorState → ℕ → Option Stream → Option ℕ
append_refusal_after a fd s = live_refusal (λ x. kind_refusal (bits_of a fd).append (not (is_source x.kind))) s

abbrev pub stream_close_refusal : Option Stream → Option ℕ
stream_close_refusal s = live_refusal (λ x. None) s

-- sthread_create: 256 sthreads live, the root among them
abbrev pub life_refusal : ℕ → Option ℕ
life_refusal lives = if nat_lt lives 256 then None else Some full

-- tag_new, and file_open likewise: no number is left, or no slot, neither one that was released nor
-- one that was never used
abbrev pub is_left : Directory → List ℕ → Bool
is_left d [] = nat_lt d.unused d.places
is_left d (p ∷ ps) = true

abbrev pub slots_refusal : Directory → Option ℕ
slots_refusal d = if nat_lt d.number 4294967295 && is_left d d.released then None else Some full

-- tag_delete: the tag does not live where it was opened
abbrev pub close_refusal : ℕ → Option Segment → Option ℕ
close_refusal tag None = Some no_such
close_refusal tag (Some g) = if g.tag == tag then None else Some no_such

-- smalloc: the same; and no gap that the block fits
abbrev pub gap_refusal : Option ℕ → Option ℕ
gap_refusal None = Some full
gap_refusal (Some offset) = None

abbrev pub place_refusal : ℕ → ℕ → Option Segment → Option ℕ
place_refusal tag size None = Some no_such
place_refusal tag size (Some g) = if g.tag == tag then gap_refusal (first_fit 0 (rounded size) (length g.bytes) g.blocks) else Some no_such

-- sfree: no tag lives there; and, where the right is held, no block begins there
abbrev pub block_refusal : ActorState → ℕ → Option Segment → Option ℕ
block_refusal a offset None = Some no_such
block_refusal a offset (Some g) =
    if not (may_use a g.tag right.ReadWrite) then None
    else if is_none (block_at g.blocks offset) then Some bad
    else None

abbrev pub free_refusal : Cells → ActorState → Option Place → Option ℕ
free_refusal c a None = None
free_refusal c a (Some p) = block_refusal a p.offset (slot_in c p.slot)

abbrev pub call_refusal_after : Cells → ActorState → List ℕ → ℕ → Option ℕ
call_refusal_after c a regs n =
    if n == 1 then life_refusal c.lives
    else if n == 3 then slots_refusal c.places
    else if n == 4 then close_refusal (reg regs 10) (slot_in c (slot_held a (reg regs 10)))
    else if n == 5 then place_refusal (reg regs 10) (reg regs 11) (slot_in c (slot_held a (reg regs 10)))
    else if n == 6 then free_refusal c a (slot_of (reg regs 10))
    else if n == 15 then read_refusal_after a (reg regs 10) (stream_in c (reg regs 10))
    else if n == 16 then append_refusal_after a (reg regs 10) (stream_in c (reg regs 10))
    else if n == 17 then stream_close_refusal (stream_in c (reg regs 10))
    else None

abbrev pub need_refusal_after : Cells → ActorState → Need → Option ℕ
need_refusal_after c a need.Call = call_refusal_after c a a.hart.regs (reg a.hart.regs 17)
need_refusal_after c a n = None

abbrev pub instr_refusal_after : Cells → ActorState → Option Instr → Option ℕ
instr_refusal_after c a None = None
instr_refusal_after c a (Some ins) = need_refusal_after c a (local ins a.hart).need

abbrev pub word_refusal_after : Cells → ActorState → Option ℕ → Option ℕ
word_refusal_after c a None = None
word_refusal_after c a (Some word) = instr_refusal_after c a (decode word)

abbrev pub refusal_after : Image → Cells → ActorState → Option ℕ
refusal_after i c a = word_refusal_after c a (fetch i a.hart.pc)

-- ---- what a refusal leaves: its caller is answered 0 and the code, and all else is as before
abbrev pub refused : ActorState → ℕ → ActorState
refused a code = record a { hart = answered_hart a 0 code; phase = phase.Running }

abbrev pub RefusesIn : WorldState → ActorState → ℕ → WorldState → Type 0
RefusesIn old a zero new = Unit {0}
RefusesIn old a (suc n) new = (code : ℕ) → refusal_at old.image (record a { fuel = n }) ≡ Some code → new ≡ with_actor old (refused (record a { fuel = n }) code)

-- whether an event refuses what was asked
abbrev pub slot_refuses : SlotReply → Bool
slot_refuses slot_reply.NoSuch = true
slot_refuses slot_reply.Full = true
slot_refuses slot_reply.Bad = true
slot_refuses r = false

abbrev pub stream_refuses : StreamReply → Bool
stream_refuses stream_reply.NoSuch = true
stream_refuses stream_reply.Bad = true
stream_refuses r = false

abbrev pub is_refusal : Event → Bool
is_refusal (event.Slots q directory_reply.Full) = true
is_refusal (event.Fds q directory_reply.Full) = true
is_refusal (event.Slot slot q r) = slot_refuses r
is_refusal (event.Fd fd q r) = stream_refuses r
is_refusal (event.Lives q lives_reply.Full) = true
is_refusal e = false

-- an event refuses exactly where the row of its call has a code for it
pub record RefusesAt (old : WorldState) (a : ActorState) (e : Event) (new : WorldState) : Type 0 where
  pub refused : (code : ℕ) → refusal_after old.image old.cells a ≡ Some code → new ≡ with_actor old (refused a code)
  pub passed : refusal_after old.image old.cells a ≡ None → is_refusal e ≡ false

-- file_open: no number is left for the descriptor; its stream is opened without fail
pub record RefusesNumber (old : WorldState) (a : ActorState) (e : Event) (new : WorldState) : Type 0 where
  pub refused : (code : ℕ) → slots_refusal old.cells.numbers ≡ Some code → new ≡ with_actor old (refused a code)
  pub passed : slots_refusal old.cells.numbers ≡ None → is_refusal e ≡ false

abbrev pub RefusesOpening : WorldState → ActorState → Option ℕ → Event → WorldState → Type 0
RefusesOpening old a None e new = RefusesNumber old a e new
RefusesOpening old a (Some fd) e new = is_refusal e ≡ false

abbrev pub RefusesAfter : WorldState → ActorState → Phase → Event → WorldState → Type 0
RefusesAfter old a (phase.Within q) e new = RefusesAt old a e new
RefusesAfter old a (phase.OpeningFile o) e new = RefusesOpening old a o.number e new
RefusesAfter old a p e new = is_refusal e ≡ false

-- a call is refused with the code of its row
abbrev pub RefusesByRow : WorldState → ActorState → Option Event → WorldState → Type 0
RefusesByRow old a None new = RefusesIn old a a.fuel new
RefusesByRow old a (Some e) new = RefusesAfter old a a.phase e new
