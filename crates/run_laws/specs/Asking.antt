-- What an instruction comes to ask of a cell, and what its event asks: read off its word, the
-- registers and private memory, whatever is in the cells and whatever they reply. A second
-- statement, beside the step.
use Rattle.std.specs.Prelude.{◌≡◌, ℕ, zero, suc, ◌==◌, ◌&&◌, List, Option, Some, None, is_some, option_map, nat_le, nat_lt, if◌then◌else◌}
use Rattle.cow_pages.specs.Copies.{copy_at}
use Rattle.wedge_base.specs.Images.{Image, fetch, slot_of}
use Rattle.wedge_base.specs.declared.address.Place.{Place}
use Rattle.wedge_base.specs.declared.rights.End.{End}
use Rattle.wedge_events.specs.Streams.{most_fds}
use Rattle.wedge_events.specs.declared.cells.DirectoryAsk.TheVariants as directory_ask
use Rattle.wedge_events.specs.declared.cells.DirectoryReply.{DirectoryReply}
use Rattle.wedge_events.specs.declared.cells.Live.{Live}
use Rattle.wedge_events.specs.declared.cells.LivesReply.{LivesReply}
use Rattle.wedge_events.specs.declared.cells.SlotAsk.TheVariants as slot_ask
use Rattle.wedge_events.specs.declared.cells.SlotReply.{SlotReply}
use Rattle.wedge_events.specs.declared.cells.StreamAsk.TheVariants as stream_ask
use Rattle.wedge_events.specs.declared.cells.StreamReply.{StreamReply}
use Rattle.wedge_events.specs.declared.events.Event.{Event}
use Rattle.wedge_events.specs.declared.events.Event.TheVariants as event
use Rattle.wedge_events.specs.declared.events.SlotWant.{SlotWant}
use Rattle.wedge_events.specs.declared.events.SlotWant.TheVariants as slot_want
use Rattle.wedge_events.specs.declared.events.Want.{Want}
use Rattle.wedge_events.specs.declared.events.Want.TheVariants as want
use Rattle.rv_isa.specs.declared.Instr.{Instr}
use Rattle.rv_isa.specs.Table.{decode}
use Rattle.rv_hart.specs.declared.Need.{Need}
use Rattle.rv_hart.specs.declared.Need.TheVariants as need
use Rattle.rv_hart.specs.Local.{local, reg}
use Rattle.machine.specs.declared.phase.Phase.{Phase}
use Rattle.machine.specs.declared.phase.Phase.TheVariants as phase
use Rattle.machine.specs.Actors.{ActorState, right_of, bits_of}
use Rattle.machine.specs.Children.{is_child}
use Rattle.machine.specs.Cells.{tag_in}
use Rattle.run_laws.specs.Requests.{reaches_window, buffer_bytes, is_room}
use Rattle.machine.specs.Worlds.{WorldState, with_actor}

-- ---- in the instruction, once its unit of fuel is taken: the event to which it comes. Of the calls
-- that are not here, those that come to an event say so where they are done (`IsDone`).

-- a load or a store that reaches a window, where the actor has no private copy at the slot
abbrev pub window_want : ActorState → (ℕ → SlotWant) → Option Place → Option Want
window_want a of None = None
window_want a of (Some p) = if is_some (copy_at a.memory.copies p.slot) then None else Some (want.Slot p.slot (of p.offset))

-- sfree: an address in a window
abbrev pub free_want : Option Place → Option Want
free_want p = option_map (λ x. want.Slot x.slot (slot_want.Sfree x.offset)) p

-- fd_read, fd_append, fd_close: the buffer fits, the fuel is enough, and the number is that of a
-- descriptor, on which the actor has these bits
abbrev pub read_want : ActorState → ℕ → ℕ → ℕ → Option Want
read_want a fd pointer n = if is_room a pointer n && (nat_le n a.fuel && nat_lt fd most_fds) then Some (want.Fd fd (stream_ask.Read (bits_of a fd) n)) else None

abbrev pub append_want : ActorState → ℕ → ℕ → Option (List ℕ) → Option Want
append_want a fd n None = None
append_want a fd n (Some bytes) = if nat_le n a.fuel && nat_lt fd most_fds then Some (want.Fd fd (stream_ask.Append (bits_of a fd) bytes)) else None

abbrev pub close_want : ActorState → ℕ → Option Want
close_want a fd = if nat_lt fd most_fds then Some (want.Fd fd (stream_ask.Close (bits_of a fd))) else None

-- sthread_join: a child that is not joined; tag_new: 1 to 16 pages
abbrev pub join_want : ActorState → ℕ → Option Want
join_want a k = if is_child a.unjoined k then Some (want.Join k) else None

abbrev pub claim_want : ℕ → Option Want
claim_want pages = if nat_lt 0 pages && nat_lt pages 17 then Some (want.Slots directory_ask.Claim) else None

abbrev pub call_want : Image → ActorState → List ℕ → ℕ → Option Want
call_want i a regs n =
    if n == 2 then join_want a (reg regs 10)
    else if n == 3 then claim_want (reg regs 10)
    else if n == 6 then free_want (slot_of (reg regs 10))
    else if n == 15 then read_want a (reg regs 10) (reg regs 11) (reg regs 12)
    else if n == 16 then append_want a (reg regs 10) (reg regs 12) (buffer_bytes i a (reg regs 11) (reg regs 12))
    else if n == 17 then close_want a (reg regs 10)
    else None

abbrev pub need_want : Image → ActorState → Need → Option Want
need_want i a (need.Load address width is_signed) = if reaches_window i a address width then window_want a (λ offset. slot_want.Load offset width) (slot_of address) else None
need_want i a (need.Store address width value) = if reaches_window i a address width then window_want a (λ offset. slot_want.Store offset width value) (slot_of address) else None
need_want i a need.Call = call_want i a a.hart.regs (reg a.hart.regs 17)
need_want i a n = None

abbrev pub instr_want : Image → ActorState → Option Instr → Option Want
instr_want i a None = None
instr_want i a (Some ins) = need_want i a (local ins a.hart).need

abbrev pub word_want : Image → ActorState → Option ℕ → Option Want
word_want i a None = None
word_want i a (Some word) = instr_want i a (decode word)

abbrev pub want_at : Image → ActorState → Option Want
want_at i a = word_want i a (fetch i a.hart.pc)

abbrev pub ComesWith : WorldState → ActorState → ℕ → WorldState → Type 0
ComesWith old a zero new = Unit {0}
ComesWith old a (suc n) new = (q : Want) → want_at old.image (record a { fuel = n }) ≡ Some q → new ≡ with_actor old (record a { fuel = n; phase = phase.Within q })

-- ---- at the event: it asks what its actor came to, and nothing else can be come to there

-- the tag that lives in a slot, with the actor's right on it
abbrev pub living_in : WorldState → ActorState → ℕ → Option Live
living_in w a slot = option_map (λ tag. record { tag = tag; right = right_of a tag }) (tag_in w.cells slot)

abbrev pub AsksSlot : Option Live → ℕ → SlotWant → Event → Type 0
AsksSlot live slot (slot_want.Load offset width) e = (r : SlotReply) × (e ≡ event.Slot slot (slot_ask.Load width offset live) r)
AsksSlot live slot (slot_want.Store offset width value) e = (r : SlotReply) × (e ≡ event.Slot slot (slot_ask.Store width offset value live) r)
AsksSlot live slot (slot_want.Smalloc tag size) e = (r : SlotReply) × (e ≡ event.Slot slot (slot_ask.Smalloc tag size) r)
AsksSlot live slot (slot_want.Sfree offset) e = (r : SlotReply) × (e ≡ event.Slot slot (slot_ask.Sfree offset live) r)
AsksSlot live slot (slot_want.Close tag) e = (r : SlotReply) × (e ≡ event.Slot slot (slot_ask.Close tag) r)
AsksSlot live slot q e = ⊥

abbrev pub AsksFor : WorldState → ActorState → Want → Event → Type 0
AsksFor w a (want.Slot slot q) e = AsksSlot (living_in w a slot) slot q e
AsksFor w a (want.Slots q) e = (r : DirectoryReply) × (e ≡ event.Slots q r)
AsksFor w a (want.Fd fd q) e = (r : StreamReply) × (e ≡ event.Fd fd q r)
AsksFor w a (want.Lives q) e = (r : LivesReply) × (e ≡ event.Lives q r)
AsksFor w a (want.Join k) e = (end_ : End) × (fuel : ℕ) × (e ≡ event.Join k end_ fuel)
AsksFor w a q e = ⊥

-- a file that is opened, while no number is claimed for its descriptor: one is asked for
abbrev pub AsksNumber : Option ℕ → Event → Type 0
AsksNumber None e = (r : DirectoryReply) × (e ≡ event.Fds directory_ask.Claim r)
AsksNumber (Some fd) e = Unit {0}

abbrev pub AsksAt : WorldState → ActorState → Phase → Event → Type 0
AsksAt old a (phase.Within q) e = AsksFor old a q e
AsksAt old a (phase.OpeningFile o) e = AsksNumber o.number e
AsksAt old a p e = Unit {0}

-- whoever comes to an event asks there what its instruction says
abbrev pub AsksByWord : WorldState → ActorState → Option Event → WorldState → Type 0
AsksByWord old a None new = ComesWith old a a.fuel new
AsksByWord old a (Some e) new = AsksAt old a a.phase e
