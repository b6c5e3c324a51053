-- The private bytes of an actor, in its ranges and in its copies of tags: a load gives what is
-- there, a store writes its own bytes and no others, and nothing else changes any, except that its
-- copy at a slot is dropped when it opens a tag there, and all of its private memory when it ends.
-- Said byte by byte, apart from the step.
use Rattle.std.specs.Prelude.{◌≡◌, ℕ, zero, suc, ◌+◌, ◌-◌, ◌%◌, ◌==◌, ◌<◌, ◌≤◌, ◌≢◌, ◌⊎◌, Bool, not, ◌&&◌, List, [], ◌∷◌, length, slice_get, Option, Some, None, IsSomeAnd, option_map, option_and_then, nat_le, if◌then◌else◌}
use Rattle.std.specs.Option.{option_or}
use Rattle.cow_pages.specs.Copies.{Copies, copy_at, read_copy, without_copy}
use Rattle.cow_pages.specs.PrivateMemory.{PrivateMemory, no_memory}
use Rattle.wedge_base.specs.Bytes.{number_of, bytes_of}
use Rattle.wedge_base.specs.Memory.{range_at, read_range}
use Rattle.wedge_base.specs.Images.{Image, fetch, in_text, read_text, slot_of}
use Rattle.wedge_base.specs.declared.address.Place.{Place}
use Rattle.wedge_events.specs.declared.cells.GateAsk.TheVariants as gate_ask
use Rattle.wedge_events.specs.declared.cells.LivesAsk.TheVariants as lives_ask
use Rattle.wedge_events.specs.declared.cells.SlotAsk.{SlotAsk}
use Rattle.wedge_events.specs.declared.cells.SlotAsk.TheVariants as slot_ask
use Rattle.wedge_events.specs.declared.cells.SlotReply.{SlotReply}
use Rattle.wedge_events.specs.declared.cells.SlotReply.TheVariants as slot_reply
use Rattle.wedge_events.specs.declared.cells.StreamReply.TheVariants as stream_reply
use Rattle.wedge_base.specs.declared.image.MemoryRange.{MemoryRange}
use Rattle.wedge_events.specs.declared.events.Event.{Event}
use Rattle.wedge_events.specs.declared.events.Event.TheVariants as event
use Rattle.rv_isa.specs.declared.Instr.{Instr}
use Rattle.rv_isa.specs.Table.{decode}
use Rattle.rv_hart.specs.declared.Need.{Need}
use Rattle.rv_hart.specs.declared.Need.TheVariants as need
use Rattle.rv_hart.specs.Local.{local, reg, put, extended}
use Rattle.machine.specs.Actors.{ActorState}
use Rattle.machine.specs.Worlds.{WorldState, actor_named}
use Rattle.run_laws.specs.Allowed.{next_word}

-- the byte of a range at an address, if it has one there; and of the k-th range
abbrev pub byte_at : ℕ → MemoryRange → Option ℕ
byte_at address r = if nat_le r.base address then slice_get r.bytes (address - r.base) else None

abbrev pub byte_in : List MemoryRange → ℕ → ℕ → Option ℕ
byte_in rs k address = option_and_then (byte_at address) (slice_get rs k)

-- the bytes at an address, where they lie in one range
abbrev pub range_bytes_at : List MemoryRange → ℕ → ℕ → Option (List ℕ)
range_bytes_at rs address n = option_map (λ r. read_range r address n) (range_at rs address n)

-- bytes are written at an address: they are read there, and each other byte of each range is as
-- before
pub record AreWritten (old new : List MemoryRange) (address : ℕ) (bytes : List ℕ) : Type 0 where
  pub read : range_bytes_at new address (length bytes) ≡ Some bytes
  pub others : (k x : ℕ) → (x < address) ⊎ (address + length bytes ≤ x) → byte_in new k x ≡ byte_in old k x

-- the byte at an offset of the copy at a slot, and the bytes at a place of the windows, where they
-- lie in the copy there
abbrev pub copied_byte : Copies → ℕ → ℕ → Option ℕ
copied_byte copies slot offset = option_and_then (λ bytes. slice_get bytes offset) (copy_at copies slot)

abbrev pub copied_bytes : Copies → ℕ → Option Place → Option (List ℕ)
copied_bytes copies n None = None
copied_bytes copies n (Some p) = option_and_then (read_copy p.offset n) (copy_at copies p.slot)

-- bytes are written at a place of the windows: they are read there, each other byte of that copy is
-- as before, and so is each other copy
pub record AreCopied (old new : Copies) (p : Place) (bytes : List ℕ) : Type 0 where
  pub read : copied_bytes new (length bytes) (Some p) ≡ Some bytes
  pub others : (x : ℕ) → (x < p.offset) ⊎ (p.offset + length bytes ≤ x) → copied_byte new p.slot x ≡ copied_byte old p.slot x
  pub beside : (slot : ℕ) → slot ≢ p.slot → copy_at new slot ≡ copy_at old slot

-- ---- an instruction, once its unit of fuel is taken: from the actor a to b

-- a load of these bytes
abbrev pub LoadsBytes : ActorState → ℕ → Bool → ℕ → List ℕ → ActorState → Type 0
LoadsBytes a rd s width bytes b = b ≡ record a { hart = record { pc = next_word a; regs = put a.hart.regs rd (extended width s (number_of bytes)) } }

abbrev pub LoadGives : ActorState → ℕ → Bool → ℕ → Option (List ℕ) → ActorState → Type 0
LoadGives a rd s width None b = b.memory ≡ a.memory
LoadGives a rd s width (Some bytes) b = LoadsBytes a rd s width bytes b

-- the bytes that a load finds in the text or in private memory, where it is aligned
abbrev pub found_by_load : Image → ActorState → ℕ → ℕ → Option (List ℕ)
found_by_load i a address width =
    if not (address % width == 0) then None
    else if in_text i address width then Some (read_text i address width)
    else option_or (range_bytes_at a.memory.ranges address width) (copied_bytes a.memory.copies width (slot_of address))

-- where a store goes: into a private range, into a private copy, or neither
pub data Target : Type 0 where
  InRange : Target
  InCopy : Place → Target
  Elsewhere : Target

-- where the bytes of a store lie: in one range, or else in a copy at a place of the windows; only
-- an aligned store outside the text goes there
abbrev pub copy_target : Option Place → Option (List ℕ) → Target
copy_target (Some p) (Some bytes) = InCopy p
copy_target p bytes = Elsewhere

abbrev pub target_among : ActorState → ℕ → ℕ → Option MemoryRange → Target
target_among a address width (Some r) = InRange
target_among a address width None = copy_target (slot_of address) (copied_bytes a.memory.copies width (slot_of address))

abbrev pub target_of : Image → ActorState → ℕ → ℕ → Target
target_of i a address width = if (address % width == 0) && not (in_text i address width) then target_among a address width (range_at a.memory.ranges address width) else Elsewhere

-- an actor that goes on to the next word with this memory
abbrev pub goes_on_with : ActorState → PrivateMemory → ActorState
goes_on_with a m = record a { memory = m; hart = record a.hart { pc = next_word a } }

abbrev pub StoreWrites : ActorState → ℕ → List ℕ → Target → ActorState → Type 0
StoreWrites a address bytes Elsewhere b = b.memory ≡ a.memory
StoreWrites a address bytes InRange b = AreWritten a.memory.ranges b.memory.ranges address bytes × (b.memory.copies ≡ a.memory.copies) × (b ≡ goes_on_with a b.memory)
StoreWrites a address bytes (InCopy p) b = AreCopied a.memory.copies b.memory.copies p bytes × (b.memory.ranges ≡ a.memory.ranges) × (b ≡ goes_on_with a b.memory)

abbrev pub NeedRemembers : Image → ℕ → ActorState → Need → ActorState → Type 0
NeedRemembers i rd a (need.Load address width s) b = LoadGives a rd s width (found_by_load i a address width) b
NeedRemembers i rd a (need.Store address width value) b = StoreWrites a address (bytes_of width value) (target_of i a address width) b
NeedRemembers i rd a n b = b.memory ≡ a.memory

abbrev pub InstrRemembers : Image → ActorState → Option Instr → ActorState → Type 0
InstrRemembers i a None b = b.memory ≡ a.memory
InstrRemembers i a (Some ins) b = NeedRemembers i ins.rd a (local ins a.hart).need b

abbrev pub WordRemembers : Image → ActorState → Option Instr → ℕ → ActorState → Type 0
WordRemembers i a ins zero b = b.memory ≡ a.memory
WordRemembers i a ins (suc n) b = InstrRemembers i (record a { fuel = n }) ins b

-- ---- at an event private memory stays, but that a read writes into it, that an actor has no copy
-- at a slot in which it opens a tag, and nothing once it has ended
abbrev pub memory_in : PrivateMemory → ℕ → SlotReply → SlotAsk → PrivateMemory
memory_in m slot slot_reply.Opened (slot_ask.Open tag pages) = record m { copies = without_copy m.copies slot }
memory_in m slot r q = m

abbrev pub memory_after : PrivateMemory → Event → PrivateMemory
memory_after m (event.Lives (lives_ask.Release x) r) = no_memory
memory_after m (event.Leave x) = no_memory
memory_after m (event.Gate id (gate_ask.Leave x left) r) = no_memory
memory_after m (event.Slot slot q r) = memory_in m slot r q
memory_after m e = m

-- a read writes the bytes that it was given, if there are any, into the buffer of its call, and
-- nothing else
abbrev pub ReadWrites : ActorState → List ℕ → ActorState → Type 0
ReadWrites a [] b = b.memory ≡ a.memory
ReadWrites a (x ∷ xs) b = AreWritten a.memory.ranges b.memory.ranges (reg a.hart.regs 11) (x ∷ xs) × (b.memory.copies ≡ a.memory.copies)

abbrev pub EventRemembers : ActorState → Event → ActorState → Type 0
EventRemembers a (event.Fd fd q (stream_reply.Given bytes)) b = ReadWrites a bytes b
EventRemembers a e b = b.memory ≡ memory_after a.memory e

abbrev pub Remembers : WorldState → ActorState → Option Event → WorldState → Type 0
Remembers old a None new = IsSomeAnd (actor_named new.actors a.name) (WordRemembers old.image a (option_and_then decode (fetch old.image a.hart.pc)) a.fuel)
Remembers old a (Some e) new = IsSomeAnd (actor_named new.actors a.name) (EventRemembers a e)
