-- Loads, stores and buffers: the text, private memory, and the windows of tags.
use Rattle.std.specs.Prelude.{◌≡◌, ◌⊎◌, ℕ, ◌%◌, ◌==◌, Bool, not, ◌&&◌, ◌||◌, List, [], Option, Some, None, is_some, nat_le, if◌then◌else◌}
use Rattle.cow_pages.specs.Copies.{copy_at, holds_copy, read_copy, with_copy}
use Rattle.wedge_base.specs.Bytes.{number_of, bytes_of, overwrite}
use Rattle.wedge_base.specs.Memory.{range_at, read_range, write_at}
use Rattle.wedge_base.specs.Images.{Image, in_text, read_text, slot_of}
use Rattle.wedge_base.specs.declared.address.Place.{Place}
use Rattle.wedge_base.specs.declared.image.MemoryRange.{MemoryRange}
use Rattle.wedge_events.specs.declared.events.SlotWant.TheVariants as slot_want
use Rattle.wedge_events.specs.declared.events.Want.TheVariants as want
use Rattle.wedge_base.specs.declared.rights.End.TheVariants as end_
use Rattle.rv_isa.specs.declared.Instr.{Instr}
use Rattle.rv_hart.specs.Local.{extended, hart_after_load, hart_after_store}
use Rattle.machine.specs.Actors.{ActorState, ends, wants}

-- an access is of 1, 2 or 4 bytes
abbrev pub IsWidth : ℕ → Type 0
IsWidth width = (width ≡ 1) ⊎ (width ≡ 2) ⊎ (width ≡ 4)

-- a load that gave this value
abbrev pub has_loaded : Instr → Bool → ActorState → ℕ → ℕ → ActorState
has_loaded ins is_signed a width value = record a { hart = hart_after_load ins a.hart (extended width is_signed value) }

-- a store that was made
abbrev pub has_stored : ActorState → ActorState
has_stored a = record a { hart = hart_after_store a.hart }

-- a load of a private copy: past its pages there is nothing
abbrev pub load_bytes : Instr → Bool → ActorState → ℕ → Option (List ℕ) → ActorState
load_bytes ins is_signed a width None = ends a end_.Unmapped
load_bytes ins is_signed a width (Some bytes) = has_loaded ins is_signed a width (number_of bytes)

-- a load in a window is of the actor's private copy at that slot; where it has none, it is a shared
-- event
abbrev pub load_copy : Instr → Bool → ActorState → ℕ → Place → Option (List ℕ) → ActorState
load_copy ins is_signed a width p None = wants a (want.Slot p.slot (slot_want.Load p.offset width))
load_copy ins is_signed a width p (Some bytes) = load_bytes ins is_signed a width (read_copy p.offset width bytes)

abbrev pub load_window : Instr → Bool → ActorState → ℕ → Option Place → ActorState
load_window ins is_signed a width None = ends a end_.Unmapped
load_window ins is_signed a width (Some p) = load_copy ins is_signed a width p (copy_at a.memory.copies p.slot)

-- a load of private memory
abbrev pub load_range : Instr → Bool → ActorState → ℕ → ℕ → Option MemoryRange → ActorState
load_range ins is_signed a address width (Some r) = has_loaded ins is_signed a width (number_of (read_range r address width))
load_range ins is_signed a address width None = load_window ins is_signed a width (slot_of address)

-- a load: an address that is no multiple of the width, the text, private memory, a window
abbrev pub loads : Image → Instr → Bool → ActorState → ℕ → ℕ → ActorState
loads i ins is_signed a address width =
    if not (address % width == 0) then ends a end_.Misaligned
    else if in_text i address width then has_loaded ins is_signed a width (number_of (read_text i address width))
    else load_range ins is_signed a address width (range_at a.memory.ranges address width)

-- an actor with these bytes in its private copy at a slot
abbrev pub with_bytes : ActorState → ℕ → List ℕ → ActorState
with_bytes a slot bytes = record a { memory = record a.memory { copies = with_copy a.memory.copies slot bytes } }

-- a store in a window is into the actor's private copy at that slot; where it has none, it is a
-- shared event
abbrev pub store_copy : ActorState → ℕ → ℕ → Place → Option (List ℕ) → ActorState
store_copy a width value p None = wants a (want.Slot p.slot (slot_want.Store p.offset width value))
store_copy a width value p (Some bytes) =
    if holds_copy p.offset width bytes then has_stored (with_bytes a p.slot (overwrite bytes p.offset (bytes_of width value)))
    else ends a end_.Unmapped

abbrev pub store_window : ActorState → ℕ → ℕ → Option Place → ActorState
store_window a width value None = ends a end_.Unmapped
store_window a width value (Some p) = store_copy a width value p (copy_at a.memory.copies p.slot)

-- a store into private memory
abbrev pub store_range : ActorState → ℕ → ℕ → ℕ → Option MemoryRange → ActorState
store_range a address width value (Some r) = has_stored (record a { memory = record a.memory { ranges = write_at a.memory.ranges address (bytes_of width value) } })
store_range a address width value None = store_window a width value (slot_of address)

-- a store: an address that is no multiple of the width, the text, private memory, a window
abbrev pub stores : Image → ActorState → ℕ → ℕ → ℕ → ActorState
stores i a address width value =
    if not (address % width == 0) then ends a end_.Misaligned
    else if in_text i address width then ends a end_.TextStore
    else store_range a address width value (range_at a.memory.ranges address width)

abbrev pub most_buffer : ℕ
most_buffer = 256

-- whether a buffer that is read fits: it is empty, or lies wholly in one private range or in the
-- text
abbrev pub fits_read : Image → ActorState → ℕ → ℕ → Bool
fits_read i a pointer n = nat_le n most_buffer && ((n == 0) || is_some (range_at a.memory.ranges pointer n) || in_text i pointer n)

-- whether a buffer that is written fits: it is empty, or lies wholly in one private range
abbrev pub fits_write : ActorState → ℕ → ℕ → Bool
fits_write a pointer n = nat_le n most_buffer && ((n == 0) || is_some (range_at a.memory.ranges pointer n))

abbrev pub buffer_in : Image → ℕ → ℕ → Option MemoryRange → List ℕ
buffer_in i pointer n (Some r) = read_range r pointer n
buffer_in i pointer n None = read_text i pointer n

-- the bytes of a buffer that fits
abbrev pub buffer : Image → ActorState → ℕ → ℕ → List ℕ
buffer i a pointer n = if n == 0 then [] else buffer_in i pointer n (range_at a.memory.ranges pointer n)
