-- Ranges of memory: the private range and an image's data.
use Rattle.std.specs.Prelude.{ℕ, ◌+◌, ◌-◌, Bool, ◌&&◌, List, [], ◌∷◌, length, find, slice_range, Option, nat_le, if◌then◌else◌}
use Rattle.wedge_base.specs.Bytes.{overwrite}
use Rattle.wedge_base.specs.declared.image.MemoryRange.{MemoryRange}

-- whether so many bytes from an address on lie in a range
abbrev pub lies_in : ℕ → ℕ → MemoryRange → Bool
lies_in address n r = nat_le r.base address && nat_le (address + n) (r.base + length r.bytes)

-- the range in which they lie
abbrev pub range_at : List MemoryRange → ℕ → ℕ → Option MemoryRange
range_at rs address n = find (lies_in address n) rs

-- the bytes at an address of a range
abbrev pub read_range : MemoryRange → ℕ → ℕ → List ℕ
read_range r address n = slice_range r.bytes (address - r.base) (address - r.base + n)

-- the range with bytes written at an address
abbrev pub write_range : ℕ → List ℕ → MemoryRange → MemoryRange
write_range address new r = record r { bytes = overwrite r.bytes (address - r.base) new }

-- the memory with bytes written at an address, in the range in which they lie
abbrev pub write_at : List MemoryRange → ℕ → List ℕ → List MemoryRange
write_at [] address new = []
write_at (r ∷ rs) address new = if lies_in address (length new) r then write_range address new r ∷ rs else r ∷ write_at rs address new
