-- Private copies of tags: the slot of each, in order, with its bytes.
use Rattle.std.specs.Prelude.{ℕ, ◌+◌, Bool, not, List, length, slice_range, Option, Some, None, nat_le, if◌then◌else◌}
use Rattle.std.specs.BTreeMap.{insert_entry, is_at}
use Rattle.std.specs.List.{filter}
use Rattle.std.specs.Map.{lookup}
use Rattle.std.specs.Ordering.{nat_cmp}
use Rattle.wedge_base.specs.Bytes.{overwrite}

abbrev pub Copies : Type 0
Copies = List (ℕ × List ℕ)

-- whether a slot is that one
abbrev pub is_slot : ℕ → ℕ → Bool
is_slot slot other = is_at (nat_cmp slot) other

-- the bytes of the copy at a slot, if there is one
abbrev pub copy_at : Copies → ℕ → Option (List ℕ)
copy_at copies slot = lookup (is_slot slot) copies

-- a copy put at a slot, in place of the one that is there, and the copies without one
abbrev pub with_copy : Copies → ℕ → List ℕ → Copies
with_copy copies slot bytes = insert_entry nat_cmp copies slot bytes

abbrev pub without_copy : Copies → ℕ → Copies
without_copy copies slot = filter (λ c. not (is_slot slot c.0)) copies

-- whether so many bytes from an offset on are among the bytes of a copy
abbrev pub holds_copy : ℕ → ℕ → List ℕ → Bool
holds_copy offset n bytes = nat_le (offset + n) (length bytes)

-- those bytes, if they are
abbrev pub read_copy : ℕ → ℕ → List ℕ → Option (List ℕ)
read_copy offset n bytes = if holds_copy offset n bytes then Some (slice_range bytes offset (offset + n)) else None

-- the copies after a store at an offset of the copy at a slot; the last argument is that copy's
-- bytes
abbrev pub stored_in : Copies → ℕ → ℕ → List ℕ → Option (List ℕ) → Copies
stored_in copies slot offset new None = copies
stored_in copies slot offset new (Some bytes) =
    if holds_copy offset (length new) bytes then with_copy copies slot (overwrite bytes offset new) else copies

-- the copies with bytes written at an offset of the copy at a slot, if it has bytes there
abbrev pub stored_copy : Copies → ℕ → ℕ → List ℕ → Copies
stored_copy copies slot offset new = stored_in copies slot offset new (copy_at copies slot)
