-- The program of an ELF file: what it gives of an image.
use Rattle.std.specs.Prelude.{◌≡◌, ℕ, ◌+◌, ◌*◌, ◌<◌, List, length, Option, Some, None}
use Rattle.std.specs.List.{sum_by}
use Rattle.wedge_base.specs.declared.image.Procedure.{Procedure}
use Rattle.wedge_base.specs.declared.image.MemoryRange.{MemoryRange}

pub record Program : Type 0 where
  pub base : ℕ
  pub words : List ℕ
  pub ranges : List MemoryRange
  pub procedures : List Procedure
  pub entry : ℕ

-- the bytes of the text and the data together
abbrev pub size_of : Program → ℕ
size_of p = 4 * length p.words + sum_by (λ r. length r.bytes) p.ranges

-- what so many bytes leave of so much room, if there is room for them
abbrev pub IsRoomLeft : ℕ → ℕ → Option ℕ → Type 0
IsRoomLeft room size None = room < size
IsRoomLeft room size (Some left) = left + size ≡ room
