-- Ranges of memory that lie below the windows of tags.
use Rattle.std.specs.Prelude.{◌+◌, ◌≤◌, List, [], ◌∷◌, length}
use Rattle.wedge_base.specs.Images.{windows_base}
use Rattle.wedge_base.specs.declared.image.MemoryRange.{MemoryRange}

-- each of the ranges ends at or below the first window
abbrev pub AreBelow : List MemoryRange → Type 0
AreBelow [] = Unit {0}
AreBelow (r ∷ rs) = (r.base + length r.bytes ≤ windows_base) × AreBelow rs
