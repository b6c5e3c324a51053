-- The private memory of an actor.
use Rattle.std.specs.Prelude.{List, [], ◌∷◌}
use Rattle.wedge_base.specs.Bytes.{zeros}
use Rattle.wedge_base.specs.Images.{private_base, private_size}
use Rattle.wedge_base.specs.declared.image.MemoryRange.{MemoryRange}
use Rattle.cow_pages.specs.Copies.{Copies}

-- the private range and the data ranges, and the private copies of tags
pub record PrivateMemory : Type 0 where
  pub ranges : List MemoryRange
  pub copies : Copies

-- as an actor begins: a private range of zeros, its data ranges, and no copies
abbrev pub opening_memory : List MemoryRange → PrivateMemory
opening_memory ranges = record {
  ranges = record { base = private_base; bytes = zeros private_size } ∷ ranges;
  copies = [];
}

-- no range and no copy
abbrev pub no_memory : PrivateMemory
no_memory = record { ranges = []; copies = [] }
