-- Parts whose numbers and lengths fit the four bytes in which an encoding writes them.
use Rattle.std.specs.Prelude.{◌≡◌, ℕ, ◌+◌, ◌^◌, ◌<◌, List, length, Option, Some, None}
use Rattle.std.specs.List.{AllByRecursion}
use Rattle.wedge_base.specs.Images.{Image}
use Rattle.wedge_base.specs.declared.image.Procedure.{Procedure}
use Rattle.wedge_base.specs.declared.image.MemoryRange.{MemoryRange}
use Rattle.wedge_base.specs.declared.image.TagEntry.{TagEntry}
use Rattle.wedge_base.specs.declared.image.FdEntry.{FdEntry}
use Rattle.wedge_base.specs.declared.image.FileEntry.{FileEntry}

pub record WordFits (w : ℕ) : Type 0 where
  pub small : w < 2 ^ 32

pub record ProcedureFits (p : Procedure) : Type 0 where
  pub address : p.address < 2 ^ 32

pub record RangeFits (r : MemoryRange) : Type 0 where
  pub base : r.base < 2 ^ 32
  pub size : length r.bytes < 2 ^ 32

pub record TagFits (t : TagEntry) : Type 0 where
  pub pages : t.pages < 2 ^ 32
  pub size : length t.content < 2 ^ 32

pub record FdFits (f : FdEntry) : Type 0 where
  pub size : length f.content < 2 ^ 32

pub record FileFits (f : FileEntry) : Type 0 where
  pub owner : f.owner < 2 ^ 32
  pub mode : f.mode < 2 ^ 32
  pub size : length f.content < 2 ^ 32

-- a table of entries that fit
pub record TableFits {X : Type 0} (Fits : X → Type 0) (xs : List X) : Type 0 where
  pub count : length xs < 2 ^ 32
  pub each : AllByRecursion Fits xs

pub record PartsFit (i : Image) : Type 0 where
  pub fuel : i.fuel < 2 ^ 32
  pub base : i.base < 2 ^ 32
  pub words : TableFits WordFits i.words
  pub procedures : TableFits ProcedureFits i.procedures
  pub entry : i.entry < 2 ^ 32
  pub ranges : TableFits RangeFits i.ranges
  pub tags : TableFits TagFits i.tags
  pub fds : TableFits FdFits i.fds
  pub files : TableFits FileFits i.files
  pub user : i.user < 2 ^ 32

-- what is left of so many bytes after an encoding, if it fits
abbrev pub Leaves : ℕ → List ℕ → Option ℕ → Type 0
Leaves room text None = room < length text
Leaves room text (Some left) = left + length text ≡ room
