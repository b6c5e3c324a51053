-- The one encoding of an image: its fields in order, numbers little-endian.
use Rattle.std.specs.Prelude.{ℕ, ◌+◌, min, List, [], ◌∷◌, ◌++◌, length, Option, Some, None, if◌then◌else◌}
use Rattle.std.specs.List.{flat_map, concat}
use Rattle.std.specs.Int.{w16, w32, to_le_bytes}
use Rattle.wedge_base.specs.Images.{Image}
use Rattle.wedge_base.specs.Rights.{rank}
use Rattle.wedge_base.specs.declared.image.Procedure.{Procedure}
use Rattle.wedge_base.specs.declared.image.MemoryRange.{MemoryRange}
use Rattle.wedge_base.specs.declared.image.TagEntry.{TagEntry}
use Rattle.wedge_base.specs.declared.image.FdEntry.{FdEntry}
use Rattle.wedge_base.specs.declared.image.FileEntry.{FileEntry}
use Rattle.wedge_base.specs.declared.rights.Right.{Right}
use Rattle.wedge_base.specs.declared.rights.FdBits.{FdBits}
use Rattle.wedge_base.specs.declared.rights.StreamKind.{StreamKind}
use Rattle.wedge_base.specs.declared.rights.StreamKind.TheVariants as kind

-- the most bytes of an image's file
abbrev pub most_bytes : ℕ
most_bytes = 16777216

-- the number that is encoded `WEDG`
abbrev pub magic : ℕ
magic = 0x47444557

abbrev pub version : ℕ
version = 1

-- four bytes
unfoldable pub encode_number : ℕ → List ℕ
encode_number n = to_le_bytes w32 n

-- The bytes of a string after their length in two bytes. A string of more than 65,535 bytes, which
-- no rule allows, is written with the length 65,535.
unfoldable pub encode_string : List ℕ → List ℕ
encode_string text = to_le_bytes w16 (min (length text) 65535) ++ text

-- bytes after their length in four bytes
unfoldable pub encode_content : List ℕ → List ℕ
encode_content bytes = encode_number (length bytes) ++ bytes

-- entries after their count
abbrev pub encode_table : {X : Type 0} → (X → List ℕ) → List X → List ℕ
encode_table entry xs = encode_number (length xs) ++ flat_map entry xs

abbrev pub encode_procedure : Procedure → List ℕ
encode_procedure p = encode_string p.name ++ encode_number p.address

abbrev pub encode_range : MemoryRange → List ℕ
encode_range r = encode_number r.base ++ encode_content r.bytes

-- 0 none, 1 Cow, 2 Read, 3 ReadWrite
abbrev pub right_code : Option Right → ℕ
right_code None = 0
right_code (Some r) = rank r

abbrev pub encode_tag : TagEntry → List ℕ
encode_tag t = concat (encode_string t.name ∷ encode_number t.pages ∷ encode_number (right_code t.right) ∷ encode_content t.content ∷ [])

abbrev pub kind_code : StreamKind → ℕ
kind_code kind.Source = 0
kind_code kind.Append = 1

-- bit 0 read, bit 1 append
abbrev pub bits_code : FdBits → ℕ
bits_code b = (if b.read then 1 else 0) + (if b.append then 2 else 0)

abbrev pub encode_fd : FdEntry → List ℕ
encode_fd f = concat (encode_string f.name ∷ encode_number (kind_code f.kind) ∷ encode_number (bits_code f.bits) ∷ encode_content f.content ∷ [])

abbrev pub encode_file : FileEntry → List ℕ
encode_file f = concat (encode_string f.path ∷ encode_number f.owner ∷ encode_number f.mode ∷ encode_number (kind_code f.kind) ∷ encode_content f.content ∷ [])

unfoldable pub encoding : Image → List ℕ
encoding i = concat (
    encode_number magic ∷ encode_number version ∷ encode_number i.fuel ∷ encode_number i.base ∷ encode_table encode_number i.words
    ∷ encode_table encode_procedure i.procedures ∷ encode_number i.entry ∷ encode_table encode_range i.ranges
    ∷ encode_table encode_tag i.tags ∷ encode_table encode_fd i.fds ∷ encode_table encode_file i.files
    ∷ encode_number i.user ∷ encode_string i.root ∷ [])
