-- The parts of an image that the tables of a partition name.
use Rattle.std.specs.Prelude.{ℕ, ◌+◌, ◌%◌, ◌^◌, Bool, false, List, [], ◌∷◌, ◌++◌, map, codes, Option, None, option_map, unwrap_or, nat_lt, find, if◌then◌else◌}
use Rattle.std.specs.Str.{bytes_eq}
use Rattle.toml.specs.Data.{Members}
use Rattle.wedge_base.specs.Bytes.{padded_to_words}
use Rattle.wedge_base.specs.Images.{address_of as address_in_window}
use Rattle.wedge_base.specs.declared.image.Procedure.{Procedure}
use Rattle.wedge_base.specs.declared.image.TagEntry.{TagEntry}
use Rattle.wedge_base.specs.declared.image.FdEntry.{FdEntry}
use Rattle.wedge_base.specs.declared.image.FileEntry.{FileEntry}
use Rattle.wedge_base.specs.declared.rights.StreamKind.{StreamKind}
use Rattle.wedge_base.specs.declared.rights.StreamKind.TheVariants as stream
use Rattle.rv_asm.specs.declared.assembled.Equate.{Equate}
use Rattle.part_toml.specs.declared.entries.NamedRange.{NamedRange}
use Rattle.part_toml.specs.declared.keys.Key.TheVariants as key
use Rattle.part_toml.specs.Values.{has_key, number_at_key, text_at, tables_at, right_named, stream_named, bits_named, fd_bits, hex_bytes}
use Rattle.stable_sort.specs.Sorting.{sorted}
use Rattle.stable_sort.specs.ByName.{tag_before, fd_before, file_before}

-- ---- the entries that tables name

-- the bytes of a table's string, or those that its digits encode
abbrev pub table_content : Members → List ℕ
table_content ms = if has_key key.Text ms then text_at key.Text ms else hex_bytes (text_at key.Hex ms)

-- the kind of the stream that a table names
abbrev pub stream_at : Members → StreamKind
stream_at ms = unwrap_or (stream_named (text_at key.Kind ms)) stream.Source

abbrev pub range_of_table : Members → NamedRange
range_of_table ms = record { name = text_at key.Name ms; range = record { base = number_at_key key.Base 0 ms; bytes = padded_to_words (table_content ms) } }

abbrev pub tag_of : Members → TagEntry
tag_of ms = record {
  name = text_at key.Name ms;
  pages = number_at_key key.Pages 0 ms;
  right = unwrap_or (right_named (text_at key.Right ms)) None;
  content = table_content ms;
}

abbrev pub fd_of : Members → FdEntry
fd_of ms = record {
  name = text_at key.Name ms;
  kind = stream_at ms;
  bits = unwrap_or (bits_named (text_at key.Bits ms)) (fd_bits false false);
  content = table_content ms;
}

abbrev pub file_of_table : Members → FileEntry
file_of_table ms = record {
  path = text_at key.Path ms;
  owner = number_at_key key.Owner 0 ms;
  mode = number_at_key key.Mode 0 ms;
  kind = stream_at ms;
  content = table_content ms;
}

-- ---- their order

abbrev pub range_before : NamedRange → NamedRange → Bool
range_before a b = nat_lt a.range.base b.range.base

unfoldable pub declared_ranges : Members → List NamedRange
declared_ranges ms = sorted range_before (map range_of_table (tables_at key.Data ms))

unfoldable pub tags : Members → List TagEntry
tags ms = sorted tag_before (map tag_of (tables_at key.Tag ms))

unfoldable pub fds : Members → List FdEntry
fds ms = sorted fd_before (map fd_of (tables_at key.Fd ms))

unfoldable pub files : Members → List FileEntry
files ms = sorted file_before (map file_of_table (tables_at key.File ms))

-- ---- the names that the text may use

abbrev pub equate : List ℕ → List ℕ → ℕ → Equate
equate prefix name value = record { name = prefix ++ name; value = value }

-- an equate for each entry, numbered from n on (modulo 2^32)
abbrev pub numbered_equates : {X : Type 0} → (ℕ → X → Equate) → ℕ → List X → List Equate
numbered_equates f n [] = []
numbered_equates f n (x ∷ xs) = f n x ∷ numbered_equates f ((n + 1) % 2 ^ 32) xs

-- the address of the tag at an index, in the slot of that number (modulo 2^32)
abbrev pub tag_address : ℕ → ℕ
tag_address n = address_in_window n 0 % 2 ^ 32

abbrev pub tag_equate : ℕ → TagEntry → Equate
tag_equate n t = equate (codes "tag_") t.name n

abbrev pub window_equate : ℕ → TagEntry → Equate
window_equate n t = equate (codes "seg_") t.name (tag_address n)

abbrev pub fd_equate : ℕ → FdEntry → Equate
fd_equate n f = equate (codes "fd_") f.name n

abbrev pub range_equate : NamedRange → Equate
range_equate r = equate (codes "data_") r.name r.range.base

-- the numbers of tags, their addresses, the numbers of descriptors, and where data begin
unfoldable pub equates : List TagEntry → List FdEntry → List NamedRange → List Equate
equates ts fs rs = numbered_equates tag_equate 0 ts ++ numbered_equates window_equate 0 ts ++ numbered_equates fd_equate 0 fs ++ map range_equate rs

-- the address of the procedure of a name
abbrev pub procedure_address : List ℕ → List Procedure → Option ℕ
procedure_address name ps = option_map (λ p. p.address) (find (λ p. bytes_eq p.name name) ps)
