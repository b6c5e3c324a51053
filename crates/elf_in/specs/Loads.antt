-- The memory of loads: the words of the text, and ranges of data.
use Rattle.std.specs.Prelude.{ℕ, ◌+◌, ◌-◌, ◌/◌, ◌%◌, Bool, List, ◌++◌, length, filter, map, slice_range, nat_lt}
use Rattle.wedge_base.specs.Bytes.{zeros, padded_to_words}
use Rattle.wedge_base.specs.declared.image.MemoryRange.{MemoryRange}
use Rattle.elf_in.specs.Fields.{word_at, table}
use Rattle.elf_in.specs.Headers.{is_data}
use Rattle.stable_sort.specs.Sorting.{sorted}
use Rattle.elf_in.specs.declared.headers.ProgramHeader.{ProgramHeader}

-- the bytes of a load: those of the file, and zeros up to its size in memory
unfoldable pub bytes_of_load : List ℕ → ProgramHeader → List ℕ
bytes_of_load file h =
    slice_range file h.offset (h.offset + h.file_size) ++ zeros (h.memory_size - h.file_size)

-- the words that bytes are
unfoldable pub words_of : List ℕ → List ℕ
words_of bytes = table (word_at bytes) 4 (length bytes / 4) 0

unfoldable pub text_words : List ℕ → ProgramHeader → List ℕ
text_words file text = words_of (padded_to_words (bytes_of_load file text))

-- where the range of a load begins: at the multiple of four at its address or below
abbrev pub base_of : ProgramHeader → ℕ
base_of h = h.address - h.address % 4

-- a load of data, from there up to a multiple of four at its end or above
unfoldable pub range_of : List ℕ → ProgramHeader → MemoryRange
range_of file h = record {
  base = base_of h;
  bytes = padded_to_words (zeros (h.address % 4) ++ bytes_of_load file h);
}

abbrev pub load_before : ProgramHeader → ProgramHeader → Bool
load_before a b = nat_lt (base_of a) (base_of b)

-- the loads of data by the bases of their ranges, those of equal bases in the order of their
-- headers
unfoldable pub data_loads : List ProgramHeader → List ProgramHeader
data_loads headers = sorted load_before (filter is_data headers)

unfoldable pub ranges_of : List ℕ → List ProgramHeader → List MemoryRange
ranges_of file headers = map (range_of file) (data_loads headers)
