-- What the bytes of loads come to, byte by byte.
use Rattle.std.specs.Prelude.{◌≡◌, ℕ, true, false, ◌+◌, ◌*◌, ◌%◌, ◌<◌, ◌≤◌, List, [], ◌∷◌, length, slice_index, Ok, nat_lt, if◌then◌else◌}
use Rattle.std.specs.Int.{w32, from_le_bytes}
use Rattle.wedge_base.specs.declared.image.Procedure.{Procedure}
use Rattle.stable_sort.specs.ByName.{procedure_before}
use Rattle.wedge_base.specs.Images.{begins_at}
use Rattle.elf_in.specs.Procedures.{has_name}
use Rattle.std.specs.List.{AllByRecursion}
use Rattle.elf_in.specs.Program.{Program}
use Rattle.elf_in.specs.Headers.{is_data}
use Rattle.elf_in.specs.Checks.{program_headers, text_header}
use Rattle.elf_in.specs.Loads.{range_of, ranges_of}
use Rattle.elf_in.specs.declared.headers.ProgramHeader.{ProgramHeader}

-- the byte of a load at a distance from its address: the file's byte, or zero past its size in the
-- file
abbrev pub load_byte : List ℕ → ProgramHeader → ℕ → ℕ
load_byte file h k = if nat_lt k h.file_size then slice_index file (h.offset + k) else 0

-- the word of a load at a distance from its address
abbrev pub load_word : List ℕ → ProgramHeader → ℕ → ℕ
load_word file h k = from_le_bytes w32 (
    load_byte file h k ∷ load_byte file h (k + 1) ∷ load_byte file h (k + 2) ∷ load_byte file h (k + 3) ∷ [])

-- a load's bytes, from its address on in whole words
pub record IsTextOfLoad (file : List ℕ) (h : ProgramHeader) (words : List ℕ) : Type 0 where
  pub long : h.memory_size ≤ 4 * length words
  pub short : 4 * length words < h.memory_size + 4
  pub each : (j : ℕ) → j < length words → slice_index words j ≡ load_word file h (4 * j)

-- a load's bytes, with zeros before and after them to whole words
pub record IsData (file : List ℕ) (h : ProgramHeader) (base : ℕ) (bytes : List ℕ) : Type 0 where
  pub begins : base + h.address % 4 ≡ h.address
  pub whole : length bytes % 4 ≡ 0
  pub long : h.address % 4 + h.memory_size ≤ length bytes
  pub short : length bytes < h.address % 4 + h.memory_size + 4
  pub before : (i : ℕ) → i < h.address % 4 → slice_index bytes i ≡ 0
  pub each : (k : ℕ) → slice_index bytes (h.address % 4 + k) ≡ load_byte file h k

-- no two procedures have one address or one name
abbrev pub Differ : List Procedure → Type 0
Differ [] = Unit {0}
Differ (p ∷ ps) = (begins_at ps p.address ≡ false) × (has_name ps p.name ≡ false) × Differ ps

-- a procedure comes before each of others, by name
abbrev pub PrecedesAll : Procedure → List Procedure → Type 0
PrecedesAll p [] = Unit {0}
PrecedesAll p (q ∷ qs) = (procedure_before p q ≡ true) × PrecedesAll p qs

-- names ascend strictly
abbrev pub Ascend : List Procedure → Type 0
Ascend [] = Unit {0}
Ascend (p ∷ ps) = PrecedesAll p ps × Ascend ps

-- procedures of their own addresses, in the order of their names, one at the base and one at the
-- entry
pub record AreElfProcedures (base entry : ℕ) (ps : List Procedure) : Type 0 where
  pub differ : Differ ps
  pub ascend : Ascend ps
  pub at_base : begins_at ps base ≡ true
  pub at_entry : begins_at ps entry ≡ true

-- the range of a load of data has its bytes
abbrev pub KeepsData : List ℕ → ProgramHeader → Type 0
KeepsData file h = is_data h ≡ true → IsData file h (range_of file h).base (range_of file h).bytes

-- a program has the bytes of its file's loads, and no others: those of the text, and those of each
-- load of data in a range of its own
pub record KeepsLoads (file : List ℕ) (p : Program) : Type 0 where
  pub headers : List ProgramHeader
  pub read : program_headers file ≡ Ok headers
  pub text : ProgramHeader
  pub found : text_header file headers ≡ Ok text
  pub base : p.base ≡ text.address
  pub words : IsTextOfLoad file text p.words
  pub ranges : p.ranges ≡ ranges_of file headers
  pub data_kept : AllByRecursion (KeepsData file) headers
