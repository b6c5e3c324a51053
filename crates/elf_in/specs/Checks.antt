-- The checks of an ELF32 file's headers (System V ABI), in order.
use Rattle.std.specs.Prelude.{ℕ, ◌+◌, ◌*◌, ◌%◌, ◌^◌, ◌==◌, Bool, ◌&&◌, ◌||◌, List, [], ◌∷◌, length, slice_index, find, count_by, Option, Some, None, Result, Ok, nat_le, nat_lt, if◌then◌else◌}
use Rattle.elf_in.specs.Fields.{half_at, word_at, is_in_file, table}
use Rattle.elf_in.specs.Steps.{reject, ◌>>=◌, check_that, passed}
use Rattle.elf_in.specs.Headers.{program_header_at, section_header_at, is_load, is_text}
use Rattle.elf_in.specs.declared.fault.Fault.{Fault}
use Rattle.elf_in.specs.declared.fault.Why.TheVariants.{Magic, Class, Kind, Truncated, Layout, Limit}
use Rattle.elf_in.specs.declared.headers.ProgramHeader.{ProgramHeader}
use Rattle.elf_in.specs.declared.headers.SectionHeader.{SectionHeader}

-- the most bytes of a file, and the bytes of its header (Elf32_Ehdr)
abbrev pub most_elf_bytes : ℕ
most_elf_bytes = 16777216

abbrev pub header_size : ℕ
header_size = 52

-- 0x7f and "ELF"
abbrev pub elf_magic : ℕ
elf_magic = 0x464c457f

-- the size of the file, and its first bytes (e_ident): 32 bits, little-endian, version 1
-- (ELFCLASS32, ELFDATA2LSB, EV_CURRENT)
unfoldable pub identity_check : List ℕ → Result (Unit {0}) Fault
identity_check file =
    check_that (nat_le (length file) most_elf_bytes) most_elf_bytes Limit (
    check_that (nat_le header_size (length file)) (length file) Truncated (
    check_that (word_at file 0 == elf_magic) 0 Magic (
    check_that (slice_index file 4 == 1) 4 Class (
    check_that (slice_index file 5 == 1) 5 Class (
    check_that (slice_index file 6 == 1) 6 Class passed)))))

-- an executable file (ET_EXEC), for RISC-V (EM_RISCV), without compressed instructions
-- (EF_RISCV_RVC), whose headers have the sizes of ELF32
unfoldable pub kind_check : List ℕ → Result (Unit {0}) Fault
kind_check file =
    check_that (half_at file 16 == 2) 16 Kind (
    check_that (half_at file 18 == 243) 18 Kind (
    check_that (word_at file 36 % 2 == 0) 36 Kind (
    check_that (half_at file 44 == 0 || half_at file 42 == 32) 42 Kind (
    check_that (half_at file 48 == 0 || half_at file 46 == 40) 46 Kind passed))))

unfoldable pub program_headers : List ℕ → Result (List ProgramHeader) Fault
program_headers file =
    check_that (is_in_file file (word_at file 28) (32 * half_at file 44)) 28 Truncated (
    Ok (table (program_header_at file) 32 (half_at file 44) (word_at file 28)))

-- a load's bytes lie in the file, fit its memory, and its memory ends by 2^32
unfoldable pub load_check : List ℕ → ProgramHeader → Result (Unit {0}) Fault
load_check file h =
    if is_load h
    then (
    check_that (nat_le h.file_size h.memory_size) h.at Layout (
    check_that (nat_le (h.address + h.memory_size) (2 ^ 32)) h.at Layout (
    check_that (is_in_file file h.offset h.file_size) h.at Truncated passed)))
    else passed

abbrev pub loads_check : List ℕ → List ProgramHeader → Result (Unit {0}) Fault
loads_check file [] = passed
loads_check file (h ∷ hs) = load_check file h >>= λ u. loads_check file hs

-- the entry is that of an instruction among the text's bytes in the file
abbrev pub is_entry : ProgramHeader → ℕ → Bool
is_entry text entry =
    entry % 4 == 0 && nat_le text.address entry && nat_lt entry (text.address + text.file_size)

unfoldable pub entry_check : List ℕ → Option ProgramHeader → Result ProgramHeader Fault
entry_check file None = reject 28 Layout
entry_check file (Some text) = check_that (is_entry text (word_at file 24)) 24 Layout (Ok text)

-- the one load that is executable, with the entry inside
unfoldable pub text_header : List ℕ → List ProgramHeader → Result ProgramHeader Fault
text_header file headers =
    check_that (count_by is_text headers == 1) 28 Layout (
    entry_check file (find is_text headers))

unfoldable pub section_headers : List ℕ → Result (List SectionHeader) Fault
section_headers file =
    check_that (half_at file 48 == 0 || is_in_file file (word_at file 32) (40 * half_at file 48))
    32 Truncated (
    Ok (table (section_header_at file) 40 (half_at file 48) (word_at file 32)))
