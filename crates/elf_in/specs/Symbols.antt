-- The symbols of an ELF32 file (System V ABI), and their names.
use Rattle.std.specs.Prelude.{ℕ, ◌+◌, ◌/◌, ◌%◌, ◌==◌, Bool, ◌&&◌, ◌||◌, not, List, [], ◌∷◌, drop, find, slice_get, slice_range, Option, Some, None, Result, Ok, if◌then◌else◌}
use Rattle.std.specs.List.{list_any, list_all}
use Rattle.elf_in.specs.Fields.{is_in_file, table}
use Rattle.elf_in.specs.Steps.{reject, ◌>>=◌, check_that}
use Rattle.elf_in.specs.Headers.{symbol_at, is_function}
use Rattle.elf_in.specs.declared.fault.Fault.{Fault}
use Rattle.elf_in.specs.declared.fault.Why.TheVariants.{Truncated, Symbols}
use Rattle.elf_in.specs.declared.headers.SectionHeader.{SectionHeader}
use Rattle.elf_in.specs.declared.headers.Symbol.{Symbol}

-- symbols, and the bytes of the string table that has their names
pub record SymbolTable : Type 0 where
  pub symbols : List Symbol
  pub names : List ℕ

abbrev pub is_zero : ℕ → Bool
is_zero b = b == 0

-- whether there is a zero byte at an offset or after it
abbrev pub ends_inside : List ℕ → ℕ → Bool
ends_inside names offset = list_any is_zero (drop offset names)

-- the bytes up to the first zero
abbrev pub until_zero : List ℕ → List ℕ
until_zero [] = []
until_zero (b ∷ bs) = if b == 0 then [] else b ∷ until_zero bs

-- the name that begins at an offset
abbrev pub name_at : List ℕ → ℕ → List ℕ
name_at names offset = until_zero (drop offset names)

-- the name of a function begins and ends inside the string table
abbrev pub is_named : List ℕ → Symbol → Bool
is_named names s = not (is_function s) || ends_inside names s.name

-- a symbol table has type 2 (SHT_SYMTAB), a string table type 3 (SHT_STRTAB)
abbrev pub is_symbol_table : SectionHeader → Bool
is_symbol_table s = s.kind == 2

-- the bytes of the string table, for a symbol table whose header is at an offset
unfoldable pub string_table : List ℕ → ℕ → Option SectionHeader → Result (List ℕ) Fault
string_table file at None = reject at Symbols
string_table file at (Some s) =
    check_that (s.kind == 3 && is_in_file file s.offset s.size) at Symbols (
    Ok (slice_range file s.offset (s.offset + s.size)))

-- symbols whose functions all have names
unfoldable pub named_symbols : ℕ → List ℕ → List Symbol → Result SymbolTable Fault
named_symbols at names symbols =
    check_that (list_all (is_named names) symbols) at Symbols (
    Ok (record { symbols = symbols; names = names }))

unfoldable pub symbols_in : List ℕ → List SectionHeader → SectionHeader → Result SymbolTable Fault
symbols_in file sections s =
    check_that (is_in_file file s.offset s.size) s.at Truncated (
    check_that (s.size % 16 == 0) s.at Symbols (
    string_table file s.at (slice_get sections s.link) >>= λ names.
    named_symbols s.at names (table (symbol_at file) 16 (s.size / 16) s.offset)))

unfoldable pub symbols_of : List ℕ → List SectionHeader → Option SectionHeader
    → Result SymbolTable Fault
symbols_of file sections None = Ok (record { symbols = []; names = [] })
symbols_of file sections (Some s) = symbols_in file sections s

-- the symbols of the first symbol table, if there is one
abbrev pub symbol_table : List ℕ → List SectionHeader → Result SymbolTable Fault
symbol_table file sections = symbols_of file sections (find is_symbol_table sections)
