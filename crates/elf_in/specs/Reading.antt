-- The program of an ELF file, or its first fault.
use Rattle.std.specs.Prelude.{ℕ, List, length, Result, Ok}
use Rattle.elf_in.specs.Fields.{word_at}
use Rattle.elf_in.specs.Steps.{◌>>=◌}
use Rattle.elf_in.specs.Checks.{identity_check, kind_check, program_headers, loads_check, text_header, section_headers}
use Rattle.elf_in.specs.Symbols.{SymbolTable, symbol_table}
use Rattle.elf_in.specs.Loads.{text_words, ranges_of}
use Rattle.elf_in.specs.Procedures.{procedures_of}
use Rattle.elf_in.specs.declared.fault.Fault.{Fault}
use Rattle.elf_in.specs.declared.headers.ProgramHeader.{ProgramHeader}
use Rattle.elf_in.specs.Program.{Program}

-- the program of a file whose headers and symbols are known
unfoldable pub program_of : List ℕ → List ProgramHeader → ProgramHeader → SymbolTable → Program
program_of file headers text symbols = record {
  base = text.address;
  words = text_words file text;
  ranges = ranges_of file headers;
  procedures = procedures_of text.address (length (text_words file text)) (word_at file 24) symbols;
  entry = word_at file 24;
}

-- the program of a file, or its first fault by the order of the checks
unfoldable pub elf_program : List ℕ → Result Program Fault
elf_program file =
    identity_check file >>= λ u.
    kind_check file >>= λ u.
    program_headers file >>= λ headers.
    loads_check file headers >>= λ u.
    text_header file headers >>= λ text.
    section_headers file >>= λ sections.
    symbol_table file sections >>= λ symbols.
    Ok (program_of file headers text symbols)
