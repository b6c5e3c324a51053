-- What the code's types stand for.
use Rattle.std.specs.Prelude.{map}
use Rattle.elf_in.specs.Symbols as symbols
use Rattle.elf_in.specs.Loads.{text_words, range_of}
use Rattle.elf_in.specs.Program.{Program}
use Rattle.elf_in.specs.declared.symbols.SymbolTable.{SymbolTable}
use Rattle.elf_in.specs.declared.program.ElfProgram.TheInside.{Inside}

abbrev pub symbols_view : SymbolTable → symbols.SymbolTable
symbols_view t = record { symbols = t.symbols.items; names = t.names.now }

-- a program is kept as its file, and the headers of its loads
abbrev pub program_view : Inside → Program
program_view p = record {
  base = p.text.address;
  words = text_words p.file.now p.text;
  ranges = map (range_of p.file.now) p.data.items;
  procedures = p.procedures;
  entry = p.entry;
}
