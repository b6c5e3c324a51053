use Rattle.std.proofs.Common.{◌≡◌, ◌+◌, drop}
use Rattle.elf_in.specs.Program.{size_of}
use Rattle.elf_in.proofs.Sizes.{range_bytes}
use Rattle.elf_in.proofs.program.ElfProgram.room_left.Given as goal

-- what is left, and the ranges that are still to come
abbrev pub invariant-loop-header : goal.invariant-loop-header
invariant-loop-header l =
    l.left + size_of l.self ≡ l.room + range_bytes l.self-inside.file.now (drop l.header-index l.self-inside.data.items)
