use Rattle.std.proofs.Common.{◌≡◌, map, take}
use Rattle.elf_in.specs.Loads.{range_of}
use Rattle.elf_in.proofs.program.ElfProgram.ranges.Given as goal

abbrev pub invariant-loop-header : goal.invariant-loop-header
invariant-loop-header l = l.ranges.items ≡ map (range_of l.self-inside.file.now) (take l.header-index l.self-inside.data.items)
