use Rattle.std.proofs.Common.{◌≡◌, ◌++◌, drop}
use Rattle.elf_in.proofs.program.ElfProgram.procedures.Given as goal

abbrev pub invariant-loop-procedure : goal.invariant-loop-procedure
invariant-loop-procedure l = l.procedures.items ++ drop l.procedure-index l.all ≡ l.all
