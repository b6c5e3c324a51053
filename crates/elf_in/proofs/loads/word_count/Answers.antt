use Rattle.std.proofs.Common.{arith}
use Rattle.elf_in.proofs.LoadBytes.{length-text}
use Rattle.elf_in.proofs.loads.word_count.Goals as goal

pub returns : goal.returns
returns c = omega (arith, c.memory_len.ensures, length-text c.args.file.now c.args.text.now)
