use Rattle.rv_asm.proofs.Counted.{words_are_counted}
use Rattle.rv_asm.proofs.laws.words_are_counted.Goals as goal

pub returns : goal.returns
returns c = words_are_counted
