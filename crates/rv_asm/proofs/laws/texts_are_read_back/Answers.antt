use Rattle.rv_asm.proofs.ReadBack.{texts_are_read_back, words_are_read_back}
use Rattle.rv_asm.proofs.laws.texts_are_read_back.Goals as goal

pub returns : goal.returns
returns c = record { texts = texts_are_read_back; words = words_are_read_back }
