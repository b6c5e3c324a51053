use Rattle.std.proofs.Common.{◌≡◌, ◌++◌, drop}
use Rattle.std.specs.Prelude.{map}
use Rattle.rv_isa.specs.Table.{decode}
use Rattle.ready_text.proofs.program.decoded.Given as goal

abbrev pub invariant-loop-word : goal.invariant-loop-word
invariant-loop-word l = l.code.items ++ map decode (drop l.word-index l.words) ≡ map decode l.words
