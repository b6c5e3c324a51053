use Rattle.std.proofs.Common.{◌≡◌, length}
use Rattle.rv_asm.specs.Lexing as lexing
use Rattle.rv_asm.proofs.lexing.trim_end.Given as goal

abbrev pub invariant-loop-rest : goal.invariant-loop-rest
invariant-loop-rest l = lexing.trim_end l.rest ≡ lexing.trim_end l.text

abbrev pub decreases-loop-rest : goal.decreases-loop-rest
decreases-loop-rest l = length l.rest
