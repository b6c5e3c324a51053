use Rattle.std.proofs.Common.{◌≡◌, take, min}
use Rattle.std.specs.Str.Parse.{digits_value}
use Rattle.rv_asm.specs.Numbers as numbers
use Rattle.rv_asm.proofs.literals.number_read.Given as goal

abbrev pub invariant-loop-c : goal.invariant-loop-c
invariant-loop-c l = l.value ≡ min (digits_value l.radix (take l.c-index l.text)) numbers.past_all
