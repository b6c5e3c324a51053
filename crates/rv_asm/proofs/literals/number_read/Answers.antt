use Rattle.std.proofs.Common.{get_or, take, arith}
use Rattle.std.specs.Char.{digit_value}
use Rattle.std.specs.Str.Parse.{digits_value}
use Rattle.std.proofs.lemmas.Int.Digits.{digits_value_more}
use Rattle.rv_asm.specs.Numbers as numbers
use Rattle.rv_asm.proofs.Digits.{capped_step}
use Rattle.rv_asm.proofs.literals.number_read.Goals as goal

pub loop-c-preserved : goal.loop-c-preserved
loop-c-preserved c =
    let more = digits_value_more c.args.radix c.args.text.now c.loop-c.c-index (omega arith) in
    let step = capped_step (digits_value c.args.radix (take c.loop-c.c-index c.args.text.now)) c.args.radix (digit_value (get_or c.args.text.now c.loop-c.c-index 0)) numbers.past_all (omega arith) in
    rw (c.min-value.ensures, c.loop-c.invariant, c.digit_value.ensures.is, more) step
