use Rattle.std.proofs.Common.{◌≡◌, take, Some, arith, ap, sym, subst, ◌∙◌}
use Rattle.std.proofs.lemmas.Grind.{common_steps}
use Rattle.std.proofs.lemmas.Int.Digits.{digits_more, digits_value_more}
use Rattle.std.specs.Str.Parse.{AllDigits, digits_value}
use Rattle.report_text.proofs.Digits.{part_is, part_begins, part_stops}
use Rattle.report_text.proofs.reading.part_in.Goals as goal

pub returns-then-begins_no_number : goal.returns-then-begins_no_number
returns-then-begins_no_number c = sym (part_begins c.args.bytes.now (grind arith))

pub returns-in_err-number : goal.returns-in_err-number
returns-in_err-number c =
    c.from_residual.ensures
    ∙ sym (part_stops c.args.bytes.now c.loop-byte.byte-index (grind arith) (λ digit small. c.in_err-number.ensures (digit, omega (arith, c.loop-byte.invariant.value))))

pub loop-byte-preserved : goal.loop-byte-preserved
loop-byte-preserved c = record {
  digits = digits_more 10 c.args.bytes.now c.loop-byte.byte-index (grind arith) c.loop-byte.invariant.digits (grind arith);
  small = grind arith;
  value = grind (arith, digits_value_more 10 c.args.bytes.now c.loop-byte.byte-index);
}

pub returns : goal.returns
returns c =
    let whole : take c.loop-byte.byte-index c.args.bytes.now ≡ c.args.bytes.now = grind (arith, common_steps) in
    let digits : AllDigits 10 c.args.bytes.now = subst (AllDigits 10) whole c.loop-byte.invariant.digits in
    let value : c.loop-byte.number ≡ digits_value 10 c.args.bytes.now = c.loop-byte.invariant.value ∙ ap (digits_value 10) whole in
    ap Some value ∙ sym (part_is c.args.bytes.now digits (grind arith) (grind arith) (omega (arith, value)))
