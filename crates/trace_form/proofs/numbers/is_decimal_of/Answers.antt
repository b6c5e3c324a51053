use Rattle.std.proofs.Common.{sym, ◌∙◌, arith}
use Rattle.trace_form.proofs.Digits.{none_is, last_is, last_is_not, one_is, two_are}
use Rattle.trace_form.proofs.numbers.is_decimal_of.Goals as goal

pub returns-in_default : goal.returns-in_default
returns-in_default c = sym (c.loop-left.invariant ∙ none_is c.loop-left.rest.now c.loop-left.left c.in_default.len_below (omega arith))

pub returns-then-last-left : goal.returns-then-last-left
returns-then-last-left c =
    sym (c.loop-left.invariant ∙ last_is_not c.loop-left.rest.now c.loop-left.left (omega arith) c.loop-left-test.true (omega arith) c.if-last-left.true)

pub loop-left-preserved : goal.loop-left-preserved
loop-left-preserved c =
    c.loop-left.invariant ∙ last_is c.loop-left.rest.now c.loop-left.left (omega arith) c.loop-left-test.true (omega arith) c.if-last-left.false

pub returns-in-len1 : goal.returns-in-len1
returns-in-len1 c = sym (c.loop-left.invariant ∙ one_is c.loop-left.rest.now c.loop-left.left c.in-len1.len_at_least c.in-len1.len_below c.loop-left-test.false)

pub returns-in_default-rest : goal.returns-in_default-rest
returns-in_default-rest c = sym (c.loop-left.invariant ∙ none_is c.loop-left.rest.now c.loop-left.left c.in_default-rest.len_below (omega arith))

pub returns-in_default-rest-2 : goal.returns-in_default-rest-2
returns-in_default-rest-2 c = sym (c.loop-left.invariant ∙ two_are c.loop-left.rest.now c.loop-left.left c.in_default-rest.len_at_least c.loop-left-test.false)
