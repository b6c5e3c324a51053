use Rattle.std.proofs.Common.{sym, ap, ◌∙◌, ◌≡◌, Some, None}
use Rattle.rv_isa.proofs.Bridge.{decode_is}
use Rattle.rv_isa.proofs.decoding.decode.Goals as goal

pub returns-in_err-op-clause-is : goal.returns-in_err-op-clause-is
returns-in_err-op-clause-is c =
    let e = decode_is c.args.word _ _ _ _ c.ranges.word.fits c.field.ensures.is c.field-2.ensures.is c.field-3.ensures.is c.op_at.ensures in
    let none : c.op_at.result ≡ None = c.in_err-op.was in
    c.from_residual.ensures ∙ sym (rw none at e)

pub returns-clause-is : goal.returns-clause-is
returns-clause-is c =
    let e = decode_is c.args.word _ _ _ _ c.ranges.word.fits c.field.ensures.is c.field-2.ensures.is c.field-3.ensures.is c.op_at.ensures in
    ap Some c.operands.ensures ∙ sym (rw c.in_ok-op.was at e)

pub returns-clause-of_row : goal.returns-clause-of_row
returns-clause-of_row c = record {
  word = c.args.word;
  fits = c.ranges.word.fits;
  is = sym (returns-clause-is c);
}
