use Rattle.std.proofs.Common.{◌≡◌, sym}
use Rattle.rv_isa.specs.Encoding.{encoded}
use Rattle.rv_isa.proofs.Words.{encoded_is}
use Rattle.rv_isa.proofs.encoding.encode.Goals as goal

pub returns-clause-is : goal.returns-clause-is
returns-clause-is c =
    let e : encoded c.args.instr ≡ c.requires.word = encoded_is _ _ c.requires.fits c.requires.is in
    rw (c.fixed_fields.ensures, c.operand_bits.ensures, e) c.requires.is

pub returns-clause-only : goal.returns-clause-only
returns-clause-only c = λ word small h.
    rw (c.fixed_fields.ensures, c.operand_bits.ensures) (sym (encoded_is word c.args.instr small h))
