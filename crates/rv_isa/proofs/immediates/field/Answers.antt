use Rattle.std.proofs.Common.{◌^◌, ◌/◌}
use Rattle.std.proofs.lemmas.Nat.{and_mask, one_shl}
use Rattle.rv_isa.proofs.immediates.field.Goals as goal

-- `& ((1 << width) - 1)` keeps the low bits
pub returns-clause-is : goal.returns-clause-is
returns-clause-is c =
    rw (one_shl c.args.width 32 c.requires.width) (and_mask (c.args.word / 2 ^ c.args.low) c.args.width)
