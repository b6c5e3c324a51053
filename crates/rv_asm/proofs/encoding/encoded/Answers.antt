use Rattle.std.proofs.Common.{sym}
use Rattle.rv_isa.proofs.Rows.{IsOfRow-in_range}
use Rattle.rv_isa.proofs.Words.{encoded_is}
use Rattle.rv_asm.proofs.encoding.encoded.Goals as goal

pub encode-requires : goal.encode-requires
encode-requires c = IsOfRow-in_range _ c.requires

pub returns : goal.returns
returns c = sym (encoded_is _ _ c.encode.type_inv c.encode.ensures.is)
