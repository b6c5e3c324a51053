use Rattle.std.proofs.Common.{arith}
use Rattle.cow_pages.proofs.SameBytes.{whole_alike, lengths_apart}
use Rattle.cow_pages.proofs.pages.PagesPartialEq.eq.Goals as goal

pub returns-then-len : goal.returns-then-len
returns-then-len c = whole_alike c.args.self.now c.args.other.now c.len-then-len.result c.starts_as.result c.len-then-len.ensures.is (omega arith) c.starts_as.ensures

pub returns-else-len : goal.returns-else-len
returns-else-len c = lengths_apart c.args.self.now c.args.other.now c.len.result c.len-2.result c.len.ensures.is c.len-2.ensures.is c.if-len.false
