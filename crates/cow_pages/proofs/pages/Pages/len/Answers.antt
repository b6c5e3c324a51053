use Rattle.std.proofs.Common.{ap, arith, length}
use Rattle.cow_pages.proofs.SharedPages.{length-bytes_in}
use Rattle.cow_pages.proofs.pages.Pages.len.Goals as goal

pub returns-clause-is : goal.returns-clause-is
returns-clause-is c =
    let size = length-bytes_in c.self.inside.pages.items c.self.invariant.0 in
    let same = ap length c.self.view_is in
    omega arith

pub returns-clause-whole : goal.returns-clause-whole
returns-clause-whole c =
    let size = length-bytes_in c.self.inside.pages.items c.self.invariant.0 in
    let same = ap length c.self.view_is in
    omega arith
