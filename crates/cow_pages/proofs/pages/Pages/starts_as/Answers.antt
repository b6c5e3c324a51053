use Rattle.std.proofs.Common.{ap, arith, length}
use Rattle.cow_pages.proofs.SharedPages.{length-bytes_in}
use Rattle.cow_pages.proofs.pages.Pages.starts_as.Goals as goal

pub begin_alike-requires-clause-small : goal.begin_alike-requires-clause-small
begin_alike-requires-clause-small c =
    let size = length-bytes_in c.self.inside.pages.items c.self.invariant.0 in
    let few = c.self.invariant.1 in
    let same = ap length c.self.view_is in
    omega arith
