use Rattle.std.proofs.lemmas.Result.{on_ok_weaker}
use Rattle.cow_pages.proofs.RangeFronts.{write_range_front}
use Rattle.cow_pages.proofs.paged_range.PagedRange.write.Goals as goal

pub returns-clause-ok : goal.returns-clause-ok
returns-clause-ok c =
    let i = c.self.inside in
    on_ok_weaker c.write.result (write_range_front i.base i.size i.pages c.args.address c.args.new.now c.write.new.self c.args.self.now c.self.view_is c.self.invariant.1 c.requires) c.write.ensures.ok
