use Rattle.std.proofs.lemmas.Result.{on_ok_weaker}
use Rattle.wedge_base.specs.Bytes.{bytes_of}
use Rattle.cow_pages.proofs.PageOffsets.{length-bytes_of}
use Rattle.cow_pages.proofs.RangeFronts.{write_range_front}
use Rattle.cow_pages.proofs.paged_range.PagedRange.store.Goals as goal

pub returns-clause-ok : goal.returns-clause-ok
returns-clause-ok c =
    let i = c.self.inside in
    let count = length-bytes_of c.args.width c.args.value in
    on_ok_weaker c.store.result (write_range_front i.base i.size i.pages c.args.address (bytes_of c.args.width c.args.value) c.store.new.self c.args.self.now c.self.view_is c.self.invariant.1 (rw count c.requires.lies)) c.store.ensures.ok
