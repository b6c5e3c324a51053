use Rattle.std.proofs.Common.{◌∙◌, ap}
use Rattle.wedge_base.specs.Bytes.{number_of}
use Rattle.cow_pages.proofs.RangeFronts.{read_range_front}
use Rattle.cow_pages.proofs.paged_range.PagedRange.load.Goals as goal

pub returns : goal.returns
returns c =
    let i = c.self.inside in
    c.load.ensures ∙ ap number_of (read_range_front i.base i.size i.pages c.args.address c.args.width c.args.self.now c.self.view_is c.self.invariant.1 c.requires.lies)
