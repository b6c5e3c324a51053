use Rattle.std.proofs.Common.{◌∙◌}
use Rattle.wedge_base.specs.Images.{page}
use Rattle.wedge_base.proofs.Zeros.{written_on_zeros}
use Rattle.wedge_base.proofs.page.Page.beginning.Goals as goal

pub returns : goal.returns
returns c = c.write_over.ensures ∙ written_on_zeros page c.args.content.now
