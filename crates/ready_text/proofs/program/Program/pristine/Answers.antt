use Rattle.std.proofs.Common.{ap, subst}
use Rattle.wedge_base.specs.Images.{Image}
use Rattle.cow_pages.specs.Below.{AreBelow}
use Rattle.ready_text.proofs.BelowWindows.{ranges_below}
use Rattle.ready_text.proofs.program.Program.pristine.Goals as goal

pub returns-clause-below : goal.returns-clause-below
returns-clause-below c = subst (λ (i : Image). AreBelow i.ranges) c.self.view_is (ranges_below c.self.inside.image.now.ranges c.self.invariant.valid.ranges.each)
