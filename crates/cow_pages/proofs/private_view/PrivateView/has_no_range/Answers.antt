use Rattle.std.proofs.Common.{◌≡◌, subst}
use Rattle.std.specs.Prelude.{None}
use Rattle.wedge_base.specs.Memory.{range_at}
use Rattle.cow_pages.proofs.BelowWindows.{none_above}
use Rattle.cow_pages.proofs.private_view.PrivateView.has_no_range.Goals as goal

pub returns : goal.returns
returns c =
    subst (λ m. range_at m.ranges c.args.address c.args.size ≡ None) c.self.view_is
    (none_above c.self.inside.ranges.items c.args.address c.args.size c.self.invariant.0 c.requires.window c.requires.some)
