use Rattle.std.proofs.Common.{◌≡◌, ◌∷◌, ◌++◌, drop}
use Rattle.wedge_base.specs.Bytes.{zeros}
use Rattle.wedge_base.specs.Images.{private_base, private_size}
use Rattle.cow_pages.proofs.private_view.PrivateView.new.Given as goal

abbrev pub invariant-loop-range : goal.invariant-loop-range
invariant-loop-range l = l.ranges.items ++ drop l.range-index l.data_ranges ≡ record { base = private_base; bytes = zeros private_size } ∷ l.data_ranges
