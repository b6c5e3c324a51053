use Rattle.std.proofs.Common.{◌≡◌, ◌++◌, drop}
use Rattle.wedge_base.proofs.outcome.copy_denials.Given as goal

abbrev pub invariant-loop-one : goal.invariant-loop-one
invariant-loop-one l = l.copies.items ++ drop l.one-index l.all ≡ l.all
