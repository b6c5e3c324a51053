use Rattle.std.proofs.Common.{◌≡◌, drop}
use Rattle.image_form.specs.Rules.{addresses}
use Rattle.image_form.specs.Address.{greatest_from}
use Rattle.image_form.proofs.image.greatest_not_above.Given as goal

abbrev pub invariant-loop-procedure : goal.invariant-loop-procedure
invariant-loop-procedure l = greatest_from l.best l.address (addresses (drop l.procedure-index l.procedures)) ≡ greatest_from 0 l.address (addresses l.procedures)
