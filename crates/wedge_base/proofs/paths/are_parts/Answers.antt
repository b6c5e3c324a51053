use Rattle.std.proofs.Common.{rules, tests, eqb}
use Rattle.std.proofs.lemmas.Iterator.Search.{all_from_yields_List}
use Rattle.std.proofs.lemmas.Iterator.Splits.{YieldsList-from_slice_split}
use Rattle.wedge_base.specs.Paths as paths
use Rattle.wedge_base.proofs.paths.are_parts.Goals as goal

pub returns : goal.returns
returns c =
    all_from_yields_List paths.is_part _ _ _ c.all.ensures.ran
    (YieldsList-from_slice_split _ (λ b. eqb b 47) c.args.text.now c.split.ensures.rest c.split.ensures.done c.split.ensures.closure (λ x b q k. search (rules, tests)))
    (λ x b q k. search (rules, tests))
