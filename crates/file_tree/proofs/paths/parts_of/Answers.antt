use Rattle.std.proofs.Common.{rules, tests, eqb, not, filter, ap, [], ◌∙◌}
use Rattle.std.proofs.lemmas.Iterator.Consumers.{map_from_collect, YieldsList-from_filter, YieldsList-at}
use Rattle.std.proofs.lemmas.Iterator.Splits.{YieldsList-from_slice_split}
use Rattle.std.proofs.lemmas.Result.{IfOk-at_ok}
use Rattle.wedge_base.specs.Names.{same}
use Rattle.file_tree.proofs.paths.parts_of.Goals as goal

pub returns : goal.returns
returns c =
    IfOk-at_ok _ c.in_ok-parts.was (
    map_from_collect _ c.collect.ensures.ran
    (YieldsList-from_filter _ (λ p. not (same p []))
    (YieldsList-at c.filter.ensures.source (YieldsList-from_slice_split _ (λ b. eqb b 47) c.args.root.now c.split.ensures.rest c.split.ensures.done c.split.ensures.closure (λ x b q k. search (rules, tests))))
    c.filter.ensures.closure (λ x b q k. search (rules, tests))))
