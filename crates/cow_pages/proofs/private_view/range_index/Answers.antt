use Rattle.std.proofs.Common.{rules, ◌≡◌, ◌<◌, ◌∙◌, true, length, ap, sym, subst, arith}
use Rattle.std.proofs.lemmas.List.{get_or_default}
use Rattle.wedge_base.specs.Memory.{lies_in}
use Rattle.cow_pages.proofs.RangeSearch.{NoneBefore, index_found, index_missing}
use Rattle.cow_pages.proofs.private_view.range_index.Goals as goal

pub returns-then-holds : goal.returns-then-holds
returns-then-holds c =
    let lt : c.loop-i.i < length c.args.ranges.now = omega arith in
    let lies : lies_in c.args.address c.args.size c.index-ranges-i.result ≡ true = search rules in
    record {
      is = index_found c.args.ranges.now c.args.address c.args.size c.loop-i.i lt c.loop-i.invariant
          (λ d. ap (lies_in c.args.address c.args.size) (get_or_default c.args.ranges.now c.loop-i.i d c.index-ranges-i.result lt ∙ sym c.index-ranges-i.is) ∙ lies);
    }

pub returns : goal.returns
returns c =
    let end : c.loop-i.i ≡ length c.args.ranges.now = omega arith in
    record { is = index_missing c.args.ranges.now c.args.address c.args.size (subst (NoneBefore c.args.ranges.now c.args.address c.args.size) end c.loop-i.invariant) }
