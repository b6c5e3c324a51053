use Rattle.std.proofs.Common.{[], ◌∷◌, length, ap, arith}
use Rattle.std.proofs.lemmas.List.Sums.{sum_by-append}
use Rattle.image_form.specs.Rules.{range_end}
use Rattle.image_form.proofs.Lasts.{last_of-push}
use Rattle.image_form.proofs.ranges.RangesRead.push.Goals as goal

pub invariant_of-self-2-clause-summed : goal.invariant_of-self-2-clause-summed
invariant_of-self-2-clause-summed c =
    let old = c.args.self.now.ranges.items in
    rw c.in_ok-push.ensures.items (omega (arith, sum_by-append (λ r. length r.bytes) old (c.args.range ∷ []), c.args.self.now.summed, ap length c.as_slice.ensures))

pub invariant_of-self-2-clause-ended : goal.invariant_of-self-2-clause-ended
invariant_of-self-2-clause-ended c =
    let old = c.args.self.now.ranges.items in
    rw c.in_ok-push.ensures.items (omega (arith, last_of-push range_end 0 old c.args.range, ap length c.as_slice.ensures))
