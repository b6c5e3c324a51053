use Rattle.std.proofs.Common.{rules, ◌≡◌, take, drop}
use Rattle.run_audit.proofs.TwoHeads.{ok_map}
use Rattle.run_audit.proofs.Whole.{whole_as}
use Rattle.run_audit.proofs.comparison.first_difference.Goals as goal

pub returns : goal.returns
returns c =
    let a : c.split_at.result.0.now ≡ take c.common_prefix-index.result c.args.kept.now = search rules in
    let b : c.split_at.result.1.now ≡ drop c.common_prefix-index.result c.args.kept.now = search rules in
    let d : c.split_at-2.result.1.now ≡ drop c.common_prefix-index.result c.args.logged.now = search rules in
    ok_map c.difference_at_heads.result c.difference_at_heads.ensures (λ r h. whole_as c.args.kept.now c.split_at.result.0.now c.split_at.result.1.now c.args.logged.now c.split_at-2.result.1.now c.common_prefix-index.result r a b d c.common_prefix-index.ensures.same h)
