use Rattle.std.proofs.Common.{Some, ap, sym, ◌∙◌, arith}
use Rattle.wedge_base.specs.Names.{same}
use Rattle.run_audit.proofs.NamedLogs.{log_found, log_absent, log_beyond}
use Rattle.run_audit.proofs.logs.log_named.Goals as goal

pub returns-then-index-sorted : goal.returns-then-index-sorted
returns-then-index-sorted c = let more = c.if-index-sorted.true in log_beyond c.args.sorted.now c.args.name.now c.count_before-index.result c.count_before-index.ensures (omega (arith, more))

pub returns-then-is_same : goal.returns-then-is_same
returns-then-is_same c =
    let less = c.if-index-sorted.false in
    ap Some c.item.view_is
    ∙ log_found c.args.sorted.now c.args.name.now c.count_before-index.result c.index-sorted-index.result c.count_before-index.ensures (omega (arith, less)) c.index-sorted-index.is
    (ap (λ x. same x.name c.args.name.now) (sym c.item.view_is) ∙ (sym c.is_same.ensures.is ∙ c.if-is_same.true))

pub returns-else-is_same : goal.returns-else-is_same
returns-else-is_same c =
    let less = c.if-index-sorted.false in
    log_absent c.args.sorted.now c.args.name.now c.count_before-index.result c.index-sorted-index.result c.requires c.count_before-index.ensures (omega (arith, less)) c.index-sorted-index.is
    (ap (λ x. same x.name c.args.name.now) (sym c.item.view_is) ∙ (sym c.is_same.ensures.is ∙ c.if-is_same.false))
