use Rattle.run_audit.proofs.TwoHeads.{ok_map}
use Rattle.run_audit.proofs.IndexedEntries.{order_both}
use Rattle.run_audit.proofs.merging.+logs_merged.Goals as goal

pub returns-in_ok-right-in_default : goal.returns-in_ok-right-in_default
returns-in_ok-right-in_default t c =
    ok_map c.merge.result c.merge.ensures
    (λ v out. order_both c.args.declared c.args.first c.in_ok-next-in_default.next c.args.logs.now c.split_at.result.0.now c.split_at.result.1.now _ c.in_ok-left-in_default.left.items c.in_ok-right-in_default.right.items c.as_slice.result.now c.as_slice-in_default.result.now v.items
    c.split_at.ensures.front c.split_at.ensures.back c.in_ok-left-in_default.ensures c.in_ok-next-in_default.ensures c.in_ok-right-in_default.ensures c.as_slice.ensures.value c.as_slice-in_default.ensures.value out)
