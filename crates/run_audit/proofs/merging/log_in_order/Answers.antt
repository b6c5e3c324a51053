use Rattle.run_audit.proofs.IndexedEntries.{order_log}
use Rattle.run_audit.proofs.merging.log_in_order.Goals as goal

pub returns : goal.returns
returns c =
    order_log c.args.declared c.args.first c.args.log.now.kept c.as_slice.result.now c.in_ok-all.all.items c.sort_stably.new.items.items c.as_slice.ensures c.in_ok-all.ensures
    c.in_ok-sort_stably.ensures.sorted c.in_ok-sort_stably.ensures.stable
