use Rattle.run_audit.proofs.TwoHeads.{ok_map}
use Rattle.run_audit.proofs.IndexedEntries.{order_journal}
use Rattle.run_audit.proofs.merging.entries_in_order.Goals as goal

pub returns : goal.returns
returns c = ok_map c.logs_merged.result c.logs_merged.ensures (λ v h. order_journal c.args.logs.now v.items h)
