use Rattle.run_audit.proofs.TwoHeads.{ok_map}
use Rattle.run_audit.proofs.ComparedOrder.{order_compared}
use Rattle.run_audit.proofs.merging.compared_in_order.Goals as goal

pub returns : goal.returns
returns c = ok_map c.logs_merged.result c.logs_merged.ensures (λ v h. order_compared c.args.declared c.args.logs.now v.items c.requires h)
