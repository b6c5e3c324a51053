use Rattle.std.proofs.Common.{◌∷◌, arith}
use Rattle.wedge_base.specs.Names.{root_name}
use Rattle.thread_laws.specs.Executions.{names_begun}
use Rattle.run_audit.proofs.NamedLogs.{named_end}
use Rattle.run_audit.proofs.logs.logs_in_order.Goals as goal

pub returns : goal.returns
returns c =
    let more = c.loop-item-test.false in
    named_end c.loop-item.ordered.items c.args.logs.now c.in_ok-sorted.sorted.items c.args.journal.now c.loop-item.item-index (root_name ∷ names_begun c.args.journal.now) (omega (arith, more)) c.in_ok-sorted.ensures.stable c.loop-item.invariant
