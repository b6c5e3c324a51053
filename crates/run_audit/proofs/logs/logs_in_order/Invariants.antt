use Rattle.std.proofs.Common.{◌≡◌, ◌++◌, ◌∷◌, drop}
use Rattle.wedge_base.specs.Names.{root_name}
use Rattle.thread_laws.specs.Executions.{names_begun}
use Rattle.thread_laws.specs.Joining.{logs_named}
use Rattle.run_audit.proofs.logs.logs_in_order.Given as goal

abbrev pub invariant-loop-item : goal.invariant-loop-item
invariant-loop-item l = l.ordered.items ++ logs_named l.sorted.items (names_begun (drop l.item-index l.journal)) ≡ logs_named l.sorted.items (root_name ∷ names_begun l.journal)
