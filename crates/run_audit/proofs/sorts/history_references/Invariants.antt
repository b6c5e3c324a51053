use Rattle.std.proofs.Common.{◌≡◌, take}
use Rattle.run_audit.specs.ComparedCells.{compared_histories}
use Rattle.run_audit.proofs.sorts.history_references.Given as goal

abbrev pub invariant-loop-history : goal.invariant-loop-history
invariant-loop-history l = l.all.items ≡ compared_histories l.declared (take l.history-index l.cells)
