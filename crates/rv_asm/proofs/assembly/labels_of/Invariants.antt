use Rattle.std.proofs.Common.{◌≡◌, ◌+◌, drop, map}
use Rattle.rv_asm.specs.Assembly.{labels_from, no_labels}
use Rattle.rv_asm.specs.Views.{statement_view, equates_view, labels_view}
use Rattle.rv_asm.proofs.assembly.labels_of.Given as goal

abbrev pub invariant-loop-statement : goal.invariant-loop-statement
invariant-loop-statement l = record {
  counted : l.line ≡ l.statement-index;
  so_far : labels_from (equates_view l.equates) (labels_view l.labels) (l.line + 1) l.at (map statement_view (drop l.statement-index l.statements)) ≡ labels_from (equates_view l.equates) no_labels 1 l.base (map statement_view l.statements);
}
