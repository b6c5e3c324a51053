use Rattle.std.proofs.Common.{◌≡◌, ◌+◌, drop, map}
use Rattle.rv_asm.specs.Assembly.{assembled_from, nothing}
use Rattle.rv_asm.specs.Views.{statement_view, equates_view, labels_view}
use Rattle.rv_asm.proofs.assembly.emitted.Given as goal

abbrev pub invariant-loop-statement : goal.invariant-loop-statement
invariant-loop-statement l = record {
  counted : l.line ≡ l.statement-index;
  so_far : assembled_from (equates_view l.equates) (labels_view l.labels) l.front (l.line + 1) l.at (map statement_view (drop l.statement-index l.statements)) ≡ assembled_from (equates_view l.equates) (labels_view l.labels) nothing 1 l.base (map statement_view l.statements);
}
