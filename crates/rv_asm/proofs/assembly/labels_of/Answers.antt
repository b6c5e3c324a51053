use Rattle.std.proofs.Common.{◌+◌, drop, map, ap, sym, ◌∙◌, arith}
use Rattle.rv_asm.specs.Assembly.{Labels, labels_from, define_label, name_given}
use Rattle.rv_asm.specs.Views.{statement_view, equates_view, labels_view}
use Rattle.rv_asm.proofs.Passes.{labels_step, labels_end}
use Rattle.rv_asm.proofs.assembly.labels_of.Goals as goal

pub loop-statement-preserved : goal.loop-statement-preserved
loop-statement-preserved c =
    let l = c.loop-statement in
    let es = equates_view c.args.equates.now in
    let rest = map statement_view (drop (l.statement-index + 1) c.args.statements.now) in
    let known = define_label es (l.line + 1) l.at (labels_view l.labels) (name_given (statement_view c.statement-item.result)) in
    record {
      counted = omega (arith, l.invariant.counted);
      so_far =
          ap (λ (ls : Labels). labels_from es ls (l.line + 1 + 1) c.after-at.result rest) c.in_ok-note.ensures
          ∙ ap (λ n. labels_from es known (l.line + 1 + 1) n rest) c.after-at.ensures
          ∙ sym (labels_step statement_view es c.args.statements.now (labels_view l.labels) (l.line + 1) l.at l.statement-index c.statement-item.result c.loop-statement-test.true c.statement-item.is)
          ∙ l.invariant.so_far;
    }

pub returns : goal.returns
returns c =
    sym (labels_end statement_view (equates_view c.args.equates.now) c.args.statements.now (labels_view c.loop-statement.labels) (c.loop-statement.line + 1) c.loop-statement.at c.loop-statement.statement-index c.loop-statement-test.false)
    ∙ c.loop-statement.invariant.so_far
