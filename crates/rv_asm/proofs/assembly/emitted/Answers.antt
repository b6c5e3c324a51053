use Rattle.std.proofs.Common.{◌+◌, drop, map, ap, sym, ◌∙◌, arith}
use Rattle.rv_asm.specs.Assembly.{assembled_from, procedures, with_line_words}
use Rattle.rv_asm.specs.Views.{statement_view, equates_view, labels_view, code_view}
use Rattle.rv_asm.proofs.Passes.{assembled_step, assembled_fault, assembled_end}
use Rattle.rv_asm.proofs.assembly.emitted.Goals as goal

pub returns-in-Err : goal.returns-in-Err
returns-in-Err c =
    let l = c.loop-statement in
    sym (assembled_fault statement_view (equates_view c.args.equates.now) c.args.statements.now (labels_view c.args.labels.now) l.front (l.line + 1) l.at l.statement-index c.statement-item.result c.in-Err.why c.loop-statement-test.true c.statement-item.is c.in-Err.ensures)
    ∙ l.invariant.so_far

pub loop-statement-preserved : goal.loop-statement-preserved
loop-statement-preserved c =
    let l = c.loop-statement in
    let es = equates_view c.args.equates.now in
    let ls = labels_view c.args.labels.now in
    let rest = map statement_view (drop (l.statement-index + 1) c.args.statements.now) in
    let done = with_line_words l.front (code_view c.in-Ok.code) (procedures l.at (statement_view c.statement-item.result)) in
    record {
      counted = omega (arith, l.invariant.counted);
      so_far =
          ap (λ ws. assembled_from es ls (record { words = ws; procedures = c.push_procedure.new.procedures }) (l.line + 1 + 1) c.after-at.result rest) c.in_ok-push_code-in-Ok.ensures
          ∙ ap (λ ps. assembled_from es ls (record { words = done.words; procedures = ps }) (l.line + 1 + 1) c.after-at.result rest) c.in_ok-push_procedure.ensures
          ∙ ap (λ n. assembled_from es ls done (l.line + 1 + 1) n rest) c.after-at.ensures
          ∙ sym (assembled_step statement_view es c.args.statements.now ls l.front (l.line + 1) l.at l.statement-index c.statement-item.result (code_view c.in-Ok.code) c.loop-statement-test.true c.statement-item.is c.in-Ok.ensures)
          ∙ l.invariant.so_far;
    }

pub returns : goal.returns
returns c =
    let l = c.loop-statement in
    sym (assembled_end statement_view (equates_view c.args.equates.now) c.args.statements.now (labels_view c.args.labels.now) l.front (l.line + 1) l.at l.statement-index c.loop-statement-test.false)
    ∙ l.invariant.so_far
