use Rattle.std.proofs.Common.{◌+◌, sym, ap, ◌∙◌, arith}
use Rattle.trace_form.specs.Grammar.{line_pieces}
use Rattle.trace_form.specs.FirstFault as faults
use Rattle.trace_form.proofs.FirstLines.{line_ends, line_wrong, line_right}
use Rattle.trace_form.proofs.first_fault.lines_fault.Goals as goal

pub returns-in-Some-count_at : goal.returns-in-Some-count_at
returns-in-Some-count_at c =
    c.end_fault.ensures
    ∙ sym (line_ends (c.loop-line.count + 2) c.loop-line.count c.loop-line.rest.now c.in-Some.line.now c.in-Some.after.now c.in-Some-count_at.text.now c.in-Some.ensures.parts (sym c.in-Some-count_at.ensures))
    ∙ c.loop-line.invariant.so_far

pub returns-in-Some-line_fault : goal.returns-in-Some-line_fault
returns-in-Some-line_fault c =
    sym (line_wrong (c.loop-line.count + 2) c.loop-line.count c.loop-line.rest.now c.in-Some.line.now c.in-Some.after.now c.in-Some-line_fault.why c.in-Some.ensures.parts (sym c.in_default-count_at.ensures) (sym c.in-Some-line_fault.ensures))
    ∙ c.loop-line.invariant.so_far

pub loop-line-preserved : goal.loop-line-preserved
loop-line-preserved c = record {
  short = omega (arith, c.in-Some.ensures.shorter);
  so_far =
      ap (λ n. faults.lines_fault n (c.loop-line.count + 1) (line_pieces c.in-Some.after.now)) (omega arith)
      ∙ sym (line_right (c.loop-line.count + 2) c.loop-line.count c.loop-line.rest.now c.in-Some.line.now c.in-Some.after.now c.in-Some.ensures.parts (sym c.in_default-count_at.ensures) (sym c.in_default-line_fault.ensures))
      ∙ c.loop-line.invariant.so_far;
}
