use Rattle.std.proofs.Common.{◌≡◌, rules}
use Rattle.std.proofs.lemmas.List.Sorted.{answers_always}
use Rattle.run_outcome.proofs.Lines.{line_before, line_order}
use Rattle.run_audit.proofs.LogLines.{lines_from_last, log_lines_sorted}
use Rattle.run_audit.proofs.actor_lines.lines_in.Goals as goal

pub returns : goal.returns
returns c =
    let pushed : c.loop-left.lines.items ≡ lines_from_last c.args.image.now c.args.logs.now = search rules in
    let compares = answers_always _ _ _ (λ f a r q k. search rules) in
    log_lines_sorted c.args.image.now c.args.logs.now c.loop-left.lines.items _ pushed
    (c.in_ok-sort_by.ensures.sorted line_before line_order compares) (c.in_ok-sort_by.ensures.stable line_before line_order compares)
