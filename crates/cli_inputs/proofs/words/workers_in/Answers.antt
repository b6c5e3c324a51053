use Rattle.std.proofs.Common.{◌≡◌, true, false, sym, ◌∙◌, arith}
use Rattle.cli_inputs.specs.Words.{begins_with_nonzero_digit}
use Rattle.cli_inputs.proofs.Workers.{none_behind, none_unparsed, none_past, workers_are}
use Rattle.cli_inputs.proofs.words.workers_in.Goals as goal

pub returns-then-not-begins_with_nonzero_digit : goal.returns-then-not-begins_with_nonzero_digit
returns-then-not-begins_with_nonzero_digit c =
    let no : begins_with_nonzero_digit c.args.argument.now ≡ false = grind arith in
    sym (none_behind c.args.argument.now no)

pub returns-in_err-workers : goal.returns-in_err-workers
returns-in_err-workers c =
    let yes : begins_with_nonzero_digit c.args.argument.now ≡ true = grind arith in
    c.from_residual.ensures ∙ sym (none_unparsed c.args.argument.now c.parse.result c.parse.ensures.value.0 yes (sym c.ok.ensures.value ∙ c.in_err-workers.was))

pub returns-then-workers-gt-MOST_WORKERS : goal.returns-then-workers-gt-MOST_WORKERS
returns-then-workers-gt-MOST_WORKERS c =
    let yes : begins_with_nonzero_digit c.args.argument.now ≡ true = grind arith in
    sym (none_past c.args.argument.now c.parse.result c.in_ok-workers.workers c.parse.ensures.value.0 yes (sym c.ok.ensures.value ∙ c.in_ok-workers.was) (omega (arith, c.if-workers-gt-MOST_WORKERS.true)))

pub returns : goal.returns
returns c =
    let yes : begins_with_nonzero_digit c.args.argument.now ≡ true = grind arith in
    sym (workers_are c.args.argument.now c.parse.result c.in_ok-workers.workers c.parse.ensures.value.0 yes (sym c.ok.ensures.value ∙ c.in_ok-workers.was) (omega (arith, c.if-workers-gt-MOST_WORKERS.false)))
