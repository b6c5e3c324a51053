use Rattle.std.proofs.Common.{sym}
use Rattle.cli_inputs.specs.Words.{asked_by, texts}
use Rattle.cli_inputs.proofs.FitWorkers.{fit}
use Rattle.cli_inputs.proofs.words.read_words.Goals as goal

pub returns-in-Some-clause-workers : goal.returns-in-Some-clause-workers
returns-in-Some-clause-workers c = fit (texts c.args.words.now) (asked_by c.in-Some.command) (sym c.in-Some.ensures)
