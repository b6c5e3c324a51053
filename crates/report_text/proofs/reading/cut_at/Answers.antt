use Rattle.std.proofs.Common.{arith}
use Rattle.std.proofs.lemmas.Grind.{common_steps}
use Rattle.report_text.proofs.Cuts.{cut_none, cut_some}
use Rattle.report_text.proofs.reading.cut_at.Goals as goal

pub returns-in_err-end-clause-none : goal.returns-in_err-end-clause-none
returns-in_err-end-clause-none c = rw c.from_residual.ensures (cut_none c.args.byte c.args.bytes.now (grind arith))

pub returns-clause-cut : goal.returns-clause-cut
returns-clause-cut c = grind (arith, common_steps, cut_some c.args.byte c.args.bytes.now c.in_ok-end.end)
