use Rattle.std.proofs.Common.{arith}
use Rattle.std.proofs.lemmas.Grind.{common_steps}
use Rattle.report_text.proofs.Names.{no_parts, first_part, more_parts}
use Rattle.report_text.proofs.numbers.write_name.Goals as goal
use Rattle.report_text.proofs.numbers.write_name.Goals.{then-i-gt0+in_ok-push, else-i-gt0}

pub loop-i-init : goal.loop-i-init
loop-i-init c = grind (arith, common_steps, no_parts)

pub loop-i-preserved : goal.loop-i-preserved
loop-i-preserved c =
    elim c.if-i-gt0.branch [
      | then-i-gt0+in_ok-push w ↦ grind (arith, common_steps, more_parts c.args.parts.now c.loop-i.i 0)
      | else-i-gt0 w ↦ grind (arith, common_steps, no_parts, first_part c.args.parts.now 0)
    ]
