use Rattle.std.proofs.Common.{arith}
use Rattle.std.proofs.lemmas.Grind.{common_steps}
use Rattle.cb_log.proofs.Chains.{no_frames, first_frame, more_frames}
use Rattle.cb_log.proofs.texts.write_chain.Goals as goal
use Rattle.cb_log.proofs.texts.write_chain.Goals.{then-i-gt0+in_ok-push, else-i-gt0}

pub loop-i-init : goal.loop-i-init
loop-i-init c = grind (arith, common_steps, no_frames c.args.naming.now.image.now)

pub loop-i-preserved : goal.loop-i-preserved
loop-i-preserved c =
    elim c.if-i-gt0.branch [
      | then-i-gt0+in_ok-push w ↦ grind (arith, common_steps, more_frames c.args.naming.now.image.now c.args.frames.now c.loop-i.i 0)
      | else-i-gt0 w ↦ grind (arith, common_steps, no_frames c.args.naming.now.image.now, first_frame c.args.naming.now.image.now c.args.frames.now 0)
    ]
