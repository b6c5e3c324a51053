use Rattle.std.proofs.Common.{◌≡◌, Decides, subst, sym}
use Rattle.run_audit.proofs.SameReplies.{slot_replies_decide}
use Rattle.run_audit.proofs.equality.same_slot_reply.Goals as goal

pub returns : goal.returns
returns c = subst (λ b. Decides b (c.args.a.now ≡ c.args.b.now)) (sym c.eq.ensures) (slot_replies_decide c.args.a.now c.args.b.now)
