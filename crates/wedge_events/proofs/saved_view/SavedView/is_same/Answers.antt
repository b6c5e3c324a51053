use Rattle.std.proofs.Common.{◌≡◌, Decides, subst, sym}
use Rattle.wedge_events.proofs.SameEvents.{memory}
use Rattle.wedge_events.proofs.saved_view.SavedView.is_same.Goals as goal

pub returns : goal.returns
returns c = subst (λ b. Decides b (c.args.self.now ≡ c.args.other.now)) (sym c.eq.ensures) (memory.decides c.args.self.now c.args.other.now)
