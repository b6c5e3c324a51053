use Rattle.std.proofs.Common.{◌≡◌, Decides, subst, sym}
use Rattle.wedge_events.proofs.SameEvents.{event}
use Rattle.wedge_events.proofs.events.Event.is_same.Goals as goal

pub returns : goal.returns
returns c = subst (λ b. Decides b (c.args.self.now ≡ c.args.other.now)) (sym c.eq.ensures) (event.decides c.args.self.now c.args.other.now)
