use Rattle.std.proofs.Common.{◌≡◌, Decides, subst, sym}
use Rattle.wedge_events.proofs.SameEvents.{gate_ask}
use Rattle.wedge_events.proofs.cells.GateAsk.is_same.Goals as goal

pub returns : goal.returns
returns c = subst (λ b. Decides b (c.args.self.now ≡ c.args.other.now)) (sym c.eq.ensures) (gate_ask.decides c.args.self.now c.args.other.now)
