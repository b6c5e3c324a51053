use Rattle.std.proofs.Common.{◌≡◌, Decides, subst, sym}
use Rattle.wedge_events.proofs.SameEvents.{log_entry}
use Rattle.wedge_events.proofs.events.LogEntry.is_same.Goals as goal

pub returns : goal.returns
returns c = subst (λ b. Decides b (c.args.self.now ≡ c.args.other.now)) (sym c.eq.ensures) (log_entry.decides c.args.self.now c.args.other.now)
