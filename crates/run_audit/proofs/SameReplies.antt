-- The derived equality of what slots reply decides whether two replies are the same.
use Rattle.std.proofs.Common.{◌≡◌, Decides, ap}
use Rattle.wedge_events.specs.declared.cells.SlotAsk.TheVariants as slot_ask
use Rattle.wedge_events.specs.declared.cells.SlotReply.{SlotReply}
use Rattle.wedge_events.specs.declared.events.Event.{Event}
use Rattle.wedge_events.specs.declared.events.Event.TheVariants as events
use Rattle.wedge_events.proofs.SameEvents.{event}

abbrev replied : SlotReply → Event
replied r = events.Slot 0 (slot_ask.Close 0) r

-- the reply of an event of a slot
abbrev reply_of : SlotReply → Event → SlotReply
reply_of r (events.Slot slot q s) = s
reply_of r e = r

pub slot_replies_decide : (a b : SlotReply) → Decides (event.test (replied a) (replied b)) (a ≡ b)
slot_replies_decide a b = let d = event.decides (replied a) (replied b) in (λ h. ap (reply_of a) (d.0 h), λ e. d.1 (ap replied e))
