-- What a reply to the wish for a block says of the first fit.
use Rattle.std.proofs.Common.{◌≡◌, ℕ, Bool, true, false, cond, refl}
use Rattle.std.specs.Prelude.{Option, Some, None}
use Rattle.wedge_events.specs.Slots.{place_reply}
use Rattle.wedge_events.specs.declared.cells.SlotReply.TheVariants as reply

pub placed_at : (same : Bool) (fit : Option ℕ) (offset : ℕ) → cond same (place_reply fit) reply.NoSuch ≡ reply.Placed offset → fit ≡ Some offset
placed_at true (Some place) offset e = cc
placed_at true None offset e = cc
placed_at false fit offset e = cc

pub full_at : (same : Bool) (fit : Option ℕ) → cond same (place_reply fit) reply.NoSuch ≡ reply.Full → fit ≡ None
full_at true (Some place) e = cc
full_at true None e = refl
full_at false fit e = cc
