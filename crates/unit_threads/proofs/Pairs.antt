-- What is asked carries the tag that lives in the slot.
use Rattle.std.proofs.Common.{refl}
use Rattle.std.specs.Prelude.{Option, Some, None, option_map}
use Rattle.wedge_base.specs.declared.rights.Right.{Right}
use Rattle.wedge_events.specs.Slots.{Segment, IsPair}

pub pair_with : (s : Option Segment) (r : Right) → IsPair s (option_map (λ (g : Segment). record { tag = g.tag; right = Some r }) s)
pair_with None r = refl
pair_with (Some g) r = refl
