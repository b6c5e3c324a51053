use Rattle.std.proofs.Common.{◌≡◌, ◌<◌, ◌≤◌, length, get_or, sym, ap, subst, ◌∙◌, arith}
use Rattle.std.specs.Prelude.{Option, IfSome, slice_get}
use Rattle.wedge_base.specs.Blocks.{AreBlocks}
use Rattle.wedge_base.specs.Images.{window}
use Rattle.wedge_events.specs.Slots.{Segment, SlotFits, slot_reply}
use Rattle.wedge_events.specs.declared.cells.SlotAsk.{SlotAsk}
use Rattle.wedge_events.specs.declared.cells.SlotAsk.TheVariants as ask
use Rattle.wedge_events.specs.declared.events.Event.TheVariants as event
use Rattle.machine.specs.Between.{IsInBounds}
use Rattle.machine.specs.Cells.{held}
use Rattle.world_cells.proofs.CellIndices.{held_at}
use Rattle.run_laws.proofs.Placing.{places_inside, snaps_inside}
use Rattle.world_cells.proofs.cells.is_in_bounds.Goals as goal

pub returns-in-Smalloc : goal.returns-in-Smalloc
returns-in-Smalloc c =
    let s = held (slice_get c.args.slots.now c.args.slot) in
    let is : c.args.ask.now ≡ ask.Smalloc c.in-Smalloc.tag c.in-Smalloc.size = c.in-Smalloc.is in
    let inside : c.args.slot < length c.args.slots.now = omega (arith, c.requires.inside, c.requires.all) in
    let there : s ≡ c.index-slots-slot.result = held_at c.args.slots.now c.args.slot c.index-slots-slot.result inside (c.index-slots-slot.is ∙ ap (λ n. get_or c.args.slots.now n c.index-slots-slot.result) c.slot.view_is) in
    subst (λ (q : SlotAsk). IsInBounds (event.Slot c.args.slot q (slot_reply s q))) (sym is)
    (places_inside c.args.slot c.in-Smalloc.tag c.in-Smalloc.size s c.requires.inside (subst (λ (q : SlotAsk). SlotFits s q) is c.requires.fits)
    (subst (λ (o : Option Segment). IfSome o (λ g. AreBlocks 0 (length g.bytes) g.blocks)) (sym there) c.blocks-in-Smalloc.ensures.apart)
    (subst (λ (o : Option Segment). IfSome o (λ g. length g.bytes ≤ window)) (sym there) c.size.ensures.few))

pub returns-in-Snap : goal.returns-in-Snap
returns-in-Snap c =
    let s = held (slice_get c.args.slots.now c.args.slot) in
    let state = c.index-slots-slot-in-Snap.result in
    let inside : c.args.slot < length c.args.slots.now = omega (arith, c.requires.inside, c.requires.all) in
    let there : s ≡ state = held_at c.args.slots.now c.args.slot state inside (c.index-slots-slot-in-Snap.is ∙ ap (λ n. get_or c.args.slots.now n state) c.slot.view_is) in
    subst (λ (q : SlotAsk). IsInBounds (event.Slot c.args.slot q (slot_reply s q))) (sym c.in-Snap.is)
    (snaps_inside c.args.slot c.in-Snap.tag s c.requires.inside (subst (λ (o : Option Segment). IfSome o (λ g. length g.bytes ≤ window)) (sym there) c.size-in-Snap.ensures.few))
