use Rattle.std.proofs.Common.{sym, subst}
use Rattle.wedge_events.specs.Slots.{SlotFits, slot_reply}
use Rattle.wedge_events.specs.declared.cells.SlotAsk.{SlotAsk}
use Rattle.wedge_events.specs.declared.events.Event.TheVariants as event
use Rattle.machine.specs.Between.{IsInBounds}
use Rattle.run_laws.proofs.Placing.{places_inside, snaps_inside}
use Rattle.run_cells.proofs.enter.is_in_bounds.Goals as goal

pub returns-in-Smalloc : goal.returns-in-Smalloc
returns-in-Smalloc c =
    let s = c.args.state.now in
    subst (λ (q : SlotAsk). IsInBounds (event.Slot c.args.slot q (slot_reply s q))) (sym c.in-Smalloc.is)
    (places_inside c.args.slot c.in-Smalloc.tag c.in-Smalloc.size s c.requires.inside (subst (λ (q : SlotAsk). SlotFits s q) c.in-Smalloc.is c.requires.fits) c.blocks-in-Smalloc.ensures.apart c.size.ensures.few)

pub returns-in-Snap : goal.returns-in-Snap
returns-in-Snap c =
    let s = c.args.state.now in
    subst (λ (q : SlotAsk). IsInBounds (event.Slot c.args.slot q (slot_reply s q))) (sym c.in-Snap.is)
    (snaps_inside c.args.slot c.in-Snap.tag s c.requires.inside c.size-in-Snap.ensures.few)
