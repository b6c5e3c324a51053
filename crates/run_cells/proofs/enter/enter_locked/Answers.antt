use Rattle.std.proofs.Common.{rules, subst, sym, ap, ◌∙◌, ◌≡◌}
use Rattle.std.specs.Prelude.{Option, option_map}
use Rattle.wedge_events.specs.Slots.{Segment, SlotFits, slot_reply}
use Rattle.wedge_events.specs.Wants.{slot_ask_with}
use Rattle.wedge_events.specs.declared.cells.SlotAsk.{SlotAsk}
use Rattle.wedge_events.specs.declared.events.Event.TheVariants as event
use Rattle.journal_cell.specs.Histories.{entry_at}
use Rattle.machine.specs.Between.{IsInBounds}
use Rattle.machine.specs.Take.{pair}
use Rattle.run_cells.specs.Entries.{IsPlainEntry}
use Rattle.run_cells.proofs.EntriesFit.{slot_asked, slot_fits, slot_plain}
use Rattle.run_cells.proofs.enter.enter_locked.Goals as goal

pub enter-requires : goal.enter-requires
enter-requires g c =
    let s = c.deref_mut-locked.result.now.state in
    let asked : c.with-ask.result ≡ slot_ask_with c.args.want (pair c.args.run.now.progress.state (option_map (λ g. g.tag) s)) = search rules in
    subst (SlotFits s) (sym asked) (slot_fits s c.args.run.now.progress.state c.args.slot c.args.want c.requires.fits)

pub returns-clause-plain : goal.returns-clause-plain
returns-clause-plain g c =
    let r = c.args.run.now.progress in
    let slot = c.args.slot in
    let k = c.deref_mut-locked.result.now in
    let p = c.pass_of-pass.result in
    let q = c.with-ask.result in
    let asked : q ≡ slot_asked r.state c.args.want k.state = search rules in
    let inside = subst (λ (s : Option Segment). IsInBounds (event.Slot slot q (slot_reply s q))) c.state-2.ensures c.is_in_bounds.ensures in
    let bounds = subst (λ (a : SlotAsk). IsInBounds (event.Slot slot a (slot_reply k.state a))) asked inside in
    subst (IsPlainEntry g.I.RunOf.image r) (sym c.slot_entry.ensures)
    (slot_plain g.I.RunOf.image r slot c.args.want k p c.in_ok-entry.entry c.requires.wants bounds c.in_ok-entry.ensures.named
    c.pass_of-pass.ensures.name c.pass_of-pass.ensures.clock (c.in_ok-entry.ensures.entry ∙ ap (entry_at slot_reply k p) asked) c.in_ok-entry.ensures.legal)
