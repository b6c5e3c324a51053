use Rattle.std.proofs.Common.{◌≡◌, ◌++◌, ◌∷◌, [], length, subst, ap, ◌∙◌, arith}
use Rattle.tag_segment.specs.Objects.{opening_state}
use Rattle.wedge_events.specs.Slots.{SlotFits, slot_reply, slot_next}
use Rattle.journal_cell.specs.Histories.{IsHistory}
use Rattle.thread_laws.specs.Replaying.{slot_histories}
use Rattle.thread_laws.specs.declared.gathered.CellHistory.TheVariants as history
use Rattle.run_cells.proofs.Kept.{one_more}
use Rattle.run_cells.proofs.TagPasses.{histories_last}
use Rattle.run_cells.proofs.histories.add_tag.Goals as goal

pub returns-clause-kept : goal.returns-clause-kept
returns-clause-kept g c =
    let i = g.I.RunOf.image in
    let before = c.args.all.now.items in
    let es = c.into_history.result in
    let n = length before in
    let is : slot_histories 0 c.push.new.self.items ≡ slot_histories 0 before ++ history.Slot n es ∷ [] = ap (slot_histories 0) c.in_ok-push.ensures.items ∙ (histories_last 0 before es ∙ ap (λ m. slot_histories 0 before ++ history.Slot m es ∷ []) (omega arith)) in
    one_more i (slot_histories 0 before) (slot_histories 0 c.push.new.self.items) (history.Slot n es) is c.requires.kept
    (c.requires.inside, subst (λ s. IsHistory SlotFits slot_reply slot_next s 0 es) (ap (opening_state i) c.requires.named) c.into_history.ensures.legal)
