use Rattle.std.proofs.Common.{rules, ◌≡◌, ◌<◌, ◌++◌, ◌∷◌, [], sym, ap, subst, ◌∙◌}
use Rattle.wedge_base.specs.Images.{slots as most_slots}
use Rattle.run_cells.specs.Entries.{IsPlainEntry, slot_entry_of}
use Rattle.run_cells.specs.Names.{IsSlotName}
use Rattle.run_cells.proofs.EntriesFit.{slot_plain}
use Rattle.run_cells.proofs.TagPasses.{visit_more}
use Rattle.run_cells.proofs.tag_cells.TagCells.enter.Goals as goal

pub returns-clause-entered : goal.returns-clause-entered
returns-clause-entered g c =
    let slot = c.slot.inside.0 in
    let e = c.in_ok-entry.entry in
    visit_more slot e c.pass.inside.pass c.enter.new.pass c.in_ok-entry.ensures.visit
    ∙ (ap (λ es. es ++ slot_entry_of slot e ∷ []) c.pass.view_is
    ∙ ap (λ x. c.args.pass.now ++ x ∷ []) (ap (λ s. slot_entry_of s e) c.slot.view_is ∙ sym c.slot_entry.ensures))

pub returns-clause-plain : goal.returns-clause-plain
returns-clause-plain g c =
    let r = c.args.run.now.progress in
    let new = c.in_ok-entry.ensures.entry in
    let few : c.args.slot < most_slots = search rules in
    subst (IsPlainEntry g.I.RunOf.image r) (sym c.slot_entry.ensures)
    (slot_plain g.I.RunOf.image r c.args.slot c.args.want new.before c.pass_of-actor.result c.in_ok-entry.entry
    c.requires.wants new.finds_.1 (subst IsSlotName (sym new.name_) (subst (λ n. n < most_slots) (sym c.slot.view_is) few))
    c.pass_of-actor.ensures.name c.pass_of-actor.ensures.clock new.entry_ new.after_.0)
