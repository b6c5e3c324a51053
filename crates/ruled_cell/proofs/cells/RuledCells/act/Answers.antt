use Rattle.std.proofs.Common.{rules, ap, sym, ◌∙◌, subst, ◌≡◌, ◌∷◌, []}
use Rattle.atomic_table.specs.Table.{rest}
use Rattle.journal_cell.specs.Histories.{IsKeptCell, entry_at}
use Rattle.ruled_cell.proofs.cells.RuledCells.act.Goals as goal

pub slot_mut-inside-requires : goal.slot_mut-inside-requires
slot_mut-inside-requires g c = let t = c.requires.has_cell in (search rules, (t.0, t.1 ∙ ap (λ l. (c.args.cell, t.0) ∷ rest l) (sym t.1)))

pub returns-clause-ok : goal.returns-clause-ok
returns-clause-ok g c = let k = c.slot_mut-inside.result.now in let bare : rest c.args.seat.now.me.1 ≡ [] = ap rest c.requires.has_cell.1 in
    let carried = c.slot_mut-inside.ensures.value ∙ ap (λ l. (c.args.cell, k) ∷ l) bare in let state = c.state.ensures.state in
    let finds = subst (g.M.AskMaker.finds c.args.maker.now) state c.ask-ask.ensures.finds in
    let asked = c.ask-ask.ensures.makes ∙ ap (g.M.AskMaker.makes c.args.maker.now) state in
    let kept = c.in_ok-entry.ensures.kept in
    let before : IsKeptCell (g.O.Object.fits g.I.RunOf.image) g.O.Object.reply g.O.Object.next (g.O.Object.opening g.I.RunOf.image) k = (c.state.ensures.legal, c.state.ensures.leads, c.state.ensures.clock) in
    let after = subst (IsKeptCell (g.O.Object.fits g.I.RunOf.image) g.O.Object.reply g.O.Object.next (g.O.Object.opening g.I.RunOf.image)) kept (c.state-2.ensures.legal, c.state-2.ensures.leads, c.state-2.ensures.clock) in
    (k, carried, finds, c.in_ok-entry.ensures.entry ∙ ap (entry_at g.O.Object.reply k c.args.actor.now) asked, λ i. (c.args.cell, kept i) ∷ bare i, before, after)
