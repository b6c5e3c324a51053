use Rattle.std.proofs.Common.{rules, ap, sym, ◌∙◌, subst, ◌∷◌, [], ◌++◌}
use Rattle.ruled_cell.specs.Visits.{cell_history, entry_list}
use Rattle.ruled_cell.specs.Order.{HasPassedOn}
use Rattle.wedge_events.specs.declared.events.CellName.TheVariants.{Slot}
use Rattle.ruled_cell.proofs.TicketSteps.{passes}
use Rattle.ruled_cell.proofs.cells.RuledCells.pass_on.Goals as goal

pub store-requires : goal.store-requires
store-requires g c = let t = c.requires.turn in let k = t.0 in let x = t.1 in let at = t.2 in (
  search rules,
  search rules,
  passes _ _ _ _ _ _ _ _ k x (search rules) (search rules) at.0 at.4 at.3
      (at.6 ∙ ap (λ n. (n, k) ∷ []) (sym at.1)) (at.7 ∙ ap (λ n. cell_history n c.args.seat.now.me.0.seen ++ entry_list x) (sym at.1)) (at.8 ∙ ap (λ n. Slot n) (sym at.1)),
)

pub returns-clause-visit : goal.returns-clause-visit
returns-clause-visit g c = λ k x at. subst (λ m. HasPassedOn c.args.cell x c.args.seat.now.me m) (sym c.call_next.ensures.me)
    (subst (λ n. HasPassedOn n x c.args.seat.now.me c.store.new.seat.me) at.1
    (c.store.ensures.2 k x (at.6 ∙ ap (λ n. (n, k) ∷ []) (sym at.1)) (at.7 ∙ ap (λ n. cell_history n c.args.seat.now.me.0.seen ++ entry_list x) (sym at.1))))
