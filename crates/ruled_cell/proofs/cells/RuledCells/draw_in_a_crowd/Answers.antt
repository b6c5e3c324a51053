use Rattle.std.proofs.Common.{rules, refl, ap, ◌∙◌}
use Rattle.ruled_cell.specs.Passes.{is_unspent}
use Rattle.ruled_cell.specs.Order.{with_ticket}
use Rattle.ruled_cell.proofs.TicketSteps.{draws}
use Rattle.ruled_cell.proofs.cells.RuledCells.draw_in_a_crowd.Goals as goal

pub compare_exchange-found-requires : goal.compare_exchange-found-requires
compare_exchange-found-requires g c = let same = c.loop.invariant.2 ∙ c.come_in-next.ensures.me in let was = c.requires.idle in
    (search rules, search rules, draws _ _ _ _ _ _ _ _ (ap (λ m. m.0.turn) same ∙ was.0) (ap (λ m. is_unspent m.0.origin) same ∙ was.2) (search rules))

pub returns-then-found-next-clause-ticket : goal.returns-then-found-next-clause-ticket
returns-then-found-next-clause-ticket g c = let same = c.loop.invariant.2 ∙ c.come_in-next.ensures.me in
    (c.compare_exchange-found.ensures.2.0 (search rules) _ refl ∙ ap (with_ticket c.args.cell c.loop.next) same, search rules)
