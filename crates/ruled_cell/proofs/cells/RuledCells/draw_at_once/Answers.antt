use Rattle.std.proofs.Common.{rules, refl}
use Rattle.ruled_cell.proofs.TicketSteps.{draws}
use Rattle.ruled_cell.proofs.cells.RuledCells.draw_at_once.Goals as goal

pub compare_exchange-found-requires : goal.compare_exchange-found-requires
compare_exchange-found-requires g c = let was = c.requires.idle in
    (search rules, search rules, draws _ _ _ _ _ _ _ _ was.0 was.2 (search rules))

pub returns-then-found-next-clause-ticket : goal.returns-then-found-next-clause-ticket
returns-then-found-next-clause-ticket g c = (c.compare_exchange-found.ensures.2.0 (search rules) _ refl, search rules)
