use Rattle.std.proofs.Common.{rules, subst, ◌∙◌}
use Rattle.ruled_cell.specs.Order.{IsServed}
use Rattle.ruled_cell.proofs.TicketSteps.{looks}
use Rattle.ruled_cell.proofs.cells.RuledCells.wait.Goals as goal

pub load-found-requires : goal.load-found-requires
load-found-requires g c = let was = c.requires.ticket in (search rules, search rules, looks _ _ _ _ _ _ _ (search rules) was.0 was.4 was.3)

pub returns-then-found-ticket-clause-served : goal.returns-then-found-ticket-clause-served
returns-then-found-ticket-clause-served g c = let found = c.load-found.ensures.2.1 (λ e. c.if-found-ticket.true (e ∙ c.requires.ticket.2)) in subst (λ m. IsServed m c.wait_on.new.seat.me) found c.wait_on.ensures.served
