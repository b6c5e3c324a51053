use Rattle.std.proofs.Common.{rules, ap, sym, ◌∙◌, subst}
use Rattle.ruled_cell.specs.Passes.{is_unspent}
use Rattle.ruled_cell.specs.Order.{IsServed}
use Rattle.ruled_cell.proofs.TicketSteps.{looks}
use Rattle.ruled_cell.proofs.cells.RuledCells.wait_on.Goals as goal

pub load-found-requires : goal.load-found-requires
load-found-requires g c = let same = c.loop.invariant.2 in let was = c.requires.ticket in
    (search rules, search rules, looks _ _ _ _ _ _ _ (search rules) (ap (λ m. m.0.turn) same ∙ was.0) (ap (λ m. is_unspent m.0.origin) same ∙ was.4) (ap (λ m. m.0.is_numbered) same ∙ was.3))

pub returns-then-found-ticket-clause-served : goal.returns-then-found-ticket-clause-served
returns-then-found-ticket-clause-served g c = let same = c.loop.invariant.2 in let was = c.requires.ticket in
    subst (λ m. IsServed m c.load-found.new.seat.me) same (c.load-found.ensures.2.0 (c.if-found-ticket.true ∙ (sym was.2 ∙ ap (λ m. m.0.ticket) (sym same))))
