use Rattle.std.proofs.Common.{rules, ap, ◌∙◌}
use Rattle.ruled_cell.specs.Passes.{is_unspent}
use Rattle.ruled_cell.proofs.cells.RuledCells.enter.Goals as goal

pub draw-requires : goal.draw-requires
draw-requires g c = record { table = search rules; idle = c.pass.invariant.1 }

pub take_turn-requires : goal.take_turn-requires
take_turn-requires g c = let d = c.in-Some.ensures.ticket in let idle = c.pass.invariant.1 in record {
  table = search rules;
  ticket = (ap (λ m. m.0.turn) d.0, ap (λ m. m.0.cell) d.0, ap (λ m. m.0.ticket) d.0, ap (λ m. m.0.is_numbered) d.0 ∙ idle.1, ap (λ m. is_unspent m.0.origin) d.0 ∙ idle.2, d.1, ap (λ m. m.1) d.0 ∙ c.pass.invariant.0);
  fits = c.requires.fits;
}
