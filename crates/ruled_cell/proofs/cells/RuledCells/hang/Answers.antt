use Rattle.std.proofs.Common.{rules}
use Rattle.std.specs.Prelude.{bit_or}
use Rattle.ruled_cell.proofs.TicketSteps.{rings}
use Rattle.ruled_cell.proofs.cells.RuledCells.hang.Goals as goal

pub fetch_or-was-requires : goal.fetch_or-was-requires
fetch_or-was-requires g c = let odd = c.requires.odd in (search rules, search rules, rings _ _ _ _ _ _ odd.0 _ (λ n. bit_or n 1) odd.1)
