use Rattle.std.proofs.Common.{rules, ◌+◌, ◌%◌, ◌^◌}
use Rattle.ruled_cell.proofs.TicketSteps.{rings}
use Rattle.ruled_cell.proofs.cells.RuledCells.change.Goals as goal

pub fetch_add-requires : goal.fetch_add-requires
fetch_add-requires g c = let odd = c.requires.odd in (search rules, search rules, rings _ _ _ _ _ _ odd.0 _ (λ n. (n + c.args.more) % 2 ^ 64) odd.1)
