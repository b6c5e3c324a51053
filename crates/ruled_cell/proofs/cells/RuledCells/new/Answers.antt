use Rattle.std.proofs.Common.{rules, ap, ℕ, ◌≡◌, ◌+◌, ◌*◌, ◌∙◌, length, get_or, replicate}
use lib.ListN.{length-replicate}
use Rattle.ruled_cell.proofs.Lists.{zeros}
use Rattle.ruled_cell.proofs.PassSteps.{begins}
use Rattle.ruled_cell.proofs.cells.RuledCells.new.Goals as goal

pub new-requires : goal.new-requires
new-requires g c = let n : c.loop.counter ≡ 16 * length c.args.cells.items + 528 = search rules in let zero : ℕ = 0 in let words : c.as_slice.result.now ≡ replicate (16 * length c.args.cells.items + 528) zero = c.as_slice.ensures.value ∙ (c.loop.invariant ∙ ap (λ k. replicate k zero) n) in
    begins _ _ _ _ _ (ap length words ∙ length-replicate (16 * length c.args.cells.items + 528) zero) (λ i. ap (λ l. get_or l i zero) words ∙ zeros (16 * length c.args.cells.items + 528) i) c.requires.initial
