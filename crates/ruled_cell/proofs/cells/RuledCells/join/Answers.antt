use Rattle.std.proofs.Common.{rules, sym, ap, ◌∙◌}
use Rattle.ruled_cell.specs.declared.passes.PassOrigin.TheVariants.{SplitFrom}
use Rattle.ruled_cell.proofs.PassSteps.{joins}
use Rattle.ruled_cell.proofs.cells.RuledCells.join.Goals as goal

pub join_seat-requires : goal.join_seat-requires
join_seat-requires g c = let p = c.pass.invariant.1 in let o = c.other.invariant in (
  search rules,
  search rules,
  o.0,
  search rules,
  joins _ _ _ _ _ _ _ p.2 p.1 o.1.2 o.1.1
      (ap (λ s. s.view.unjoined) c.other.view_is ∙ c.requires.all_joined) o.1.0
      (ap (λ s. s.view.origin) c.other.view_is ∙ (c.requires.child ∙ ap (λ s. SplitFrom s.view.number) (sym c.pass.view_is))),
)
