use Rattle.std.proofs.Common.{rules, arith, sym, ap, subst, ◌≡◌, ◌≤◌, ◌∙◌, ◌++◌, ◌∷◌, [], length, get_or, false, ◌<◌, get_or-set_other}
use lib.ListN.{get_elem?}
use Rattle.std.specs.Mem.Slots.{slots_items, slots_filled, slots_len, slots_counts}
use Rattle.ruled_cell.specs.Passes.{IsClosing}
use Rattle.ruled_cell.proofs.Lists.{take_next, take_whole, clears}
use Rattle.ruled_cell.proofs.PassSteps.{ends}
use Rattle.ruled_cell.proofs.cells.RuledCells.close.Goals as goal

pub loop-i-preserved : goal.loop-i-preserved
loop-i-preserved g c = let i = c.loop-i.i in let inv = c.loop-i.invariant in let xs = slots_items c.close_with-closed.result.slots in let now = c.take.ensures.others in let fs = slots_filled c.loop-i.closed.slots in (
  (λ k a b. ap (λ l. get_or l k false) now.1 ∙ (get_or-set_other fs i k false false (λ z. omega arith) ∙ inv.0 k (omega arith) (subst (λ n. k < n) now.2 b))),
  (λ k a. ap (λ l. get_or l k false) now.1 ∙ clears fs i k inv.1 a),
  now.0 ∙ inv.2,
  now.2 ∙ inv.3,
  (c.push_reserved.ensures.items ∙ (ap (λ l. l ++ c.take.result ∷ []) inv.4 ∙ sym (take_next xs i c.take.result (ap (λ l. get_elem? l i) (sym inv.2) ∙ c.take.ensures.value)))),
  search rules,
)

pub returns-clause-closes : goal.returns-clause-closes
returns-clause-closes g c = let p = c.pass.inside.seat in let idle = c.pass.invariant.1 in let xs = slots_items c.close_with-closed.result.slots in let inv = c.loop-i.invariant in
    let e = ends _ _ _ _ p.me.0 _ xs (ap (λ s. s.view.origin) c.pass.view_is ∙ c.requires.first) idle.1 (ap (λ s. s.view.unjoined) c.pass.view_is ∙ c.requires.all_joined) idle.0 c.close_with-closed.ensures.values.2 in
    let long : slots_len c.close_with-closed.result.slots ≡ length xs = (slots_counts c.close_with-closed.result.slots).0 in
    let past : length xs ≤ c.loop-i.i = search rules in
    subst (λ s. IsClosing c.loop-i.cells.items s.view) c.pass.view_is (subst (λ l. IsClosing l p.me.0) (sym (inv.4 ∙ take_whole xs c.loop-i.i past)) e)
