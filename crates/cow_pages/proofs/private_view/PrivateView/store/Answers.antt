use Rattle.std.proofs.Common.{◌∙◌, ap, length}
use Rattle.wedge_base.specs.declared.image.MemoryRange.{MemoryRange}
use Rattle.cow_pages.proofs.BelowWindows.{set_below}
use Rattle.cow_pages.proofs.private_view.PrivateView.store.Goals as goal

pub invariant_of-self-in-Some : goal.invariant_of-self-in-Some
invariant_of-self-in-Some c =
    let ranges = c.self.inside.ranges.items in
    let there = c.index_mut.ensures.value in (
      set_below ranges c.in-Some.i c.store.new.self c.index_mut.result.now c.self.invariant.0
          (c.store.ensures.base ∙ ap (λ (r : MemoryRange). r.base) there)
          (c.store.ensures.len ∙ ap (λ (r : MemoryRange). length r.bytes) there),
      c.self.invariant.1,
    )
