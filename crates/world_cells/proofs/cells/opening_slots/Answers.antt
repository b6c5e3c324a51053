use Rattle.std.proofs.Common.{◌≡◌, ◌∙◌, ◌<◌, ◌≤◌, ◌+◌, ◌-◌, ◌++◌, ◌∷◌, [], length, ap, sym, rules, arith}
use Rattle.std.specs.Prelude.{None}
use Rattle.wedge_base.specs.Images.{slots as most_slots}
use Rattle.wedge_events.specs.Slots.{declared_slots}
use Rattle.machine.specs.Cells.{nothings}
use Rattle.world_cells.proofs.CellIndices.{nothings_push, nothings_none, declared_count}
use Rattle.world_cells.proofs.cells.opening_slots.Goals as goal

pub loop-alloc-init : goal.loop-alloc-init
loop-alloc-init c =
    let xs = c.in_ok-slots.slots.items in
    let tags = c.args.tags.now in
    let are : xs ≡ declared_slots 0 tags = search rules in
    let len : length xs ≡ length tags = ap length are ∙ declared_count 0 tags in
    record {
      few = omega (arith, len, c.requires.few);
      are = ap (λ ys. ys ++ nothings (most_slots - length xs)) are ∙ ap (λ k. declared_slots 0 tags ++ nothings (most_slots - k)) len;
    }

pub loop-alloc-preserved : goal.loop-alloc-preserved
loop-alloc-preserved c =
    let xs = c.loop-alloc.slots.items in
    let new = c.push.new.self.items in
    let lt : length xs < most_slots = search rules in
    let pushed : new ≡ xs ++ None ∷ [] = search rules in
    let len : length new ≡ length xs + 1 = search rules in
    record {
      few = omega (arith, lt, len);
      are = ap (λ ys. ys ++ nothings (most_slots - length new)) pushed ∙ ap (λ k. (xs ++ None ∷ []) ++ nothings (most_slots - k)) len ∙ nothings_push xs most_slots lt ∙ c.loop-alloc.invariant.are;
    }

pub returns-clause-is : goal.returns-clause-is
returns-clause-is c =
    let ge : most_slots ≤ length c.loop-alloc.slots.items = search rules in
    sym (nothings_none c.loop-alloc.slots.items most_slots ge) ∙ c.loop-alloc.invariant.are
