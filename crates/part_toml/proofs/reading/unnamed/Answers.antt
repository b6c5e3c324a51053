use Rattle.std.proofs.Common.{◌≡◌, List, [], ◌∷◌, ◌++◌, length, map, sym, ap, ◌∙◌, append_assoc, append-nil, arith}
use Rattle.std.specs.Vec.Iter.{into_iter_items}
use Rattle.wedge_base.specs.declared.image.MemoryRange.{MemoryRange}
use Rattle.part_toml.specs.declared.entries.NamedRange.{NamedRange}
use Rattle.part_toml.proofs.Lists.{nothing_left}
use Rattle.part_toml.proofs.reading.unnamed.Goals as goal

taken : (done new : List MemoryRange) (n : NamedRange) (left more : List NamedRange) → new ≡ done ++ n.range ∷ [] → left ≡ n ∷ more → new ++ map (λ x. x.range) more ≡ done ++ map (λ x. x.range) left
taken done new n left more pushed steps =
    ap (λ rs. rs ++ map (λ x. x.range) more) pushed
    ∙ append_assoc done (n.range ∷ []) (map (λ x. x.range) more)
    ∙ ap (λ ns. done ++ map (λ x. x.range) ns) (sym steps)

pub loop-range-preserved : goal.loop-range-preserved
loop-range-preserved c =
    let steps = c.in-Some.ensures.steps in
    let short = ap length steps.0 in
    let gone = steps.1 in
    let was = c.loop-range.invariant.counted in
    record {
      so_far = taken c.loop-range.ranges c.push.new.self c.in-Some.field-0 _ _ c.in_ok-push.ensures.ok steps.0 ∙ c.loop-range.invariant.so_far;
      counted = omega arith;
    }

pub returns : goal.returns
returns c =
    let none = nothing_left (into_iter_items c.loop-range.range-iterator) (sym c.loop-range.invariant.counted ∙ c.in-None.ensures.steps.0) in
    sym (ap (λ ns. c.loop-range.ranges ++ map (λ x. x.range) ns) none ∙ append-nil c.loop-range.ranges)
    ∙ c.loop-range.invariant.so_far
    ∙ ap (map (λ x. x.range)) c.into_iter-range-iterator.ensures.into_iter_gives.0
