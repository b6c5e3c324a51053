use Rattle.std.proofs.Common.{rules, ◌≡◌, ◌++◌, ◌∷◌, [], sym, ap, ◌∙◌}
use Rattle.std.proofs.lemmas.List.{append-nil, append_assoc}
use Rattle.std.specs.Vec.Iter.{into_iter_items}
use Rattle.atomic_table.specs.Seated.{TableId}
use Rattle.tag_laws.specs.DeclaredTags.{entries_by}
use Rattle.run_cells.specs.TagPasses.{SlotPass, all_entered}
use Rattle.run_cells.proofs.TagPasses.{joined_entries, closed_so, none_there}
use Rattle.run_cells.proofs.tag_cells.TagCells.close.Goals as goal

pub loop-one-preserved : goal.loop-one-preserved
loop-one-preserved g c =
    let kept = c.loop-one.invariant in
    let own = entries_by c.loop-one.pass.view.own in
    let rest = into_iter_items c.next.new.self in
    let step : into_iter_items c.loop-one.one-iterator ≡ c.in-Some.one ∷ rest = search rules in
    let joined = joined_entries c.loop-one.pass c.one.inside.pass c.join.new.pass c.join.ensures in (
      ap (λ (x : SlotPass). x.table) c.join.ensures ∙ kept.0,
      ap (λ (x : SlotPass). x.view.origin) c.join.ensures ∙ kept.1,
      ap (λ (x : SlotPass). x.view.number) c.join.ensures ∙ kept.2,
      kept.3 ∙ (ap (λ xs. own ++ all_entered xs) step ∙ (sym (append_assoc own c.in-Some.one (all_entered rest)) ∙ ap (λ zs. zs ++ all_entered rest) (ap (λ zs. own ++ zs) (sym c.one.view_is) ∙ sym joined))),
      search rules,
    )

pub returns : goal.returns
returns g c =
    let kept = c.loop-one.invariant in
    let own = entries_by c.loop-one.pass.view.own in
    let none : into_iter_items c.loop-one.one-iterator ≡ [] = none_there (into_iter_items c.loop-one.one-iterator) (sym kept.4 ∙ c.in-None.ensures.steps.0) in
    closed_so g.T.TableOf.table.slots (all_entered c.args.passes.items) c.close.result.items c.loop-one.pass.view c.close.ensures.closes
    (c.close.ensures.count ∙ ap (λ (t : TableId). t.slots) c.args.self.of_run)
    (sym (kept.3 ∙ (ap (λ xs. own ++ all_entered xs) none ∙ append-nil own)))
