use Rattle.std.proofs.Common.{rules, ◌≡◌, ◌++◌, sym, ap, subst, ◌∙◌}
use Rattle.std.specs.Prelude.{All, length}
use Rattle.std.proofs.lemmas.List.Elements.{All-append}
use Rattle.thread_laws.specs.Replaying.{IsLegalHistory, slot_histories}
use Rattle.run_cells.specs.TagPasses.{all_entered, histories_in}
use Rattle.run_cells.proofs.Kept.{all_are_kept}
use Rattle.run_cells.proofs.TagPasses.{closed_named, closed_ruled, histories_length}
use Rattle.run_cells.proofs.opening.RunCells.into_gathered.Goals as goal

pub tag_histories-requires-clause-named : goal.tag_histories-requires-clause-named
tag_histories-requires-clause-named g c = closed_named g.T.TableOf.table.slots (all_entered c.args.passes.items) c.in_ok-close.field-0.items c.in_ok-close.ensures

pub returns-clause-count : goal.returns-clause-count
returns-clause-count g c =
    let is : c.new.result ≡ histories_in c.in_ok-close.field-0.items = search rules in
    ap length is ∙ (histories_length c.in_ok-close.field-0.items ∙ c.in_ok-close.ensures.count_)

pub returns-clause-kept : goal.returns-clause-kept
returns-clause-kept g c =
    let i = g.I.RunOf.image in
    let first : c.new.result ≡ c.in_ok-tag_histories.field-0.items = search rules in
    let declared = subst (λ ess. All (IsLegalHistory i) (slot_histories 0 ess)) (sym first) c.in_ok-tag_histories.ensures.kept in
    let others = subst (All (IsLegalHistory i)) (sym c.new-2.ensures) c.in_ok-add_lives.ensures.legal in
    all_are_kept i (slot_histories 0 c.new.result ++ c.new-2.result) (All-append (IsLegalHistory i) (slot_histories 0 c.new.result) c.new-2.result declared others)

pub returns-clause-ruled : goal.returns-clause-ruled
returns-clause-ruled g c =
    let is : c.new.result ≡ histories_in c.in_ok-close.field-0.items = search rules in
    closed_ruled g.T.TableOf.table.slots (all_entered c.args.passes.items) c.in_ok-close.field-0.items c.new-2.result (slot_histories 0 c.new.result ++ c.new-2.result) c.in_ok-close.ensures
    (ap (λ ess. slot_histories 0 ess ++ c.new-2.result) is)
