use Rattle.std.proofs.Common.{rules, ◌≡◌, ◌++◌, ◌∷◌, [], length, refl, sym, ap, subst, ◌∙◌}
use Rattle.std.proofs.lemmas.List.{append-nil}
use Rattle.std.specs.Prelude.{Some}
use Rattle.std.specs.Vec.Iter.{into_iter_items}
use Rattle.thread_laws.specs.ActorProgresses.{CreatedActor, IsProgress, nobody, another, learns}
use Rattle.actor_task.proofs.CreatedLists.{append_step, none_there, there_last, set_last}
use Rattle.thread_laws.specs.Joining.{all_logged}
use Rattle.tag_laws.specs.DeclaredTags.{entries_on_declared}
use Rattle.run_cells.specs.TagPasses.{all_entered}
use Rattle.run_cells.proofs.OnDeclared.{all_entered_append, family_more}
use Rattle.actor_ends.proofs.finishing.gather.Goals as goal

pub loop-one-init : goal.loop-one-init
loop-one-init g c =
    let passes : c.push.new.self.items ≡ c.args.pass ∷ [] = search rules in
    let none : c.new.result.items ≡ [] = search rules in ([], nobody [] _ refl (search rules), λ r h. subst (IsProgress g.I.RunOf.image r) (search rules) h.progress, search rules, ap all_entered passes ∙ ap (λ gs. c.args.pass ++ entries_on_declared g.T.TableOf.table.slots (all_logged gs)) (sym none), search rules)

pub loop-one-preserved : goal.loop-one-preserved
loop-one-preserved g c =
    let d = c.loop-one.invariant in
    let one = c.in-Some.one in
    let f = c.in_ok-into_returned.field-0 in
    let h = c.in_ok-into_returned.ensures in
    let fam = h.returned.family in
    let k : CreatedActor = record one { learned = Some f.end } in
    let rest = into_iter_items c.next.new.self in
    let step : into_iter_items c.loop-one.one-iterator ≡ one ∷ rest = search rules in (
      d.0 ++ k ∷ [],
      another d.0 _ c.loop-one.all.others.items _ k fam.way fam.its f.log f.others.items f.end d.1 fam.progress fam.left fam.others_ refl c.in_ok-add.ensures.others,
      λ r task. learns r (d.0 ++ one ∷ rest) _ (length d.0) one f.end (subst (λ xs. IsProgress g.I.RunOf.image r (d.0 ++ xs)) step (d.2 r task)) (there_last d.0 one rest) h.fits.was h.fits.fuel_
          (append_step d.0 k rest ∙ sym (set_last d.0 one k rest)),
      c.in_ok-add.ensures.legal,
      family_more g.T.TableOf.table.slots c.args.pass (all_entered c.loop-one.all.passes.items) (all_entered f.passes.items) _ c.loop-one.all.others.items (f.log ∷ f.others.items) d.4 h.returned.entered
          (ap all_entered c.in_ok-add.ensures.passes ∙ all_entered_append c.loop-one.all.passes.items f.passes.items) ∙ ap (λ gs. c.args.pass ++ entries_on_declared g.T.TableOf.table.slots (all_logged gs)) (sym c.in_ok-add.ensures.others),
      search rules,
    )

pub returns-clause-families : goal.returns-clause-families
returns-clause-families g c = λ r task.
    let d = c.loop-one.invariant in
    let none : into_iter_items c.loop-one.one-iterator ≡ [] = none_there (into_iter_items c.loop-one.one-iterator) (sym d.5 ∙ c.in-None.ensures.steps.0) in
    record { its = d.0; progress = subst (IsProgress g.I.RunOf.image r) (ap (λ xs. d.0 ++ xs) none ∙ append-nil d.0) (d.2 r task); families = d.1 }

pub returns-clause-passes : goal.returns-clause-passes
returns-clause-passes g c = c.loop-one.invariant.4
