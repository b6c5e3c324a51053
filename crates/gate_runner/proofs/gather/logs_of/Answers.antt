use Rattle.std.proofs.Common.{rules, ◌≡◌, ◌++◌, ◌∷◌, [], sym, ap, subst, ◌∙◌, append_assoc}
use Rattle.std.proofs.lemmas.List.{append-nil}
use Rattle.std.proofs.lemmas.List.Elements.{All-append}
use Rattle.std.specs.Prelude.{All}
use Rattle.std.specs.Vec.Iter.{into_iter_items}
use Rattle.thread_laws.specs.KeptEntries.{IsKept}
use Rattle.actor_task.proofs.CreatedLists.{none_there}
use Rattle.gate_runner.proofs.gather.logs_of.Goals as goal

pub loop-one-init : goal.loop-one-init
loop-one-init g c =
    let one = c.into_log.ensures.is in
    let none : c.new-logs.result.items ≡ [] = search rules in
    let first : c.push.new.self.items ≡ c.args.log ∷ [] = search (rules, none, one) in
    let all : into_iter_items c.into_iter-one-iterator.result ≡ c.args.others.items = search rules in
    record {
      is = (λ i. first i ++ all i);
      kept = subst (All (IsKept g.I.RunOf.unkept)) (sym first) (search rules);
      len = search rules;
    }

pub loop-one-preserved : goal.loop-one-preserved
loop-one-preserved g c =
    let rest = into_iter_items c.next.new.self in
    let step : into_iter_items c.loop-one.one-iterator ≡ c.in-Some.one ∷ rest = search rules in
    let more : c.push-in-loop-one.new.self.items ≡ c.loop-one.logs.items ++ c.in-Some.one ∷ [] = search rules in
    record {
      is = ap (λ (xs : _). xs ++ rest) more ∙ (append_assoc c.loop-one.logs.items (c.in-Some.one ∷ []) rest ∙ (ap (λ xs. c.loop-one.logs.items ++ xs) (sym step) ∙ c.loop-one.invariant.is));
      kept = subst (All (IsKept g.I.RunOf.unkept)) (sym more) (All-append (IsKept g.I.RunOf.unkept) c.loop-one.logs.items (c.in-Some.one ∷ []) c.loop-one.invariant.kept (search rules));
      len = search rules;
    }

pub returns-clause-is : goal.returns-clause-is
returns-clause-is g c =
    let none : into_iter_items c.loop-one.one-iterator ≡ [] = none_there (into_iter_items c.loop-one.one-iterator) (sym c.loop-one.invariant.len ∙ c.in-None.ensures.steps.0) in
    sym (append-nil c.loop-one.logs.items) ∙ (ap (λ xs. c.loop-one.logs.items ++ xs) (sym none) ∙ c.loop-one.invariant.is)

pub returns-clause-kept : goal.returns-clause-kept
returns-clause-kept g c = c.loop-one.invariant.kept
