use Rattle.std.proofs.Common.{◌≡◌, ◌∙◌, ◌∷◌, [], List, ap, sym, subst, refl, rules}
use Rattle.wedge_events.specs.declared.events.LogEntry.{LogEntry}
use Rattle.wedge_events.specs.Journals.{turns_of}
use Rattle.machine.specs.Actors.{root}
use Rattle.machine.specs.Cells.{opening_cells}
use Rattle.run_laws.specs.FamilyTrees.{Family}
use Rattle.run_laws.proofs.FamilyRuns.{opening_family}
use Rattle.world_turns.specs.Progress.{IsStampedByIndex}
use Rattle.world_turns.proofs.Runs.{opened_is_run}
use Rattle.world_turns.proofs.world.open_world.Goals as goal

none : (es : List LogEntry) → es ≡ [] → IsStampedByIndex es
none es e = subst IsStampedByIndex (sym e) refl

pub invariant_of-result : goal.invariant_of-result
invariant_of-result c =
    let same = sym c.in_ok-program.ensures in
    let actors : c.in_ok-residents.residents ≡ root c.args.image.now ∷ [] = search rules in
    record {
      numbered = none c.new-3.result.items c.new-3.ensures.items;
      run = opened_is_run c.in_ok-program.program c.in_ok-cells.cells c.in_ok-residents.residents (turns_of c.new-3.result.items)
          (c.in_ok-cells.ensures ∙ ap opening_cells same) (actors ∙ ap (λ i. root i ∷ []) same) (ap turns_of c.new-3.ensures.items);
      family = λ going. subst Family (sym actors) (opening_family c.args.image.now);
    }
