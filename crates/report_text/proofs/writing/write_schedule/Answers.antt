use Rattle.std.proofs.Common.{◌≡◌, ℕ, ◌+◌, ◌^◌, ◌<◌, List, [], ◌∷◌, ◌++◌, take, get_or, ap, sym, ◌∙◌, subst, arith}
use Rattle.std.proofs.lemmas.Grind.{common_steps}
use Rattle.std.proofs.lemmas.List.{map_more}
use Rattle.report_text.specs.Schedules.{actors_of}
use Rattle.report_text.proofs.Readings.{IsName, AreNames, are_names_push, schedule_again}
use Rattle.report_text.proofs.writing.write_schedule.Goals as goal

pub loop-entry-preserved : goal.loop-entry-preserved
loop-entry-preserved c =
    let entries = c.as_slice-entry-items.result.now in
    let i = c.loop-entry.entry-index in
    let entry = c.entry-item.result in
    let is : IsName entry.actor = record {
      form = c.parts.ensures.named;
      small = subst (λ (parts : List ℕ). (k : ℕ) → get_or parts k 0 < 2 ^ 32) c.parts.ensures.is c.write_line.ensures.small;
    } in
    let more : actors_of (take (i + 1) entries) ≡ actors_of (take i entries) ++ entry.actor ∷ [] =
    map_more (λ e. e.actor) entries i entry (omega arith) ∙ ap (λ e. actors_of (take i entries) ++ e.actor ∷ []) (sym c.entry-item.is) in
    record {
      text = grind (arith, common_steps);
      named = subst AreNames (sym more) (are_names_push (actors_of (take i entries)) entry.actor c.loop-entry.invariant.named is);
    }

pub returns-clause-again : goal.returns-clause-again
returns-clause-again c = grind (arith, common_steps, schedule_again (actors_of (take c.loop-entry.entry-index c.as_slice-entry-items.result.now)) c.loop-entry.invariant.named)
