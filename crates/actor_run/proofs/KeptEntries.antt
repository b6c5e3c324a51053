-- What a log keeps of one entry more.
use Rattle.std.proofs.Common.{◌≡◌, ℕ, ◌+◌, List, [], ◌∷◌, ◌++◌, length, not, sym, ap, ◌∙◌, arith}
use Rattle.std.proofs.lemmas.List.{length-append}
use Rattle.std.proofs.lemmas.List.Elements.{filter-append}
use Rattle.wedge_events.specs.declared.events.LogEntry.{LogEntry}
use Rattle.thread_laws.specs.KeptEntries.{is_on_declared, entries_elsewhere}
use Rattle.actor_run.specs.Runs.{KeepsEntries}

elsewhere_more : (n : ℕ) (es : List LogEntry) (e : LogEntry) → entries_elsewhere n (es ++ e ∷ []) ≡ entries_elsewhere n es ++ entries_elsewhere n (e ∷ [])
elsewhere_more n es e = filter-append (λ (x : LogEntry). not (is_on_declared n x.event)) es (e ∷ [])

pub keeps_more : (n unkept : ℕ) (all kept more room : List LogEntry) (new : List LogEntry) (count next : ℕ) (e : LogEntry) → unkept ≡ n → KeepsEntries n all kept count → room ≡ kept → more ≡ all ++ e ∷ []
    → new ≡ room ++ entries_elsewhere unkept (e ∷ []) → next ≡ count + 1 → KeepsEntries n more new next
keeps_more n unkept all kept more room new count next e of_run k same added kept_ counted =
    let one = length-append all (e ∷ []) in
    let before = k.count_ in
    record {
      kept_ = kept_ ∙ ((λ i. (same ∙ k.kept_) i ++ entries_elsewhere (of_run i) (e ∷ [])) ∙ (sym (elsewhere_more n all e) ∙ ap (entries_elsewhere n) (sym added)));
      count_ = counted ∙ ((omega (arith, one, before)) ∙ ap length (sym added));
    }
