-- The tags that an actor looks up for its entries.
use Rattle.std.proofs.Common.{◌≡◌, ℕ, suc, ◌≤◌, List, [], ◌∷◌, ◌++◌, length, Option, Some, None, sym, ap, ◌∙◌, arith}
use Rattle.std.specs.List.{cons_option}
use Rattle.std.proofs.lemmas.List.{append-nil}
use Rattle.std.proofs.lemmas.List.Elements.{filter_map-append}
use Rattle.wedge_events.specs.declared.events.LogEntry.{LogEntry}
use Rattle.thread_laws.specs.LookUps.{tag_looked_up, tags_looked_up}

-- those of one entry more
pub tags_more : (es : List LogEntry) (e : LogEntry) (o : Option ℕ) → o ≡ tag_looked_up e.event → tags_looked_up es ++ cons_option o [] ≡ tags_looked_up (es ++ e ∷ [])
tags_more es e o is =
    ap (λ p. tags_looked_up es ++ cons_option p []) is
    ∙ sym (filter_map-append (λ (x : LogEntry). tag_looked_up x.event) es (e ∷ []))

pub tags_as_before : (es : List LogEntry) (e : LogEntry) → None ≡ tag_looked_up e.event → tags_looked_up es ≡ tags_looked_up (es ++ e ∷ [])
tags_as_before es e is = sym (append-nil (tags_looked_up es)) ∙ tags_more es e None is

few_with : (o : Option ℕ) (ts : List ℕ) (n : ℕ) → length ts ≤ n → length (cons_option o ts) ≤ suc n
few_with None ts n h = omega arith
few_with (Some t) ts n h = omega arith

-- they are no more than the entries
pub tags_few : (es : List LogEntry) → length (tags_looked_up es) ≤ length es
tags_few [] = omega arith
tags_few (e ∷ es) = few_with (tag_looked_up e.event) (tags_looked_up es) (length es) (tags_few es)
