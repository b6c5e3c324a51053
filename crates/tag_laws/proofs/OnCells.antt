-- The entries on a cell are those that pass a test, so they follow permutations.
use Rattle.std.proofs.Common.{◌≡◌, Bool, List, [], ◌∷◌, ◌++◌, filter, IsPermutation, refl, sym, ap, subst, ◌∙◌}
use Rattle.std.specs.Prelude.{if◌then◌else◌}
use Rattle.std.proofs.lemmas.List.Elements.{filter-append}
use Rattle.wedge_events.specs.declared.events.CellName.{CellName}
use Rattle.wedge_events.specs.declared.events.LogEntry.{LogEntry}
use Rattle.thread_laws.specs.Histories.{is_of, entries_on}
use Rattle.tag_laws.proofs.Permutations.{filter-IsPermutation}

module _ (name : CellName) where
  abbrev pub is_entry_on : LogEntry → Bool
  is_entry_on e = is_of name e.event

  pub entries_by_test : (es : List LogEntry) → entries_on name es ≡ filter is_entry_on es
  entries_by_test [] = refl
  entries_by_test (e ∷ es) = ap (λ l. if is_of name e.event then e ∷ l else l) (entries_by_test es)

  pub entries_on-append : (es fs : List LogEntry) → entries_on name (es ++ fs) ≡ entries_on name es ++ entries_on name fs
  entries_on-append es fs = entries_by_test (es ++ fs) ∙ (filter-append is_entry_on es fs ∙ (λ i. sym (entries_by_test es) i ++ sym (entries_by_test fs) i))

  pub entries_on-IsPermutation : (es fs : List LogEntry) → IsPermutation es fs → IsPermutation (entries_on name es) (entries_on name fs)
  entries_on-IsPermutation es fs p =
      subst (λ l. IsPermutation l (entries_on name fs)) (sym (entries_by_test es))
      (subst (IsPermutation (filter is_entry_on es)) (sym (entries_by_test fs)) (filter-IsPermutation is_entry_on es fs p))
