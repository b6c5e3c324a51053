-- The entries that are compared, put in order, are those of the journal.
use Rattle.std.proofs.Common.{◌≡◌, ℕ, Bool, true, false, true≢false, cond, not, List, [], ◌∷◌, refl, ap, sym, ◌∙◌}
use Rattle.std.specs.Prelude.{None}
use Rattle.std.specs.List.{filter}
use Rattle.std.specs.Cmp.{IsStrictWeakOrder}
use Rattle.stable_sort.specs.Sorting.{insert_sorted, sorted_onto, sorted}
use Rattle.stable_sort.proofs.Sorted.{IsLow, Rises, rises_onto, is_sorted}
use Rattle.wedge_events.specs.declared.events.Event.{Event}
use Rattle.wedge_events.specs.declared.events.Event.TheVariants as event
use Rattle.wedge_events.specs.declared.events.LogEntry.{LogEntry}
use Rattle.thread_laws.specs.Executions.{name_begun, with_named, names_begun}
use Rattle.thread_laws.specs.Joining.{all_logged, journal_of}
use Rattle.thread_laws.specs.Sorting.{comes_before, in_order}
use Rattle.thread_laws.specs.declared.gathered.ActorLog.{ActorLog}
use Rattle.thread_laws.specs.KeptEntries.{is_on_declared, entries_elsewhere, all_kept}
use Rattle.tag_laws.proofs.SlotHistories.{journal_order}
use Rattle.run_audit.specs.ComparedCells.{KeepCompared}
use Rattle.run_audit.specs.IndexedEntries.{IndexedEntry, indexed, entries_without_index, indexed_before, indexed_ordered, compared_indexed, AreInOrder, indexed_journal}
use Rattle.run_audit.proofs.IndexedEntries.{journal_entries}

-- ---- a stable sort of what is kept is what is kept of the sorted list

module _ {X : Type 0} (lt : X → X → Bool) (o : IsStrictWeakOrder lt) (keep : X → Bool) where
  low_kept : (x : X) (ys : List X) → IsLow lt o x ys → IsLow lt o x (filter keep ys)
  low_kept x [] low = tt
  low_kept x (y ∷ ys) low = by_test (keep y) (low_kept x ys low.1)
    where
      by_test : (b : Bool) → IsLow lt o x (filter keep ys) → IsLow lt o x (cond b (y ∷ filter keep ys) (filter keep ys))
      by_test true r = (low.0, r)
      by_test false r = r

  not_less : (x : X) (b : Bool) → lt x x ≡ b → lt x x ≡ false
  not_less x true e = o.one_way x x e
  not_less x false e = e

  -- what comes before something that nothing in a list is less than comes before the list
  put_first : (x y : X) (zs : List X) → lt x y ≡ true → IsLow lt o y zs → insert_sorted lt x zs ≡ x ∷ zs
  put_first x y [] less low = refl
  put_first x y (w ∷ ws) less low = ap (λ b. cond b (x ∷ w ∷ ws) (w ∷ insert_sorted lt x ws)) (before (lt x w) refl)
    where
      before : (b : Bool) → lt x w ≡ b → lt x w ≡ true
      before true e = e
      before false e = absurd (true≢false (sym less ∙ o.chain x w y e low.0))

  put_out : (x : X) → keep x ≡ false → (ys : List X) → filter keep (insert_sorted lt x ys) ≡ filter keep ys
  put_out x out [] = ap (λ b. cond b (x ∷ []) []) out
  put_out x out (y ∷ ys) = by_first (lt x y) (put_out x out ys)
    where
      by_first : (b : Bool) → filter keep (insert_sorted lt x ys) ≡ filter keep ys → filter keep (cond b (x ∷ y ∷ ys) (y ∷ insert_sorted lt x ys)) ≡ filter keep (y ∷ ys)
      by_first true r = ap (λ c. cond c (x ∷ filter keep (y ∷ ys)) (filter keep (y ∷ ys))) out
      by_first false r = ap (λ zs. cond (keep y) (y ∷ zs) zs) r

  put_in : (x : X) → keep x ≡ true → (ys : List X) → Rises lt o ys → filter keep (insert_sorted lt x ys) ≡ insert_sorted lt x (filter keep ys)
  put_in x in_ [] u = ap (λ b. cond b (x ∷ []) []) in_
  put_in x in_ (y ∷ ys) u = by_first (lt x y) refl (put_in x in_ ys u.1)
    where
      by_kept : (c : Bool) → lt x y ≡ false → filter keep (insert_sorted lt x ys) ≡ insert_sorted lt x (filter keep ys)
          → cond c (y ∷ filter keep (insert_sorted lt x ys)) (filter keep (insert_sorted lt x ys)) ≡ insert_sorted lt x (cond c (y ∷ filter keep ys) (filter keep ys))
      by_kept true after r = ap (λ zs. y ∷ zs) r ∙ sym (ap (λ b. cond b (x ∷ y ∷ filter keep ys) (y ∷ insert_sorted lt x (filter keep ys))) after)
      by_kept false after r = r

      by_first : (b : Bool) → lt x y ≡ b → filter keep (insert_sorted lt x ys) ≡ insert_sorted lt x (filter keep ys)
          → filter keep (cond b (x ∷ y ∷ ys) (y ∷ insert_sorted lt x ys)) ≡ insert_sorted lt x (filter keep (y ∷ ys))
      by_first true less r =
          ap (λ c. cond c (x ∷ filter keep (y ∷ ys)) (filter keep (y ∷ ys))) in_
          ∙ sym (put_first x y (filter keep (y ∷ ys)) less (low_kept y (y ∷ ys) (not_less y (lt y y) refl, u.0)))
      by_first false after r = by_kept (keep y) after r

  kept_onto : (done xs : List X) → Rises lt o done → filter keep (sorted_onto lt done xs) ≡ sorted_onto lt (filter keep done) (filter keep xs)
  kept_onto done [] u = refl
  kept_onto done (x ∷ xs) u = kept_onto (insert_sorted lt x done) xs (rises_onto lt o done (x ∷ []) u) ∙ by_kept (keep x) refl
    where
      by_kept : (b : Bool) → keep x ≡ b → sorted_onto lt (filter keep (insert_sorted lt x done)) (filter keep xs) ≡ sorted_onto lt (filter keep done) (cond b (x ∷ filter keep xs) (filter keep xs))
      by_kept true in_ = ap (λ ds. sorted_onto lt ds (filter keep xs)) (put_in x in_ done u)
      by_kept false out = ap (λ ds. sorted_onto lt ds (filter keep xs)) (put_out x out done)

  kept_sorted : (xs : List X) → filter keep (sorted lt xs) ≡ sorted lt (filter keep xs)
  kept_sorted xs = kept_onto [] xs tt

-- ---- so of entries with their indices

without_index : (n : ℕ) (xs : List IndexedEntry) → entries_without_index (compared_indexed n xs) ≡ entries_elsewhere n (entries_without_index xs)
without_index n [] = refl
without_index n (x ∷ xs) = by_test (is_on_declared n x.entry.event) (without_index n xs)
  where
    by_test : (b : Bool) → entries_without_index (compared_indexed n xs) ≡ entries_elsewhere n (entries_without_index xs)
        → entries_without_index (cond (not b) (x ∷ compared_indexed n xs) (compared_indexed n xs)) ≡ cond (not b) (x.entry ∷ entries_elsewhere n (entries_without_index xs)) (entries_elsewhere n (entries_without_index xs))
    by_test true r = r
    by_test false r = ap (λ es. x.entry ∷ es) r

-- what is compared of the entries that logs keep is what is compared of all, if they keep that
in_order_compared : (n : ℕ) (logs : List ActorLog) → KeepCompared n logs → entries_elsewhere n (in_order (all_kept logs)) ≡ entries_elsewhere n (journal_of logs)
in_order_compared n logs same =
    let keep = λ (e : LogEntry). not (is_on_declared n e.event) in
    kept_sorted comes_before journal_order keep (all_kept logs) ∙ (ap in_order same ∙ sym (kept_sorted comes_before journal_order keep (all_logged logs)))

pub order_compared : (n : ℕ) (logs : List ActorLog) (xs : List IndexedEntry) → KeepCompared n logs → AreInOrder n 0 (all_kept logs) xs → entries_without_index xs ≡ entries_elsewhere n (journal_of logs)
order_compared n logs xs same h =
    let all = indexed 0 (all_kept logs) in
    let is : xs ≡ compared_indexed n (indexed_journal logs) =
    is_sorted indexed_before indexed_ordered (compared_indexed n all) xs h.sorted_ h.stable
    ∙ sym (kept_sorted indexed_before indexed_ordered (λ (x : IndexedEntry). not (is_on_declared n x.entry.event)) all) in
    ap entries_without_index is ∙ (without_index n (indexed_journal logs) ∙ (ap (entries_elsewhere n) (journal_entries logs) ∙ in_order_compared n logs same))

-- ---- no actor is created on a slot

none_begun : (n : ℕ) (e : Event) → is_on_declared n e ≡ true → name_begun e ≡ None
none_begun n (event.Slot slot q r) h = refl
none_begun n e h = absurd cc

pub names_compared : (n : ℕ) (es : List LogEntry) → names_begun (entries_elsewhere n es) ≡ names_begun es
names_compared n [] = refl
names_compared n (e ∷ es) = by_test (is_on_declared n e.event) refl (names_compared n es)
  where
    by_test : (b : Bool) → is_on_declared n e.event ≡ b → names_begun (entries_elsewhere n es) ≡ names_begun es
        → names_begun (cond (not b) (e ∷ entries_elsewhere n es) (entries_elsewhere n es)) ≡ with_named (name_begun e.event) (names_begun es)
    by_test false is r = ap (with_named (name_begun e.event)) r
    by_test true is r = r ∙ sym (ap (λ o. with_named o (names_begun es)) (none_begun n e.event is))
