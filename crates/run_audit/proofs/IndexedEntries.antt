-- Entries with their indices, sorted, merged, and taken by their indices.
use Rattle.std.proofs.Common.{◌≡◌, ◌≢◌, ◌⊎◌, inl, inr, ℕ, zero, suc, ◌+◌, ◌-◌, ◌<◌, ◌≤◌, Bool, true, false, cond, not, List, [], ◌∷◌, ◌++◌, length, take, drop, map, get_or, Option, Some, None, refl, ap, sym, subst, ◌∙◌, append-nil, append_assoc, arith}
use Rattle.std.specs.Prelude.{if◌then◌else◌, slice_index_or, slice_set}
use Rattle.std.proofs.lemmas.List.{length-append, length-take-le, get_or-set_other, take_more}
use Rattle.std.proofs.Math.Seq.{get_or-append_seam}
use Rattle.std.specs.List.Sorted.{IsSortedBy, IsStableBy}
use Rattle.std.proofs.lemmas.List.Elements.{filter-append}
use Rattle.stable_sort.specs.Sorting.{insert_sorted, sorted_onto, sorted}
use Rattle.stable_sort.proofs.Sorted.{is_sorted}
use Rattle.wedge_events.specs.declared.events.LogEntry.{LogEntry}
use Rattle.thread_laws.specs.Sorting.{comes_before, in_order}
use Rattle.thread_laws.specs.declared.gathered.ActorLog.{ActorLog}
use Rattle.thread_laws.specs.KeptEntries.{is_on_declared, all_kept}
use Rattle.run_audit.specs.IndexedEntries.{IndexedEntry, indexed, entries_without_index, indices_of, indexed_before, indexed_ordered, compared_indexed, AreInOrder, indexed_journal, with_taken, taken_by}
use Rattle.run_audit.specs.Merges.{merged}
use Rattle.run_audit.proofs.KeptInLogs.{none_declared}
use Rattle.run_audit.proofs.Merges.{merged_sorted, merged_stable, merged_nothing}

pub length_indexed : (n : ℕ) (es : List LogEntry) → length (indexed n es) ≡ length es
length_indexed n [] = refl
length_indexed n (e ∷ es) = ap suc (length_indexed (n + 1) es)

entries_indexed : (n : ℕ) (es : List LogEntry) → entries_without_index (indexed n es) ≡ es
entries_indexed n [] = refl
entries_indexed n (e ∷ es) = ap (λ xs. e ∷ xs) (entries_indexed (n + 1) es)

indexed_append : (n : ℕ) (es fs : List LogEntry) → indexed n (es ++ fs) ≡ indexed n es ++ indexed (n + length es) fs
indexed_append n [] fs = let same : n ≡ n + 0 = omega arith in ap (λ m. indexed m fs) same
indexed_append n (e ∷ es) fs =
    let same : (n + 1) + length es ≡ n + suc (length es) = omega arith in
    let first : IndexedEntry = record { entry = e; index = n } in
    ap (λ xs. first ∷ xs) (indexed_append (n + 1) es fs ∙ ap (λ m. indexed (n + 1) es ++ indexed m fs) same)

kept_parts : (gs : List ActorLog) (m : ℕ) → all_kept (take m gs) ++ all_kept (drop m gs) ≡ all_kept gs
kept_parts gs zero = refl
kept_parts [] (suc m) = refl
kept_parts (g ∷ gs) (suc m) = append_assoc g.kept (all_kept (take m gs)) (all_kept (drop m gs)) ∙ ap (λ es. g.kept ++ es) (kept_parts gs m)

-- ---- one more of a list, kept or not

abbrev item : LogEntry → ℕ → IndexedEntry
item e i = record { entry = e; index = i }

indexed_more : (m : ℕ) (es : List LogEntry) (k : ℕ) (d : LogEntry) → k < length es → indexed m (take (k + 1) es) ≡ indexed m (take k es) ++ item (slice_index_or es k d) (m + k) ∷ []
indexed_more m es k d less =
    let own : length (take k es) ≡ k = length-take-le k es (omega (arith, less)) in
    let next : List IndexedEntry → List IndexedEntry = λ xs. indexed m (take k es) ++ xs in
    ap (indexed m) (take_more es k d less)
    ∙ (indexed_append m (take k es) (slice_index_or es k d ∷ []) ∙ ap (λ i. next (item (slice_index_or es k d) (m + i) ∷ [])) own)

-- whether an entry is compared
abbrev is_compared : ℕ → IndexedEntry → Bool
is_compared n x = not (is_on_declared n x.entry.event)

one_more : (n m : ℕ) (es : List LogEntry) (k : ℕ) (d : LogEntry) → k < length es → (b : Bool) → is_on_declared n (slice_index_or es k d).event ≡ b
    → compared_indexed n (indexed m (take (k + 1) es)) ≡ compared_indexed n (indexed m (take k es)) ++ cond (not b) (record { entry = slice_index_or es k d; index = m + k } ∷ []) []
one_more n m es k d less b is =
    ap (compared_indexed n) (indexed_more m es k d less)
    ∙ (filter-append (is_compared n) (indexed m (take k es)) (record { entry = slice_index_or es k d; index = m + k } ∷ [])
    ∙ ap (λ t. compared_indexed n (indexed m (take k es)) ++ cond (not t) (record { entry = slice_index_or es k d; index = m + k } ∷ []) []) is)

pub compared_more : (n m : ℕ) (es : List LogEntry) (k : ℕ) (d : LogEntry) (i : ℕ) → k < length es → i ≡ m + k → is_on_declared n (slice_index_or es k d).event ≡ false
    → compared_indexed n (indexed m (take (k + 1) es)) ≡ compared_indexed n (indexed m (take k es)) ++ record { entry = slice_index_or es k d; index = i } ∷ []
compared_more n m es k d i less at is =
    one_more n m es k d less false is
    ∙ ap (λ j. compared_indexed n (indexed m (take k es)) ++ item (slice_index_or es k d) j ∷ []) (sym at)

pub compared_over : (n m : ℕ) (es : List LogEntry) (k : ℕ) (d : LogEntry) → k < length es → is_on_declared n (slice_index_or es k d).event ≡ true
    → compared_indexed n (indexed m (take (k + 1) es)) ≡ compared_indexed n (indexed m (take k es))
compared_over n m es k d less is = one_more n m es k d less true is ∙ append-nil (compared_indexed n (indexed m (take k es)))

kept_append : (gs hs : List ActorLog) → all_kept (gs ++ hs) ≡ all_kept gs ++ all_kept hs
kept_append [] hs = refl
kept_append (g ∷ gs) hs = ap (λ es. g.kept ++ es) (kept_append gs hs) ∙ sym (append_assoc g.kept (all_kept gs) (all_kept hs))

pub kept_more : (gs : List ActorLog) (k : ℕ) (d : ActorLog) → k < length gs → length (all_kept (take (k + 1) gs)) ≡ length (all_kept (take k gs)) + length (slice_index_or gs k d).kept
kept_more gs k d less =
    let one = slice_index_or gs k d in
    let whole = ap (λ hs. length (all_kept hs)) (take_more gs k d less) in
    let parts = ap length (kept_append (take k gs) (one ∷ [])) in
    let both = length-append (all_kept (take k gs)) (one.kept ++ []) in
    let last = ap length (append-nil one.kept) in
    omega (arith, whole, parts, both, last)

-- ---- the order of logs

pub order_log : (n m : ℕ) (es slice : List LogEntry) (all new : List IndexedEntry) → slice ≡ es → all ≡ compared_indexed n (indexed m slice) → IsSortedBy indexed_before new → IsStableBy indexed_before all new → AreInOrder n m es new
order_log n m es slice all new a b up stable =
    let whole : all ≡ compared_indexed n (indexed m es) = b ∙ ap (λ zs. compared_indexed n (indexed m zs)) a in
    record {
      sorted_ = up;
      stable = subst (λ zs. IsStableBy indexed_before zs new) whole stable;
    }

pub order_none : (n m : ℕ) (gs : List ActorLog) (xs : List IndexedEntry) → length gs < 1 → xs ≡ [] → AreInOrder n m (all_kept gs) xs
order_none n m [] xs less e = subst (AreInOrder n m []) (sym e) (record { sorted_ = λ k d from below. absurd (omega (arith, below)); stable = λ t. refl })
order_none n m (g ∷ gs) xs less e = absurd (omega (arith, less))

pub order_one : (n m : ℕ) (gs : List ActorLog) (g : ActorLog) (xs : List IndexedEntry) → length gs < 2 → 1 ≤ length gs → g ≡ get_or gs 0 g → AreInOrder n m g.kept xs → AreInOrder n m (all_kept gs) xs
order_one n m [] g xs less more is h = absurd (omega (arith, more))
order_one n m (f ∷ []) g xs less more is h = subst (λ es. AreInOrder n m es xs) (ap (λ (x : ActorLog). x.kept) is ∙ sym (append-nil f.kept)) h
order_one n m (f ∷ (k ∷ gs)) g xs less more is h = absurd (omega (arith, less))

compared_append : (n m : ℕ) (es fs : List LogEntry) → compared_indexed n (indexed m es) ++ compared_indexed n (indexed (m + length es) fs) ≡ compared_indexed n (indexed m (es ++ fs))
compared_append n m es fs = sym (ap (compared_indexed n) (indexed_append m es fs) ∙ filter-append (is_compared n) (indexed m es) (indexed (m + length es) fs))

order_merged : (n m : ℕ) (es fs : List LogEntry) (xs ys : List IndexedEntry) → AreInOrder n m es xs → AreInOrder n (m + length es) fs ys → AreInOrder n m (es ++ fs) (merged indexed_before xs ys)
order_merged n m es fs xs ys h k = record {
  sorted_ = merged_sorted indexed_before indexed_ordered xs ys h.sorted_ k.sorted_;
  stable = subst (λ zs. IsStableBy indexed_before zs (merged indexed_before xs ys)) (compared_append n m es fs)
      (merged_stable indexed_before indexed_ordered (compared_indexed n (indexed m es)) (compared_indexed n (indexed (m + length es) fs)) xs ys h.sorted_ k.sorted_ h.stable k.stable);
}

pub order_both : (n m next : ℕ) (gs half others : List ActorLog) (c : ℕ) (xs ys vs ws zs : List IndexedEntry) → half ≡ take c gs → others ≡ drop c gs → AreInOrder n m (all_kept half) xs → next ≡ m + length (all_kept half) → AreInOrder n next (all_kept others) ys → vs ≡ xs → ws ≡ ys → zs ≡ merged indexed_before vs ws → AreInOrder n m (all_kept gs) zs
order_both n m next gs half others c xs ys vs ws zs a b h from k first second out =
    let both : all_kept half ++ all_kept others ≡ all_kept gs = (λ i. all_kept (a i) ++ all_kept (b i)) ∙ kept_parts gs c in
    let is : zs ≡ merged indexed_before xs ys = out ∙ (λ i. merged indexed_before (first i) (second i)) in
    subst (AreInOrder n m (all_kept gs)) (sym is) (subst (λ es. AreInOrder n m es (merged indexed_before xs ys)) both (order_merged n m (all_kept half) (all_kept others) xs ys h (subst (λ p. AreInOrder n p (all_kept others) ys) from k)))

-- where nothing is left out, they are all that is kept
none_out : (x : IndexedEntry) → is_compared 0 x ≡ true
none_out x = ap not (none_declared x.entry.event)

all_compared : (xs : List IndexedEntry) → compared_indexed 0 xs ≡ xs
all_compared [] = refl
all_compared (x ∷ xs) = ap (λ b. cond b (x ∷ compared_indexed 0 xs) (compared_indexed 0 xs)) (none_out x) ∙ ap (λ ys. x ∷ ys) (all_compared xs)

pub order_journal : (logs : List ActorLog) (xs : List IndexedEntry) → AreInOrder 0 0 (all_kept logs) xs → xs ≡ indexed_journal logs
order_journal logs xs h = is_sorted indexed_before indexed_ordered (indexed 0 (all_kept logs)) xs h.sorted_ (subst (λ zs. IsStableBy indexed_before zs xs) (all_compared (indexed 0 (all_kept logs))) h.stable)

dropped_none : (n : ℕ) (xs : List IndexedEntry) → length xs ≤ n → drop n xs ≡ []
dropped_none zero [] h = refl
dropped_none (suc n) [] h = refl
dropped_none zero (x ∷ xs) h = absurd (omega (arith, h))
dropped_none (suc n) (x ∷ xs) h = dropped_none n xs (omega (arith, h))

ended : (us vs : List IndexedEntry) → (us ≡ []) ⊎ (vs ≡ []) → us ++ vs ≡ merged indexed_before us vs
ended us vs (inl e) = ap (λ zs. zs ++ vs) e ∙ ap (λ zs. merged indexed_before zs vs) (sym e)
ended us vs (inr e) = ap (λ zs. us ++ zs) e ∙ (append-nil us ∙ (sym (merged_nothing indexed_before indexed_ordered us) ∙ ap (λ zs. merged indexed_before us zs) (sym e)))

taken_whole : (n : ℕ) (xs : List IndexedEntry) → length xs ≤ n → take n xs ≡ xs
taken_whole zero [] h = refl
taken_whole (suc n) [] h = refl
taken_whole zero (x ∷ xs) h = absurd (omega (arith, h))
taken_whole (suc n) (x ∷ xs) h = ap (λ ys. x ∷ ys) (taken_whole n xs (omega (arith, h)))

tail_whole : (i n : ℕ) (xs : List IndexedEntry) → n ≡ length xs - i → take n (drop i xs) ≡ drop i xs
tail_whole zero n xs e = taken_whole n xs (omega (arith, e))
tail_whole (suc i) n [] e = taken_whole n [] (omega arith)
tail_whole (suc i) n (x ∷ xs) e = tail_whole i n xs (omega (arith, e))

pub merge_ended : (i j : ℕ) (xs ys all next out : List IndexedEntry) → (length xs ≤ i) ⊎ (length ys ≤ j) → next ≡ all ++ take (length xs - i) (drop i xs) → out ≡ next ++ take (length ys - j) (drop j ys) → all ++ merged indexed_before (drop i xs) (drop j ys) ≡ merged indexed_before xs ys → out ≡ merged indexed_before xs ys
merge_ended i j xs ys all next out end a b whole =
    let left : next ≡ all ++ drop i xs = a ∙ ap (λ zs. all ++ zs) (tail_whole i (length xs - i) xs refl) in
    let right : out ≡ next ++ drop j ys = b ∙ ap (λ zs. next ++ zs) (tail_whole j (length ys - j) ys refl) in
    right ∙ (ap (λ zs. zs ++ drop j ys) left ∙ (append_assoc all (drop i xs) (drop j ys) ∙ (ap (λ zs. all ++ zs) (ended (drop i xs) (drop j ys) (none end)) ∙ whole)))
  where
    none : (length xs ≤ i) ⊎ (length ys ≤ j) → (drop i xs ≡ []) ⊎ (drop j ys ≡ [])
    none (inl h) = inl (dropped_none i xs h)
    none (inr h) = inr (dropped_none j ys h)

-- ---- what is sorted with its indices is what is kept, in the order of the journal

entries_insert : (x : IndexedEntry) (ys : List IndexedEntry) → entries_without_index (insert_sorted indexed_before x ys) ≡ insert_sorted comes_before x.entry (entries_without_index ys)
entries_insert x [] = refl
entries_insert x (y ∷ ys) = by_first (comes_before x.entry y.entry) (entries_insert x ys)
  where
    by_first : (b : Bool) → entries_without_index (insert_sorted indexed_before x ys) ≡ insert_sorted comes_before x.entry (entries_without_index ys) → entries_without_index (if b then x ∷ y ∷ ys else y ∷ insert_sorted indexed_before x ys) ≡ (if b then x.entry ∷ y.entry ∷ entries_without_index ys else y.entry ∷ insert_sorted comes_before x.entry (entries_without_index ys))
    by_first true r = refl
    by_first false r = ap (λ es. y.entry ∷ es) r

entries_onto : (done xs : List IndexedEntry) → entries_without_index (sorted_onto indexed_before done xs) ≡ sorted_onto comes_before (entries_without_index done) (entries_without_index xs)
entries_onto done [] = refl
entries_onto done (x ∷ xs) = entries_onto (insert_sorted indexed_before x done) xs ∙ ap (λ ds. sorted_onto comes_before ds (entries_without_index xs)) (entries_insert x done)

entries_sorted : (es : List LogEntry) → entries_without_index (sorted indexed_before (indexed 0 es)) ≡ in_order es
entries_sorted es = entries_onto [] (indexed 0 es) ∙ ap (sorted comes_before) (entries_indexed 0 es)

pub journal_entries : (logs : List ActorLog) → entries_without_index (indexed_journal logs) ≡ in_order (all_kept logs)
journal_entries logs = entries_sorted (all_kept logs)

length_insert : (x : IndexedEntry) (ys : List IndexedEntry) → length (insert_sorted indexed_before x ys) ≡ suc (length ys)
length_insert x [] = refl
length_insert x (y ∷ ys) = by_first (indexed_before x y) (length_insert x ys)
  where
    by_first : (b : Bool) → length (insert_sorted indexed_before x ys) ≡ suc (length ys) → length (if b then x ∷ y ∷ ys else y ∷ insert_sorted indexed_before x ys) ≡ suc (suc (length ys))
    by_first true r = refl
    by_first false r = ap suc r

length_onto : (done xs : List IndexedEntry) → length (sorted_onto indexed_before done xs) ≡ length done + length xs
length_onto done [] = omega arith
length_onto done (x ∷ xs) = let more = length_insert x done in length_onto (insert_sorted indexed_before x done) xs ∙ omega (arith, more)

length_sorted : (es : List LogEntry) → length (sorted indexed_before (indexed 0 es)) ≡ length es
length_sorted es =
    let sorted_length = length_onto [] (indexed 0 es) in
    let whole = length_indexed 0 es in
    omega (arith, sorted_length, whole)

journal_length : (logs : List ActorLog) → length (indexed_journal logs) ≡ length (all_kept logs)
journal_length logs = length_sorted (all_kept logs)

as_many : (xs : List IndexedEntry) → length (entries_without_index xs) ≡ length xs
as_many [] = refl
as_many (x ∷ xs) = ap suc (as_many xs)

pub length_in_order : (es : List LogEntry) → length (in_order es) ≡ length es
length_in_order es = ap length (sym (entries_sorted es)) ∙ (as_many (sorted indexed_before (indexed 0 es)) ∙ length_sorted es)

-- ---- entries that are in their slots, each with an index of its own

abbrev IsNoneOf : ℕ → List IndexedEntry → Type 0
IsNoneOf i [] = Unit {0}
IsNoneOf i (x ∷ xs) = (i ≢ x.index) × IsNoneOf i xs

abbrev AreLeft : List (Option LogEntry) → List IndexedEntry → Type 0
AreLeft slots [] = Unit {0}
AreLeft slots (x ∷ xs) = (slice_index_or slots x.index None ≡ Some x.entry) × (IsNoneOf x.index xs × AreLeft slots xs)

left_after : (i : ℕ) (slots : List (Option LogEntry)) (xs : List IndexedEntry) → IsNoneOf i xs → AreLeft slots xs → AreLeft (slice_set slots i None) xs
left_after i slots [] n h = tt
left_after i slots (x ∷ xs) n h = (get_or-set_other slots i x.index None None (λ e. n.0 (sym e)) ∙ h.0, (h.1.0, left_after i slots xs n.1 h.1.1))

taken_left : (xs : List IndexedEntry) (slots : List (Option LogEntry)) → AreLeft slots xs → taken_by (indices_of xs) slots ≡ entries_without_index xs
taken_left [] slots h = refl
taken_left (x ∷ xs) slots h =
    ap (λ o. with_taken o (taken_by (indices_of xs) (slice_set slots x.index None))) h.0
    ∙ ap (λ es. x.entry ∷ es) (taken_left xs (slice_set slots x.index None) (left_after x.index slots xs h.1.0 h.1.1))

none_insert : (i : ℕ) (x : IndexedEntry) (ys xs : List IndexedEntry) → IsNoneOf i (x ∷ (ys ++ xs)) → IsNoneOf i (insert_sorted indexed_before x ys ++ xs)
none_insert i x [] xs h = h
none_insert i x (y ∷ ys) xs h = by_first (indexed_before x y) (none_insert i x ys xs (h.0, h.1.1))
  where
    by_first : (b : Bool) → IsNoneOf i (insert_sorted indexed_before x ys ++ xs) → IsNoneOf i ((if b then x ∷ y ∷ ys else y ∷ insert_sorted indexed_before x ys) ++ xs)
    by_first true r = h
    by_first false r = (h.1.0, r)

left_insert : (slots : List (Option LogEntry)) (x : IndexedEntry) (ys xs : List IndexedEntry) → AreLeft slots (x ∷ (ys ++ xs)) → AreLeft slots (insert_sorted indexed_before x ys ++ xs)
left_insert slots x [] xs h = h
left_insert slots x (y ∷ ys) xs h = by_first (indexed_before x y) (left_insert slots x ys xs (h.0, (h.1.0.1, h.1.1.1.1)))
  where
    by_first : (b : Bool) → AreLeft slots (insert_sorted indexed_before x ys ++ xs) → AreLeft slots ((if b then x ∷ y ∷ ys else y ∷ insert_sorted indexed_before x ys) ++ xs)
    by_first true r = h
    by_first false r = (h.1.1.0, (none_insert y.index x ys xs ((λ e. h.1.0.0 (sym e)), h.1.1.1.0), r))

none_front : (i : ℕ) (ys : List IndexedEntry) (x : IndexedEntry) (xs : List IndexedEntry) → IsNoneOf i (ys ++ x ∷ xs) → IsNoneOf i (x ∷ (ys ++ xs))
none_front i [] x xs h = h
none_front i (y ∷ ys) x xs h = let f = none_front i ys x xs h.1 in (f.0, (h.0, f.1))

left_front : (slots : List (Option LogEntry)) (ys : List IndexedEntry) (x : IndexedEntry) (xs : List IndexedEntry) → AreLeft slots (ys ++ x ∷ xs) → AreLeft slots (x ∷ (ys ++ xs))
left_front slots [] x xs h = h
left_front slots (y ∷ ys) x xs h =
    let f = left_front slots ys x xs h.1.1 in
    let g = none_front y.index ys x xs h.1.0 in
    (f.0, (((λ e. g.0 (sym e)), f.1.0), (h.0, (g.1, f.1.1))))

left_onto : (slots : List (Option LogEntry)) (done xs : List IndexedEntry) → AreLeft slots (done ++ xs) → AreLeft slots (sorted_onto indexed_before done xs)
left_onto slots done [] h = subst (AreLeft slots) (append-nil done) h
left_onto slots done (x ∷ xs) h = left_onto slots (insert_sorted indexed_before x done) xs (left_insert slots x done xs (left_front slots done x xs h))

none_later : (i n : ℕ) (es : List LogEntry) → i < n → IsNoneOf i (indexed n es)
none_later i n [] less = tt
none_later i n (e ∷ es) less = ((λ same. omega (arith, less, same)), none_later i (n + 1) es (omega (arith, less)))

left_indexed : (pre : List (Option LogEntry)) (es : List LogEntry) → AreLeft (pre ++ map Some es) (indexed (length pre) es)
left_indexed pre [] = tt
left_indexed pre (e ∷ es) = (
  get_or-append_seam pre (Some e) (map Some es) None,
  (
    none_later (length pre) (length pre + 1) es (omega arith),
    subst (λ slots. AreLeft slots (indexed (length pre + 1) es)) (append_assoc pre (Some e ∷ []) (map Some es))
        (subst (λ n. AreLeft ((pre ++ Some e ∷ []) ++ map Some es) (indexed n es)) (length-append pre (Some e ∷ [])) (left_indexed (pre ++ Some e ∷ []) es)),
  ),
)

pub taken_journal : (logs : List ActorLog) → taken_by (indices_of (indexed_journal logs)) (map Some (all_kept logs)) ≡ in_order (all_kept logs)
taken_journal logs =
    taken_left (indexed_journal logs) (map Some (all_kept logs)) (left_onto (map Some (all_kept logs)) [] (indexed 0 (all_kept logs)) (left_indexed [] (all_kept logs)))
    ∙ journal_entries logs

pub journal_fits : (logs vec : List ActorLog) (slots : List (Option LogEntry)) (len cap : ℕ) → vec ≡ logs → slots ≡ [] → len ≡ length slots → length (indexed_journal logs) ≤ cap → len + length (all_kept vec) ≤ cap
journal_fits logs vec slots len cap same none is fit =
    let empty : len ≡ 0 = is ∙ ap length none in
    let all : length (all_kept vec) ≡ length (indexed_journal logs) = ap (λ gs. length (all_kept gs)) same ∙ sym (journal_length logs) in
    omega (arith, empty, all, fit)

pub journal_taken : (logs vec : List ActorLog) (order slice : List ℕ) (slots filled : List (Option LogEntry)) (entries out : List LogEntry) → vec ≡ logs → order ≡ indices_of (indexed_journal logs) → slice ≡ order → slots ≡ [] → filled ≡ slots ++ map Some (all_kept vec) → entries ≡ [] → out ≡ entries ++ taken_by slice filled → out ≡ in_order (all_kept logs)
journal_taken logs vec order slice slots filled entries out same indices of_order no_slots fills none is =
    let all : filled ≡ map Some (all_kept logs) = fills ∙ (ap (λ s. s ++ map Some (all_kept vec)) no_slots ∙ ap (λ gs. map Some (all_kept gs)) same) in
    is ∙ (ap (λ es. es ++ taken_by slice filled) none ∙ ((λ i. taken_by ((of_order ∙ indices) i) (all i)) ∙ taken_journal logs))
