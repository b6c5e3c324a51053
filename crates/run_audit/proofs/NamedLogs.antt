-- The logs of actors by name.
use Rattle.std.proofs.Common.{◌≡◌, ℕ, zero, suc, ◌<◌, ◌≤◌, Bool, true, false, true≢false, not, ◌&&◌, List, [], ◌∷◌, ◌++◌, length, refl, sym, ap, ◌∙◌, arith, append_assoc, append-nil, drop, Less, Equal, Greater}
use Rattle.std.specs.Prelude.{Option, Some, None, slice_index_or, if◌then◌else◌}
use Rattle.std.specs.List.{filter}
use Rattle.std.specs.List.Sorted.{ties, IsSortedBy, IsStableBy, IsPartitionedBy}
use Rattle.std.specs.Ordering.{nat_cmp, is_lt, is_eq, ordering_reverse}
use Rattle.std.specs.Cmp.Lexicographic.{slice_cmp, nat_list_cmp_total, texts_ties}
use Rattle.std.specs.declared.cmp.Ordering.{Ordering}
use Rattle.std.proofs.lemmas.List.Sorted.{sorted_far}
use Rattle.wedge_base.specs.Names.{same}
use Rattle.wedge_base.specs.declared.rights.End.TheVariants as end
use Rattle.stable_sort.proofs.Sorted.{IsLow, Rises, rises_if_sorted}
use Rattle.run_laws.proofs.Named.{same_equal}
use Rattle.wedge_events.specs.declared.events.LogEntry.{LogEntry}
use Rattle.grant_cache.specs.Caches.{zero_count}
use Rattle.thread_laws.specs.Executions.{names_begun}
use Rattle.thread_laws.specs.Joining.{log_named, with_log, logs_named}
use Rattle.thread_laws.specs.declared.gathered.ActorLog.{ActorLog}
use Rattle.run_audit.specs.LogOrder.{log_before, logs_sortable, IsCountBefore}

-- a log of each name
abbrev log_on : List ℕ → ActorLog
log_on name = record { name = name; compartment = 0; end = end.Exited 0; pc = 0; fuel = 0; denials = []; labels = []; entries = []; kept = []; count = 0; cache = zero_count }

-- ---- two names, by how they compare

less_apart : (o : Ordering) → is_lt o ≡ true → is_eq o ≡ false
less_apart Less h = refl
less_apart Equal h = absurd cc
less_apart Greater h = absurd cc

less_other : (a b : List ℕ) → is_lt (slice_cmp nat_cmp a b) ≡ true → same a b ≡ false
less_other a b h = texts_ties a b ∙ less_apart (slice_cmp nat_cmp a b) h

greater_of : (o p : Ordering) → p ≡ ordering_reverse o → is_lt o ≡ false → is_eq o ≡ false → is_lt p ≡ true
greater_of Less p e h k = absurd cc
greater_of Equal p e h k = absurd cc
greater_of Greater p e h k = ap is_lt e

turned : (a b : List ℕ) → is_lt (slice_cmp nat_cmp a b) ≡ false → same a b ≡ false → is_lt (slice_cmp nat_cmp b a) ≡ true
turned a b h k = greater_of (slice_cmp nat_cmp a b) (slice_cmp nat_cmp b a) (nat_list_cmp_total.antisymm b a) h (sym (texts_ties a b) ∙ k)

tied : (o p : Ordering) → p ≡ ordering_reverse o → is_eq o ≡ (not (is_lt p) && not (is_lt o))
tied Less p e = ap (λ x. not (is_lt x) && false) (sym e)
tied Equal p e = ap (λ x. not (is_lt x) && true) (sym e)
tied Greater p e = ap (λ x. not (is_lt x) && true) (sym e)

same_ties : (name : List ℕ) (g : ActorLog) → same g.name name ≡ ties log_before (log_on name) g
same_ties name g = texts_ties g.name name ∙ tied (slice_cmp nat_cmp g.name name) (slice_cmp nat_cmp name g.name) (nat_list_cmp_total.antisymm name g.name)

-- ---- among sorted logs

step_over : (g : ActorLog) (gs : List ActorLog) (name : List ℕ) → same g.name name ≡ false → log_named (g ∷ gs) name ≡ log_named gs name
step_over g gs name e = ap (λ t. if t then Some g else log_named gs name) e

-- none of the logs from one on has a lower name
none_above : (g : ActorLog) (hs : List ActorLog) (name : List ℕ) → is_lt (slice_cmp nat_cmp name g.name) ≡ true → IsLow log_before logs_sortable g hs → log_named hs name ≡ None
none_above g [] name above low = refl
none_above g (h ∷ hs) name above low = step_over h hs name (other (same h.name name) refl) ∙ none_above g hs name above low.1
  where
    other : (t : Bool) → same h.name name ≡ t → t ≡ false
    other true e = absurd (true≢false (sym above ∙ (ap (λ n. is_lt (slice_cmp nat_cmp n g.name)) (sym (same_equal h.name name e)) ∙ low.0)))
    other false e = refl

found_from : (gs : List ActorLog) (name : List ℕ) (n : ℕ) (d : ActorLog) → n < length gs → ((k : ℕ) → k < n → is_lt (slice_cmp nat_cmp (slice_index_or gs k d).name name) ≡ true)
    → same (slice_index_or gs n d).name name ≡ true → log_named gs name ≡ Some (slice_index_or gs n d)
found_from [] name n d within before here = absurd (omega (arith, within))
found_from (g ∷ gs) name zero d within before here = ap (λ t. if t then Some g else log_named gs name) here
found_from (g ∷ gs) name (suc n) d within before here =
    step_over g gs name (less_other g.name name (before 0 (omega arith))) ∙ found_from gs name n d (omega (arith, within)) (λ k less. before (suc k) (omega (arith, less))) here

absent_from : (gs : List ActorLog) → Rises log_before logs_sortable gs → (name : List ℕ) (n : ℕ) (d : ActorLog) → n < length gs → ((k : ℕ) → k < n → is_lt (slice_cmp nat_cmp (slice_index_or gs k d).name name) ≡ true)
    → is_lt (slice_cmp nat_cmp (slice_index_or gs n d).name name) ≡ false → same (slice_index_or gs n d).name name ≡ false → log_named gs name ≡ None
absent_from [] rise name n d within before next other = refl
absent_from (g ∷ gs) rise name zero d within before next other = step_over g gs name other ∙ none_above g gs name (turned g.name name next other) rise.0
absent_from (g ∷ gs) rise name (suc n) d within before next other =
    step_over g gs name (less_other g.name name (before 0 (omega arith))) ∙ absent_from gs rise.1 name n d (omega (arith, within)) (λ k less. before (suc k) (omega (arith, less))) next other

absent_all : (gs : List ActorLog) (name : List ℕ) (n : ℕ) (d : ActorLog) → length gs ≤ n → ((k : ℕ) → k < n → is_lt (slice_cmp nat_cmp (slice_index_or gs k d).name name) ≡ true) → log_named gs name ≡ None
absent_all [] name n d all before = refl
absent_all (g ∷ gs) name zero d all before = absurd (omega (arith, all))
absent_all (g ∷ gs) name (suc n) d all before =
    step_over g gs name (less_other g.name name (before 0 (omega arith))) ∙ absent_all gs name n d (omega (arith, all)) (λ k less. before (suc k) (omega (arith, less)))

pub log_found : (gs : List ActorLog) (name : List ℕ) (n : ℕ) (g : ActorLog) → IsCountBefore gs name n → n < length gs → g ≡ slice_index_or gs n g → same g.name name ≡ true → Some g ≡ log_named gs name
log_found gs name n g count within is here = ap Some is ∙ sym (found_from gs name n g within (λ k less. count.before k g less) (ap (λ x. same x.name name) (sym is) ∙ here))

pub log_absent : (gs : List ActorLog) (name : List ℕ) (n : ℕ) (g : ActorLog) → IsSortedBy log_before gs → IsCountBefore gs name n → n < length gs → g ≡ slice_index_or gs n g → same g.name name ≡ false → None ≡ log_named gs name
log_absent gs name n g up count within is other =
    sym (absent_from gs (rises_if_sorted log_before logs_sortable gs up) name n g within (λ k less. count.before k g less) (count.next g within) (ap (λ x. same x.name name) (sym is) ∙ other))

pub log_beyond : (gs : List ActorLog) (name : List ℕ) (n : ℕ) → IsCountBefore gs name n → length gs ≤ n → None ≡ log_named gs name
log_beyond gs name n count all = sym (absent_all gs name n (log_on name) all (λ k less. count.before k (log_on name) less))

-- ---- where a binary search ends

pub names_parted : (gs : List ActorLog) (name : List ℕ) → IsSortedBy log_before gs → IsPartitionedBy (λ g. is_lt (slice_cmp nat_cmp g.name name)) gs
names_parted gs name up i j d le less e = by_test (is_lt (slice_cmp nat_cmp (slice_index_or gs i d).name name)) refl
  where
    by_test : (t : Bool) → is_lt (slice_cmp nat_cmp (slice_index_or gs i d).name name) ≡ t → t ≡ true
    by_test true h = refl
    by_test false h =
        absurd (true≢false (sym e ∙ logs_sortable.chain (slice_index_or gs j d) (slice_index_or gs i d) (log_on name) (sorted_far log_before logs_sortable gs up i j d le less) h))

-- ---- a stable sort keeps the first log of each name

abbrev first_in : List ActorLog → Option ActorLog
first_in [] = None
first_in (g ∷ gs) = Some g

find_first : (name : List ℕ) (gs : List ActorLog) → log_named gs name ≡ first_in (filter (ties log_before (log_on name)) gs)
find_first name [] = refl
find_first name (g ∷ gs) = by_name (same g.name name) (ties log_before (log_on name) g) (same_ties name g) (find_first name gs)
  where
    by_name : (s t : Bool) → s ≡ t → log_named gs name ≡ first_in (filter (ties log_before (log_on name)) gs)
        → (if s then Some g else log_named gs name) ≡ first_in (if t then g ∷ filter (ties log_before (log_on name)) gs else filter (ties log_before (log_on name)) gs)
    by_name true true e others = refl
    by_name true false e others = absurd cc
    by_name false true e others = absurd cc
    by_name false false e others = others

pub named_sorted : (gs hs : List ActorLog) → IsStableBy log_before gs hs → (name : List ℕ) → log_named hs name ≡ log_named gs name
named_sorted gs hs stable name = find_first name hs ∙ (ap first_in (stable (log_on name)) ∙ sym (find_first name gs))

all_named_sorted : (gs hs : List ActorLog) → IsStableBy log_before gs hs → (names : List (List ℕ)) → logs_named hs names ≡ logs_named gs names
all_named_sorted gs hs stable [] = refl
all_named_sorted gs hs stable (n ∷ ns) = ap (λ o. with_log o (logs_named hs ns)) (named_sorted gs hs stable n) ∙ ap (with_log (log_named gs n)) (all_named_sorted gs hs stable ns)

-- ---- one name more

with_one : (o : Option ActorLog) (gs : List ActorLog) → with_log o [] ++ gs ≡ with_log o gs
with_one None gs = refl
with_one (Some g) gs = refl

pub named_more : (front all gs : List ActorLog) (name : List ℕ) (names : List (List ℕ)) → all ≡ front ++ with_log (log_named gs name) [] → all ++ logs_named gs names ≡ front ++ logs_named gs (name ∷ names)
named_more front all gs name names e =
    ap (λ zs. zs ++ logs_named gs names) e
    ∙ (append_assoc front (with_log (log_named gs name) []) (logs_named gs names) ∙ ap (λ zs. front ++ zs) (with_one (log_named gs name) (logs_named gs names)))

-- ---- no entry more

dropped_all : (es : List LogEntry) (n : ℕ) → length es ≤ n → drop n es ≡ []
dropped_all [] zero h = refl
dropped_all [] (suc n) h = refl
dropped_all (e ∷ es) zero h = absurd (omega (arith, h))
dropped_all (e ∷ es) (suc n) h = dropped_all es n (omega (arith, h))

pub named_end : (all gs hs : List ActorLog) (es : List LogEntry) (n : ℕ) (names : List (List ℕ)) → length es ≤ n → IsStableBy log_before gs hs → all ++ logs_named hs (names_begun (drop n es)) ≡ logs_named hs names → all ≡ logs_named gs names
named_end all gs hs es n names h stable so_far =
    sym (ap (λ xs. all ++ logs_named hs (names_begun xs)) (dropped_all es n h) ∙ append-nil all) ∙ (so_far ∙ all_named_sorted gs hs stable names)
