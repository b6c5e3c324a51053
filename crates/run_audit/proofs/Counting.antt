-- The entries of a cell, counted; and lists that begin alike.
use Rattle.std.proofs.Common.{◌≡◌, ℕ, zero, suc, ◌+◌, ◌<◌, ◌≤◌, Bool, true, false, List, [], ◌∷◌, length, take, drop, map, refl, sym, ap, ◌∙◌, arith}
use Rattle.std.specs.Prelude.{slice_index_or, ◌≢◌, if◌then◌else◌}
use Rattle.wedge_events.specs.declared.events.CellName.{CellName}
use Rattle.wedge_events.specs.declared.events.LogEntry.{LogEntry}
use Rattle.thread_laws.specs.Histories.{is_of, entries_on}
use Rattle.run_audit.specs.HistoryEntries.{kept_as}
use Rattle.run_audit.specs.ListDifferences.{DifferHere}
use Rattle.run_audit.specs.declared.kept.KeptEntry.{KeptEntry}

abbrev pub count_on : CellName → List KeptEntry → ℕ
count_on c ks = length (entries_on c (map kept_as ks))

abbrev plus : Bool → ℕ → ℕ
plus true n = suc n
plus false n = n

count_first : (c : CellName) (k : KeptEntry) (ks : List KeptEntry) → count_on c (k ∷ ks) ≡ plus (is_of c (kept_as k).event) (count_on c ks)
count_first c k ks = by_own (is_of c (kept_as k).event)
  where
    by_own : (t : Bool) → length (if t then kept_as k ∷ entries_on c (map kept_as ks) else entries_on c (map kept_as ks)) ≡ plus t (count_on c ks)
    by_own true = refl
    by_own false = refl

step : (c : CellName) (ks : List KeptEntry) (n : ℕ) (d : KeptEntry) → n < length ks → count_on c (take (suc n) ks) ≡ plus (is_of c (kept_as (slice_index_or ks n d)).event) (count_on c (take n ks))
step c [] n d less = absurd (omega (arith, less))
step c (k ∷ ks) zero d less = count_first c k []
step c (k ∷ ks) (suc n) d less =
    count_first c k (take (suc n) ks) ∙ (ap (plus (is_of c (kept_as k).event)) (step c ks n d (omega (arith, less))) ∙ (swap (is_of c (kept_as k).event) (is_of c (kept_as (slice_index_or ks n d)).event) (count_on c (take n ks)) ∙ ap (plus (is_of c (kept_as (slice_index_or ks n d)).event)) (sym (count_first c k (take n ks)))))
  where
    swap : (s t : Bool) (m : ℕ) → plus s (plus t m) ≡ plus t (plus s m)
    swap true true m = refl
    swap true false m = refl
    swap false t m = refl

-- one entry more
pub counts_own : (c : CellName) (ks : List KeptEntry) (n : ℕ) (d : KeptEntry) → n < length ks → is_of c (kept_as (slice_index_or ks n d)).event ≡ true → count_on c (take (n + 1) ks) ≡ count_on c (take n ks) + 1
counts_own c ks n d less own =
    let next : n + 1 ≡ suc n = omega arith in
    let sum : suc (count_on c (take n ks)) ≡ count_on c (take n ks) + 1 = omega arith in
    ap (λ m. count_on c (take m ks)) next ∙ (step c ks n d less ∙ (ap (λ t. plus t (count_on c (take n ks))) own ∙ sum))

pub counts_other : (c : CellName) (ks : List KeptEntry) (n : ℕ) (d : KeptEntry) → n < length ks → is_of c (kept_as (slice_index_or ks n d)).event ≡ false → count_on c (take (n + 1) ks) ≡ count_on c (take n ks)
counts_other c ks n d less own =
    let next : n + 1 ≡ suc n = omega arith in
    ap (λ m. count_on c (take m ks)) next ∙ (step c ks n d less ∙ ap (λ t. plus t (count_on c (take n ks))) own)

count_least : (c : CellName) (ks : List KeptEntry) → count_on c ks ≤ length ks
count_least c [] = omega arith
count_least c (k ∷ ks) = by_own (is_of c (kept_as k).event) (count_least c ks)
  where
    by_own : (t : Bool) → count_on c ks ≤ length ks → length (if t then kept_as k ∷ entries_on c (map kept_as ks) else entries_on c (map kept_as ks)) ≤ suc (length ks)
    by_own true h = omega (arith, h)
    by_own false h = omega (arith, h)

pub counts_within : (c : CellName) (ks : List KeptEntry) → count_on c ks ≤ length ks
counts_within = count_least

-- ---- lists that begin alike

pub alike_more : (ks : List KeptEntry) (ls : List LogEntry) (n : ℕ) (d : KeptEntry) (e : LogEntry) → n < length ks → n < length ls → take n (map kept_as ks) ≡ take n ls → kept_as (slice_index_or ks n d) ≡ slice_index_or ls n e
    → take (n + 1) (map kept_as ks) ≡ take (n + 1) ls
alike_more ks ls n d e a b same one = let next : n + 1 ≡ suc n = omega arith in ap (λ m. take m (map kept_as ks)) next ∙ (more ks ls n a b same one ∙ ap (λ m. take m ls) (sym next))
  where
    more : (ks : List KeptEntry) (ls : List LogEntry) (n : ℕ) → n < length ks → n < length ls → take n (map kept_as ks) ≡ take n ls → kept_as (slice_index_or ks n d) ≡ slice_index_or ls n e → take (suc n) (map kept_as ks) ≡ take (suc n) ls
    more [] ls n a b same one = absurd (omega (arith, a))
    more (k ∷ ks) [] n a b same one = absurd (omega (arith, b))
    more (k ∷ ks) (l ∷ ls) zero a b same one = ap (λ z. z ∷ []) one
    more (k ∷ ks) (l ∷ ls) (suc n) a b same one =
        let heads : kept_as k ≡ l = cc in
        let tails : take n (map kept_as ks) ≡ take n ls = cc in
        ap (λ z. z ∷ take (suc n) (map kept_as ks)) heads ∙ ap (λ zs. l ∷ zs) (more ks ls n (omega (arith, a)) (omega (arith, b)) tails one)

pub apart_here : (ks : List KeptEntry) (ls : List LogEntry) (n : ℕ) (d : KeptEntry) (e : LogEntry) → n < length ks → n < length ls → kept_as (slice_index_or ks n d) ≢ slice_index_or ls n e → DifferHere (drop n (map kept_as ks)) (drop n ls)
apart_here [] ls n d e a b one = absurd (omega (arith, a))
apart_here (k ∷ ks) [] n d e a b one = absurd (omega (arith, b))
apart_here (k ∷ ks) (l ∷ ls) zero d e a b one = one
apart_here (k ∷ ks) (l ∷ ls) (suc n) d e a b one = apart_here ks ls n d e (omega (arith, a)) (omega (arith, b)) one

nothing_kept : (xs : List LogEntry) → DifferHere [] xs
nothing_kept xs = tt

nothing_logged : (xs : List LogEntry) → DifferHere xs []
nothing_logged [] = tt
nothing_logged (x ∷ xs) = tt

pub kept_ended : (ks : List KeptEntry) (ls : List LogEntry) (n : ℕ) → length ks ≤ n → DifferHere (drop n (map kept_as ks)) (drop n ls)
kept_ended [] ls zero h = tt
kept_ended [] ls (suc n) h = tt
kept_ended (k ∷ ks) ls zero h = absurd (omega (arith, h))
kept_ended (k ∷ ks) [] (suc n) h = nothing_logged (drop n (map kept_as ks))
kept_ended (k ∷ ks) (l ∷ ls) (suc n) h = kept_ended ks ls n (omega (arith, h))

pub logged_ended : (ks : List KeptEntry) (ls : List LogEntry) (n : ℕ) → length ls ≤ n → DifferHere (drop n (map kept_as ks)) (drop n ls)
logged_ended ks [] zero h = nothing_logged (map kept_as ks)
logged_ended ks [] (suc n) h = nothing_logged (drop (suc n) (map kept_as ks))
logged_ended ks (l ∷ ls) zero h = absurd (omega (arith, h))
logged_ended [] (l ∷ ls) (suc n) h = tt
logged_ended (k ∷ ks) (l ∷ ls) (suc n) h = logged_ended ks ls n (omega (arith, h))
