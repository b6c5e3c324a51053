-- What logs keep of their entries is enough for a comparison.
use Rattle.std.proofs.Common.{◌≡◌, ℕ, ◌≤◌, Bool, true, false, cond, not, List, [], ◌∷◌, ◌++◌, length, refl, ap, sym, ◌∙◌, arith}
use Rattle.std.proofs.lemmas.Bool.{lt-ltb, ltb-true}
use Rattle.std.proofs.lemmas.List.Elements.{All-head, All-tail, All-weaker, filter-append}
use Rattle.std.specs.Prelude.{nat_lt, All}
use Rattle.wedge_events.specs.declared.events.Event.{Event}
use Rattle.wedge_events.specs.declared.events.Event.TheVariants as event
use Rattle.wedge_events.specs.declared.events.LogEntry.{LogEntry}
use Rattle.thread_laws.specs.Joining.{all_logged}
use Rattle.thread_laws.specs.KeptEntries.{is_on_declared, entries_elsewhere, IsKept, all_kept, AreKept}
use Rattle.thread_laws.specs.declared.gathered.ActorLog.{ActorLog}
use Rattle.thread_laws.specs.declared.gathered.Gathered.{Gathered}
use Rattle.run_audit.specs.ComparedCells.{KeepCompared}
use Rattle.run_audit.specs.RunJournals.{CountsAll}

-- ---- slots

-- what is on one of the first u slots is on one of the first n, if these are no fewer
on_more : (u n : ℕ) → u ≤ n → (e : Event) → is_on_declared u e ≡ true → is_on_declared n e ≡ true
on_more u n few (event.Slot slot q r) h = let less = ltb-true slot u h in lt-ltb slot n (omega (arith, few, less))
on_more u n few e h = absurd cc

-- and nothing is on one of the first 0
not_below : (n : ℕ) (b : Bool) → nat_lt n 0 ≡ b → b ≡ false
not_below n false e = refl
not_below n true e = let less = ltb-true n 0 e in absurd (omega (arith, less))

pub none_declared : (e : Event) → is_on_declared 0 e ≡ false
none_declared (event.Slot slot q r) = not_below slot (nat_lt slot 0) refl
none_declared e = refl

-- ---- entries

elsewhere_twice : (u n : ℕ) → u ≤ n → (es : List LogEntry) → entries_elsewhere n (entries_elsewhere u es) ≡ entries_elsewhere n es
elsewhere_twice u n few [] = refl
elsewhere_twice u n few (e ∷ es) = by_test (is_on_declared u e.event) refl (elsewhere_twice u n few es)
  where
    by_test : (b : Bool) → is_on_declared u e.event ≡ b → entries_elsewhere n (entries_elsewhere u es) ≡ entries_elsewhere n es
        → entries_elsewhere n (cond (not b) (e ∷ entries_elsewhere u es) (entries_elsewhere u es)) ≡ entries_elsewhere n (e ∷ es)
    by_test false is rest = ap (λ zs. cond (not (is_on_declared n e.event)) (e ∷ zs) zs) rest
    by_test true is rest = rest ∙ sym (ap (λ b. cond (not b) (e ∷ entries_elsewhere n es) (entries_elsewhere n es)) (on_more u n few e.event is))

pub elsewhere_all : (es : List LogEntry) → entries_elsewhere 0 es ≡ es
elsewhere_all [] = refl
elsewhere_all (e ∷ es) =
    ap (λ b. cond (not b) (e ∷ entries_elsewhere 0 es) (entries_elsewhere 0 es)) (none_declared e.event)
    ∙ ap (λ zs. e ∷ zs) (elsewhere_all es)

-- ---- logs

abbrev is_elsewhere : ℕ → LogEntry → Bool
is_elsewhere n e = not (is_on_declared n e.event)

kept_compared : (u n : ℕ) → u ≤ n → (gs : List ActorLog) → All (IsKept u) gs → KeepCompared n gs
kept_compared u n few [] all = refl
kept_compared u n few (g ∷ gs) all =
    let one : entries_elsewhere n g.kept ≡ entries_elsewhere n g.entries = ap (entries_elsewhere n) (All-head (IsKept u) g gs all).kept ∙ elsewhere_twice u n few g.entries in
    let others = kept_compared u n few gs (All-tail (IsKept u) g gs all) in
    filter-append (is_elsewhere n) g.kept (all_kept gs)
    ∙ ((λ i. one i ++ others i) ∙ sym (filter-append (is_elsewhere n) g.entries (all_logged gs)))

-- the logs of a run keep what is compared, and count all
pub run_compared : (g : Gathered) → AreKept g → KeepCompared (length g.declared) g.logs
run_compared g are = kept_compared are.unkept (length g.declared) are.few g.logs are.logs

pub run_counted : (g : Gathered) → AreKept g → All CountsAll g.logs
run_counted g are = All-weaker (IsKept are.unkept) CountsAll (λ x kept. kept.count) g.logs are.logs

-- where they leave nothing out, they keep all
pub all_in_memory : (gs : List ActorLog) → All (IsKept 0) gs → all_kept gs ≡ all_logged gs
all_in_memory [] all = refl
all_in_memory (g ∷ gs) all =
    let one : g.kept ≡ g.entries = (All-head (IsKept 0) g gs all).kept ∙ elsewhere_all g.entries in
    let others = all_in_memory gs (All-tail (IsKept 0) g gs all) in
    λ i. one i ++ others i
