-- The counts in logs, by the names of their actors.
use Rattle.std.proofs.Common.{◌≡◌, ℕ, zero, suc, ◌≤◌, List, [], ◌∷◌, ◌++◌, length, map, drop, refl, sym, ap, ◌∙◌, arith, append_assoc, append-nil}
use Rattle.std.specs.Prelude.{Some, None}
use Rattle.std.specs.List.Sorted.{IsStableBy}
use Rattle.wedge_base.specs.declared.outcome.ActorLine.{ActorLine}
use Rattle.grant_cache.specs.declared.count.CacheLine.{CacheLine}
use Rattle.thread_laws.specs.CacheLines.{with_counts, counts_named}
use Rattle.thread_laws.specs.Joining.{log_named}
use Rattle.thread_laws.specs.declared.gathered.ActorLog.{ActorLog}
use Rattle.run_audit.specs.LogOrder.{log_before}
use Rattle.run_audit.proofs.NamedLogs.{named_sorted}

counts_sorted : (gs hs : List ActorLog) → IsStableBy log_before gs hs → (ns : List (List ℕ)) → counts_named hs ns ≡ counts_named gs ns
counts_sorted gs hs stable [] = refl
counts_sorted gs hs stable (n ∷ ns) = ap (λ o. with_counts n o (counts_named hs ns)) (named_sorted gs hs stable n) ∙ ap (with_counts n (log_named gs n)) (counts_sorted gs hs stable ns)

pub counts_more : (front : List CacheLine) (gs : List ActorLog) (name : List ℕ) (g : ActorLog) → Some g ≡ log_named gs name → (ns : List (List ℕ))
    → (front ++ record { name = name; count = g.cache } ∷ []) ++ counts_named gs ns ≡ front ++ counts_named gs (name ∷ ns)
counts_more front gs name g is ns =
    append_assoc front (record { name = name; count = g.cache } ∷ []) (counts_named gs ns) ∙ ap (λ o. front ++ with_counts name o (counts_named gs ns)) is

pub counts_none : (front : List CacheLine) (gs : List ActorLog) (name : List ℕ) → None ≡ log_named gs name → (ns : List (List ℕ)) → front ++ counts_named gs ns ≡ front ++ counts_named gs (name ∷ ns)
counts_none front gs name is ns = ap (λ o. front ++ with_counts name o (counts_named gs ns)) is

dropped_all : (ls : List ActorLine) (n : ℕ) → length ls ≤ n → drop n ls ≡ []
dropped_all [] zero h = refl
dropped_all [] (suc n) h = refl
dropped_all (l ∷ ls) zero h = absurd (omega (arith, h))
dropped_all (l ∷ ls) (suc n) h = dropped_all ls n (omega (arith, h))

pub counts_end : (all : List CacheLine) (gs hs : List ActorLog) (ls : List ActorLine) (n : ℕ) → length ls ≤ n → IsStableBy log_before gs hs
    → all ++ counts_named hs (map (λ l. l.name) (drop n ls)) ≡ counts_named hs (map (λ l. l.name) ls) → all ≡ counts_named gs (map (λ l. l.name) ls)
counts_end all gs hs ls n h stable so_far =
    sym (ap (λ xs. all ++ counts_named hs (map (λ l. l.name) xs)) (dropped_all ls n h) ∙ append-nil all) ∙ (so_far ∙ counts_sorted gs hs stable (map (λ l. l.name) ls))
