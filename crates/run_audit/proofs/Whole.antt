-- Lists in the order of cells, from an index on.
use Rattle.std.proofs.Common.{◌≡◌, ℕ, zero, suc, List, [], ◌∷◌, ◌++◌, take, drop, map, refl, sym, ap, subst, ◌∙◌}
use Rattle.std.specs.Prelude.{Option}
use Rattle.wedge_events.specs.declared.events.LogEntry.{LogEntry}
use Rattle.run_audit.specs.HistoryEntries.{kept_as}
use Rattle.run_audit.specs.ListDifferences.{AreInCellOrder, IsListDifference, DifferHere}
use Rattle.run_audit.specs.declared.fault.Difference.{Difference}
use Rattle.run_audit.specs.declared.kept.KeptEntry.{KeptEntry}

pub order_behind : (ks : List KeptEntry) (n : ℕ) → AreInCellOrder (map kept_as ks) → AreInCellOrder (map kept_as (drop n ks))
order_behind ks zero h = h
order_behind [] (suc n) h = tt
order_behind (k ∷ ks) (suc n) h = order_behind ks n h.1

pub order_dropped : (ls : List LogEntry) (n : ℕ) → AreInCellOrder ls → AreInCellOrder (drop n ls)
order_dropped ls zero h = h
order_dropped [] (suc n) h = tt
order_dropped (l ∷ ls) (suc n) h = order_dropped ls n h.1

dropped : (ks : List KeptEntry) (n : ℕ) → drop n (map kept_as ks) ≡ map kept_as (drop n ks)
dropped ks zero = refl
dropped [] (suc n) = refl
dropped (k ∷ ks) (suc n) = dropped ks n

taken : (ks : List KeptEntry) (n : ℕ) → take n (map kept_as ks) ≡ map kept_as (take n ks)
taken ks zero = refl
taken [] (suc n) = refl
taken (k ∷ ks) (suc n) = ap (λ zs. kept_as k ∷ zs) (taken ks n)

pub part_behind : (ks : List KeptEntry) (ls : List LogEntry) (n : ℕ) → DifferHere (drop n (map kept_as ks)) (drop n ls) → DifferHere (map kept_as (drop n ks)) (drop n ls)
part_behind ks ls n h = subst (λ zs. DifferHere zs (drop n ls)) (dropped ks n) h

rejoined : (xs : List LogEntry) (n : ℕ) → take n xs ++ drop n xs ≡ xs
rejoined xs zero = refl
rejoined [] (suc n) = refl
rejoined (x ∷ xs) (suc n) = ap (λ zs. x ∷ zs) (rejoined xs n)

pub whole_parting : (ks : List KeptEntry) (ls : List LogEntry) (n : ℕ) (r : Option Difference) → take n (map kept_as ks) ≡ take n ls → IsListDifference (map kept_as (take n ks) ++ map kept_as (drop n ks)) (map kept_as (take n ks) ++ drop n ls) r → IsListDifference (map kept_as ks) ls r
whole_parting ks ls n r same h =
    let one : map kept_as (take n ks) ++ map kept_as (drop n ks) ≡ map kept_as ks = (λ i. sym (taken ks n) i ++ sym (dropped ks n) i) ∙ rejoined (map kept_as ks) n in
    let two : map kept_as (take n ks) ++ drop n ls ≡ ls = ap (λ zs. zs ++ drop n ls) (sym (taken ks n) ∙ same) ∙ rejoined ls n in
    subst (λ z. IsListDifference z ls r) one (subst (λ z. IsListDifference (map kept_as (take n ks) ++ map kept_as (drop n ks)) z r) two h)

pub whole_as : (ks before after : List KeptEntry) (ls others : List LogEntry) (n : ℕ) (r : Option Difference) → before ≡ take n ks → after ≡ drop n ks → others ≡ drop n ls → take n (map kept_as ks) ≡ take n ls
    → IsListDifference (map kept_as before ++ map kept_as after) (map kept_as before ++ others) r → IsListDifference (map kept_as ks) ls r
whole_as ks before after ls others n r a b c same h =
    whole_parting ks ls n r same (subst (λ x. IsListDifference (map kept_as x ++ map kept_as (drop n ks)) (map kept_as x ++ drop n ls) r) a
    (subst (λ y. IsListDifference (map kept_as before ++ map kept_as y) (map kept_as before ++ drop n ls) r) b (subst (λ z. IsListDifference (map kept_as before ++ map kept_as after) (map kept_as before ++ z) r) c h)))
