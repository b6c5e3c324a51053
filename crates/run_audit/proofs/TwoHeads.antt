-- Where two lists of entries in the order of cells differ at their heads.
use Rattle.std.proofs.Common.{◌≡◌, true, List, [], ◌∷◌, ◌++◌, length, map, drop, ◌<◌, ◌≤◌, get_or, arith, refl, sym, ap, subst, ◌∙◌, Less, Equal, Greater}
use Rattle.std.specs.Prelude.{Option, Some, None, Result, Ok, Err, IfOk}
use Rattle.run_audit.specs.HistoryEntries.{kept_as}
use Rattle.run_audit.specs.declared.kept.KeptEntry.{KeptEntry}
use Rattle.std.specs.Ordering.{is_lt, ordering_reverse}
use Rattle.std.specs.declared.cmp.Ordering.{Ordering}
use Rattle.wedge_events.specs.Journals.{cell_of}
use Rattle.wedge_events.specs.declared.events.CellName.{CellName}
use Rattle.wedge_events.specs.declared.events.CellName.TheVariants as cell
use Rattle.wedge_events.specs.declared.events.LogEntry.{LogEntry}
use Rattle.stable_sort.proofs.Sorted.{IsLow, Rises}
use Rattle.run_audit.specs.CellOrder.{cell_order, by_cell}
use Rattle.run_audit.specs.Orders.{entries_ordered, cells_total}
use Rattle.run_audit.specs.ListDifferences.{NoneBelow, AreInCellOrder, IsEntryAt, IsLoggedOnly, IsListDifference, DifferHere}
use Rattle.run_audit.specs.declared.fault.Difference.{Difference}
use Rattle.run_audit.proofs.CellKeys.{equal_cells}
use Rattle.run_audit.proofs.TwoLists.{ended_none, later_none, later_late, kept_alone, logged_alone, two_there, rest_lone}

low_from : (x : LogEntry) (ys : List LogEntry) → NoneBelow x ys → IsLow by_cell entries_ordered x ys
low_from x [] h = tt
low_from x (y ∷ ys) h = (h.0, low_from x ys h.1)

pub rises_from : (xs : List LogEntry) → AreInCellOrder xs → Rises by_cell entries_ordered xs
rises_from [] h = tt
rises_from (x ∷ xs) h = (low_from x xs h.0, rises_from xs h.1)

low_to : (x : LogEntry) (ys : List LogEntry) → IsLow by_cell entries_ordered x ys → NoneBelow x ys
low_to x [] h = tt
low_to x (y ∷ ys) h = (h.0, low_to x ys h.1)

pub order_from : (xs : List LogEntry) → Rises by_cell entries_ordered xs → AreInCellOrder xs
order_from [] h = tt
order_from (x ∷ xs) h = (low_to x xs h.0, order_from xs h.1)

pub part_ended : (pre : List LogEntry) → IsListDifference (pre ++ []) (pre ++ []) None
part_ended pre name = refl

-- only logged entries are left
pub part_logged : (pre : List LogEntry) (y : LogEntry) (ys : List LogEntry) (r : Option Difference) → AreInCellOrder (y ∷ ys) → IsLoggedOnly pre y r → IsListDifference (pre ++ []) (pre ++ y ∷ ys) r
part_logged pre y ys None rise lone = rest_lone pre y ys lone (rises_from (y ∷ ys) rise)
part_logged pre y ys (Some d) rise at = logged_alone pre [] y ys d at.cell at.index at.kept at.logged (rises_from (y ∷ ys) rise) tt (ended_none d.cell)

-- only kept entries are left
pub part_kept : (pre : List LogEntry) (x : LogEntry) (xs : List LogEntry) (d : Difference) → AreInCellOrder (x ∷ xs) → IsEntryAt pre d x (Some x) None → IsListDifference (pre ++ x ∷ xs) (pre ++ []) (Some d)
part_kept pre x xs d rise at = kept_alone pre xs x [] d at.cell at.index at.kept at.logged (rises_from (x ∷ xs) rise) tt (ended_none d.cell)

pub part_less : (pre : List LogEntry) (x y : LogEntry) (xs ys : List LogEntry) (d : Difference) → AreInCellOrder (x ∷ xs) → AreInCellOrder (y ∷ ys) → cell_order (cell_of x.event) (cell_of y.event) ≡ Less → IsEntryAt pre d x (Some x) None
    → IsListDifference (pre ++ x ∷ xs) (pre ++ y ∷ ys) (Some d)
part_less pre x y xs ys d rise rises less at =
    let before : by_cell x y ≡ true = ap is_lt less in
    let later = rises_from (y ∷ ys) rises in
    kept_alone pre xs x (y ∷ ys) d at.cell at.index at.kept at.logged (rises_from (x ∷ xs) rise) (later_late x y ys before later) (later_none d.cell x y ys at.cell before later)

pub part_equal : (pre : List LogEntry) (x y : LogEntry) (xs ys : List LogEntry) (d : Difference) → AreInCellOrder (x ∷ xs) → AreInCellOrder (y ∷ ys) → cell_order (cell_of x.event) (cell_of y.event) ≡ Equal → DifferHere (x ∷ xs) (y ∷ ys) → IsEntryAt pre d x (Some x) (Some y)
    → IsListDifference (pre ++ x ∷ xs) (pre ++ y ∷ ys) (Some d)
part_equal pre x y xs ys d rise rises same apart at =
    two_there pre xs ys x y d at.cell (sym (equal_cells (cell_of x.event) (cell_of y.event) same) ∙ at.cell) at.index at.kept at.logged (rises_from (x ∷ xs) rise) (rises_from (y ∷ ys) rises) apart

turned : (o p : Ordering) → o ≡ ordering_reverse p → o ≡ Greater → is_lt p ≡ true
turned o Less e g = refl
turned o Equal e g = let f : Equal ≡ Greater = sym e ∙ g in absurd cc
turned o Greater e g = let f : Less ≡ Greater = sym e ∙ g in absurd cc

none_behind : (c : Option CellName) → cell_order c None ≡ Greater → ⊥
none_behind None h = absurd cc
none_behind (Some cell.Slots) h = absurd cc
none_behind (Some (cell.Slot s)) h = absurd cc
none_behind (Some cell.Fds) h = absurd cc
none_behind (Some (cell.Fd n)) h = absurd cc
none_behind (Some cell.Lives) h = absurd cc
none_behind (Some (cell.Gate g)) h = absurd cc

pub part_greater : (pre : List LogEntry) (x y : LogEntry) (xs ys : List LogEntry) (r : Option Difference) → AreInCellOrder (x ∷ xs) → AreInCellOrder (y ∷ ys) → cell_order (cell_of x.event) (cell_of y.event) ≡ Greater → IsLoggedOnly pre y r
    → IsListDifference (pre ++ x ∷ xs) (pre ++ y ∷ ys) r
part_greater pre x y xs ys None rise rises more lone = absurd (none_behind (cell_of x.event) (ap (λ c. cell_order (cell_of x.event) c) (sym lone) ∙ more))
part_greater pre x y xs ys (Some d) rise rises more at =
    let before : by_cell y x ≡ true = turned (cell_order (cell_of x.event) (cell_of y.event)) (cell_order (cell_of y.event) (cell_of x.event)) (cells_total.antisymm (cell_of x.event) (cell_of y.event)) more in
    let later = rises_from (x ∷ xs) rise in
    logged_alone pre (x ∷ xs) y ys d at.cell at.index at.kept at.logged (rises_from (y ∷ ys) rises) (later_late y x xs before later) (later_none d.cell y x xs at.cell before later)

-- ---- by the first items of slices

pub kept_first : (ks : List KeptEntry) (x : KeptEntry) → 1 ≤ length ks → x ≡ get_or ks 0 x → map kept_as ks ≡ kept_as x ∷ map kept_as (drop 1 ks)
kept_first [] x more is = absurd (omega (arith, more))
kept_first (k ∷ ks) x more is = ap (λ z. kept_as z ∷ map kept_as ks) (sym is)

pub logged_first : (ls : List LogEntry) (y : LogEntry) → 1 ≤ length ls → y ≡ get_or ls 0 y → ls ≡ y ∷ drop 1 ls
logged_first [] y more is = absurd (omega (arith, more))
logged_first (l ∷ ls) y more is = ap (λ z. z ∷ ls) (sym is)

pub kept_none : (ks : List KeptEntry) → length ks < 1 → map kept_as ks ≡ []
kept_none [] less = refl
kept_none (k ∷ ks) less = absurd (omega (arith, less))

pub logged_none : (ls : List LogEntry) → length ls < 1 → ls ≡ []
logged_none [] less = refl
logged_none (l ∷ ls) less = absurd (omega (arith, less))

both_as : (pre k l xs ys : List LogEntry) (r : Option Difference) → xs ≡ k → ys ≡ l → IsListDifference (pre ++ k) (pre ++ l) r → IsListDifference (pre ++ xs) (pre ++ ys) r
both_as pre k l xs ys r a b h = subst (λ z. IsListDifference (pre ++ z) (pre ++ ys) r) (sym a) (subst (λ z. IsListDifference (pre ++ k) (pre ++ z) r) (sym b) h)

pub logged_of : (pre k l : List LogEntry) (y : LogEntry) (ys : List LogEntry) (r : Option Difference) → k ≡ [] → l ≡ y ∷ ys → AreInCellOrder l → IsLoggedOnly pre y r → IsListDifference (pre ++ k) (pre ++ l) r
logged_of pre k l y ys r a b rise at = both_as pre [] (y ∷ ys) k l r a b (part_logged pre y ys r (subst AreInCellOrder b rise) at)

pub kept_of : (pre k l : List LogEntry) (x : LogEntry) (xs : List LogEntry) (d : Difference) → k ≡ x ∷ xs → l ≡ [] → AreInCellOrder k → IsEntryAt pre d x (Some x) None → IsListDifference (pre ++ k) (pre ++ l) (Some d)
kept_of pre k l x xs d a b rise at = both_as pre (x ∷ xs) [] k l (Some d) a b (part_kept pre x xs d (subst AreInCellOrder a rise) at)

pub less_of : (pre k l : List LogEntry) (x y : LogEntry) (xs ys : List LogEntry) (d : Difference) → k ≡ x ∷ xs → l ≡ y ∷ ys → AreInCellOrder k → AreInCellOrder l → cell_order (cell_of x.event) (cell_of y.event) ≡ Less → IsEntryAt pre d x (Some x) None
    → IsListDifference (pre ++ k) (pre ++ l) (Some d)
less_of pre k l x y xs ys d a b rise rises o at = both_as pre (x ∷ xs) (y ∷ ys) k l (Some d) a b (part_less pre x y xs ys d (subst AreInCellOrder a rise) (subst AreInCellOrder b rises) o at)

pub equal_of : (pre k l : List LogEntry) (x y : LogEntry) (xs ys : List LogEntry) (d : Difference) → k ≡ x ∷ xs → l ≡ y ∷ ys → AreInCellOrder k → AreInCellOrder l → cell_order (cell_of x.event) (cell_of y.event) ≡ Equal → DifferHere k l → IsEntryAt pre d x (Some x) (Some y)
    → IsListDifference (pre ++ k) (pre ++ l) (Some d)
equal_of pre k l x y xs ys d a b rise rises o apart at =
    both_as pre (x ∷ xs) (y ∷ ys) k l (Some d) a b (part_equal pre x y xs ys d (subst AreInCellOrder a rise) (subst AreInCellOrder b rises) o (subst (λ z. DifferHere z (y ∷ ys)) a (subst (λ z. DifferHere k z) b apart)) at)

pub greater_of : (pre k l : List LogEntry) (x y : LogEntry) (xs ys : List LogEntry) (r : Option Difference) → k ≡ x ∷ xs → l ≡ y ∷ ys → AreInCellOrder k → AreInCellOrder l → cell_order (cell_of x.event) (cell_of y.event) ≡ Greater → IsLoggedOnly pre y r
    → IsListDifference (pre ++ k) (pre ++ l) r
greater_of pre k l x y xs ys r a b rise rises o at = both_as pre (x ∷ xs) (y ∷ ys) k l r a b (part_greater pre x y xs ys r (subst AreInCellOrder a rise) (subst AreInCellOrder b rises) o at)

pub ok_map : {A E : Type 0} {P Q : A → Type 0} (r : Result A E) → IfOk r P → ((a : A) → P a → Q a) → IfOk r Q
ok_map (Ok a) h f = f a h
ok_map (Err e) h f = tt
