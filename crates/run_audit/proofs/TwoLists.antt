-- The first difference between two lists of entries, each in the order of cells.
use Rattle.std.proofs.Common.{◌≡◌, ℕ, Bool, true, false, true≢false, List, [], ◌∷◌, ◌++◌, length, take, refl, sym, ap, subst, ◌∙◌}
use Rattle.std.specs.Prelude.{Option, Some, None, slice_get, ◌≢◌, if◌then◌else◌}
use Rattle.std.specs.Ordering.{is_lt}
use Rattle.wedge_events.specs.Journals.{cell_of}
use Rattle.wedge_events.specs.declared.events.CellName.{CellName}
use Rattle.wedge_events.specs.declared.events.CellName.TheVariants as cell
use Rattle.wedge_events.specs.declared.events.LogEntry.{LogEntry}
use Rattle.stable_sort.proofs.Sorted.{IsLow, Rises}
use Rattle.thread_laws.specs.Auditing.{DifferAt}
use Rattle.thread_laws.specs.Histories.{is_of, entries_on}
use Rattle.run_audit.specs.CellOrder.{cell_order, comes_first, by_cell}
use Rattle.run_audit.specs.Orders.{entries_ordered}
use Rattle.run_audit.specs.ListDifferences.{IsFirstInLists, IsListDifference}
use Rattle.run_audit.specs.declared.fault.Difference.{Difference}
use Rattle.run_audit.proofs.CellKeys.{not_itself, is_here, of_is}

pub on-append : (name : CellName) (xs ys : List LogEntry) → entries_on name (xs ++ ys) ≡ entries_on name xs ++ entries_on name ys
on-append name [] ys = refl
on-append name (x ∷ xs) ys = by_own (is_of name x.event) (on-append name xs ys)
  where
    by_own : (t : Bool) → entries_on name (xs ++ ys) ≡ entries_on name xs ++ entries_on name ys
        → (if t then x ∷ entries_on name (xs ++ ys) else entries_on name (xs ++ ys)) ≡ (if t then x ∷ entries_on name xs else entries_on name xs) ++ entries_on name ys
    by_own true others = ap (λ zs. x ∷ zs) others
    by_own false others = others

-- none is of a cell before this one
abbrev pub AreLate : Option CellName → List LogEntry → Type 0
AreLate c [] = Unit {0}
AreLate c (y ∷ ys) = (is_lt (cell_order (cell_of y.event) c) ≡ false) × AreLate c ys

low_late : (x : LogEntry) (ys : List LogEntry) → IsLow by_cell entries_ordered x ys → AreLate (cell_of x.event) ys
low_late x [] h = tt
low_late x (y ∷ ys) h = (h.0, low_late x ys h.1)

-- a list that rises is from the cell of its first on
pub from_first : (x : LogEntry) (xs : List LogEntry) → Rises by_cell entries_ordered (x ∷ xs) → AreLate (cell_of x.event) (x ∷ xs)
from_first x xs h = (not_itself (cell_of x.event), low_late x xs h.0)

none_of : (name : CellName) (c : Option CellName) (y : LogEntry) (t : Bool) → is_of name y.event ≡ t → is_lt (cell_order (cell_of y.event) c) ≡ false → is_lt (cell_order (Some name) c) ≡ true → t ≡ false
none_of name c y true own late before = absurd (true≢false (sym before ∙ (ap (λ d. is_lt (cell_order d c)) (sym (of_is name y.event own)) ∙ late)))
none_of name c y false own late before = refl

pub none_late : (name : CellName) (c : Option CellName) (ys : List LogEntry) → AreLate c ys → is_lt (cell_order (Some name) c) ≡ true → entries_on name ys ≡ []
none_late name c [] late before = refl
none_late name c (y ∷ ys) late before =
    ap (λ t. if t then y ∷ entries_on name ys else entries_on name ys) (none_of name c y (is_of name y.event) refl late.0 before) ∙ none_late name c ys late.1 before

-- what is late of a cell is late of one before it
late_too : (c d : Option CellName) (ys : List LogEntry) → ((y : LogEntry) → is_lt (cell_order (cell_of y.event) d) ≡ false → is_lt (cell_order (cell_of y.event) c) ≡ false) → AreLate d ys → AreLate c ys
late_too c d [] f h = tt
late_too c d (y ∷ ys) f h = (f y h.0, late_too c d ys f h.1)

abbrev pub first_on : CellName → List LogEntry → Option LogEntry
first_on name ys = slice_get (entries_on name ys) 0

take_front : (xs ys : List LogEntry) → take (length xs) (xs ++ ys) ≡ xs
take_front [] ys = refl
take_front (x ∷ xs) ys = ap (λ zs. x ∷ zs) (take_front xs ys)

get_behind : (xs ys : List LogEntry) → slice_get (xs ++ ys) (length xs) ≡ slice_get ys 0
get_behind [] ys = refl
get_behind (x ∷ xs) ys = get_behind xs ys

pub differ_at : (name : CellName) (pre xs ys : List LogEntry) (x y : Option LogEntry) → first_on name xs ≡ x → first_on name ys ≡ y → x ≢ y
    → DifferAt (entries_on name (pre ++ xs)) (entries_on name (pre ++ ys)) (length (entries_on name pre)) x y
differ_at name pre xs ys x y one two apart =
    let p = entries_on name pre in
    let a = on-append name pre xs in
    let b = on-append name pre ys in
    record {
      same_before = ap (take (length p)) a ∙ (take_front p (entries_on name xs) ∙ sym (ap (take (length p)) b ∙ take_front p (entries_on name ys)));
      first_ = ap (λ zs. slice_get zs (length p)) a ∙ (get_behind p (entries_on name xs) ∙ one);
      second_ = ap (λ zs. slice_get zs (length p)) b ∙ (get_behind p (entries_on name ys) ∙ two);
      apart = apart;
    }

pub same_before : (name : CellName) (c : Option CellName) (pre xs ys : List LogEntry) → AreLate c xs → AreLate c ys → is_lt (cell_order (Some name) c) ≡ true → entries_on name (pre ++ xs) ≡ entries_on name (pre ++ ys)
same_before name c pre xs ys late others before =
    on-append name pre xs
    ∙ (ap (λ zs. entries_on name pre ++ zs) (none_late name c xs late before ∙ sym (none_late name c ys others before)) ∙ sym (on-append name pre ys))

first_here : (name : CellName) (x : LogEntry) (xs : List LogEntry) → cell_of x.event ≡ Some name → first_on name (x ∷ xs) ≡ Some x
first_here name x xs own = ap (λ t. slice_get (if t then x ∷ entries_on name xs else entries_on name xs) 0) (is_here x.event name own)

first_none : (name : CellName) (c : Option CellName) (ys : List LogEntry) → AreLate c ys → is_lt (cell_order (Some name) c) ≡ true → first_on name ys ≡ None
first_none name c ys late before = ap (λ zs. slice_get zs 0) (none_late name c ys late before)

-- ---- the cases

-- what comes after what is not before a cell is not before it
open_chain : (x y z : LogEntry) → by_cell x y ≡ false → by_cell y z ≡ false → by_cell x z ≡ false
open_chain x y z h k = entries_ordered.chain x y z h k

late_before : (x l : LogEntry) (ls : List LogEntry) → by_cell x l ≡ true → AreLate (cell_of l.event) ls → AreLate (cell_of x.event) ls
late_before x l ls before h = late_too (cell_of x.event) (cell_of l.event) ls (λ y late. open_chain y l x late (entries_ordered.one_way x l before)) h

-- one list has an entry there, and the other goes on later or has ended
pub one_alone : (name : CellName) (pre : List LogEntry) (x : LogEntry) (xs ys : List LogEntry) → cell_of x.event ≡ Some name → Rises by_cell entries_ordered (x ∷ xs) → AreLate (cell_of x.event) ys → first_on name ys ≡ None
    → DifferAt (entries_on name (pre ++ x ∷ xs)) (entries_on name (pre ++ ys)) (length (entries_on name pre)) (Some x) None
    × ((other : CellName) → comes_first other name ≡ true → entries_on other (pre ++ x ∷ xs) ≡ entries_on other (pre ++ ys))
one_alone name pre x xs ys own rise late none = (
  differ_at name pre (x ∷ xs) ys (Some x) None (first_here name x xs own) none (λ e. absurd cc),
  λ other before. same_before other (cell_of x.event) pre (x ∷ xs) ys (from_first x xs rise) late (ap (λ c. is_lt (cell_order (Some other) c)) own ∙ before),
)

-- the other has ended, or goes on later
pub ended_none : (name : CellName) → first_on name [] ≡ None
ended_none name = refl

pub later_none : (name : CellName) (x l : LogEntry) (ls : List LogEntry) → cell_of x.event ≡ Some name → by_cell x l ≡ true → Rises by_cell entries_ordered (l ∷ ls) → first_on name (l ∷ ls) ≡ None
later_none name x l ls own before rise = first_none name (cell_of l.event) (l ∷ ls) (from_first l ls rise) (ap (λ c. is_lt (cell_order c (cell_of l.event))) (sym own) ∙ before)

pub later_late : (x l : LogEntry) (ls : List LogEntry) → by_cell x l ≡ true → Rises by_cell entries_ordered (l ∷ ls) → AreLate (cell_of x.event) (l ∷ ls)
later_late x l ls before rise = late_before x l (l ∷ ls) before (from_first l ls rise)

-- both have an entry of the cell there, and they are not equal
pub both_there : (name : CellName) (pre : List LogEntry) (x y : LogEntry) (xs ys : List LogEntry) → cell_of x.event ≡ Some name → cell_of y.event ≡ Some name → Rises by_cell entries_ordered (x ∷ xs) → Rises by_cell entries_ordered (y ∷ ys) → x ≢ y
    → DifferAt (entries_on name (pre ++ x ∷ xs)) (entries_on name (pre ++ y ∷ ys)) (length (entries_on name pre)) (Some x) (Some y)
    × ((other : CellName) → comes_first other name ≡ true → entries_on other (pre ++ x ∷ xs) ≡ entries_on other (pre ++ y ∷ ys))
both_there name pre x y xs ys own others rise rises apart = (
  differ_at name pre (x ∷ xs) (y ∷ ys) (Some x) (Some y) (first_here name x xs own) (first_here name y ys others) (λ e. let one : x ≡ y = cc in apart one),
  λ other before.
      same_before other (Some name) pre (x ∷ xs) (y ∷ ys) (subst (λ c. AreLate c (x ∷ xs)) own (from_first x xs rise)) (subst (λ c. AreLate c (y ∷ ys)) others (from_first y ys rises)) before,
)

flip : {xs ys : List LogEntry} {n : ℕ} {x y : Option LogEntry} → DifferAt xs ys n x y → DifferAt ys xs n y x
flip d = record { same_before = sym d.same_before; first_ = d.second_; second_ = d.first_; apart = λ e. d.apart (sym e) }

before_none : (name : CellName) → is_lt (cell_order (Some name) None) ≡ true
before_none cell.Slots = refl
before_none (cell.Slot s) = refl
before_none cell.Fds = refl
before_none (cell.Fd n) = refl
before_none cell.Lives = refl
before_none (cell.Gate g) = refl

-- ---- in terms of a difference

pub kept_alone : (pre xs : List LogEntry) (x : LogEntry) (ys : List LogEntry) (d : Difference) → cell_of x.event ≡ Some d.cell → d.index ≡ length (entries_on d.cell pre) → d.kept ≡ Some x → d.logged ≡ None
    → Rises by_cell entries_ordered (x ∷ xs) → AreLate (cell_of x.event) ys → first_on d.cell ys ≡ None → IsFirstInLists (pre ++ x ∷ xs) (pre ++ ys) d
kept_alone pre xs x ys d own index k l rise late none =
    let both = one_alone d.cell pre x xs ys own rise late none in
    record {
      differ = subst (λ n. DifferAt (entries_on d.cell (pre ++ x ∷ xs)) (entries_on d.cell (pre ++ ys)) n d.kept d.logged) (sym index)
          (subst (λ o. DifferAt (entries_on d.cell (pre ++ x ∷ xs)) (entries_on d.cell (pre ++ ys)) (length (entries_on d.cell pre)) o d.logged) (sym k)
          (subst (λ o. DifferAt (entries_on d.cell (pre ++ x ∷ xs)) (entries_on d.cell (pre ++ ys)) (length (entries_on d.cell pre)) (Some x) o) (sym l) both.0));
      first = both.1;
    }

pub logged_alone : (pre xs : List LogEntry) (y : LogEntry) (ys : List LogEntry) (d : Difference) → cell_of y.event ≡ Some d.cell → d.index ≡ length (entries_on d.cell pre) → d.kept ≡ None → d.logged ≡ Some y
    → Rises by_cell entries_ordered (y ∷ ys) → AreLate (cell_of y.event) xs → first_on d.cell xs ≡ None → IsFirstInLists (pre ++ xs) (pre ++ y ∷ ys) d
logged_alone pre xs y ys d own index k l rise late none =
    let both = one_alone d.cell pre y ys xs own rise late none in
    record {
      differ = subst (λ n. DifferAt (entries_on d.cell (pre ++ xs)) (entries_on d.cell (pre ++ y ∷ ys)) n d.kept d.logged) (sym index)
          (subst (λ o. DifferAt (entries_on d.cell (pre ++ xs)) (entries_on d.cell (pre ++ y ∷ ys)) (length (entries_on d.cell pre)) o d.logged) (sym k)
          (subst (λ o. DifferAt (entries_on d.cell (pre ++ xs)) (entries_on d.cell (pre ++ y ∷ ys)) (length (entries_on d.cell pre)) None o) (sym l) (flip both.0)));
      first = λ other before. sym (both.1 other before);
    }

pub two_there : (pre xs ys : List LogEntry) (x y : LogEntry) (d : Difference) → cell_of x.event ≡ Some d.cell → cell_of y.event ≡ Some d.cell → d.index ≡ length (entries_on d.cell pre) → d.kept ≡ Some x → d.logged ≡ Some y
    → Rises by_cell entries_ordered (x ∷ xs) → Rises by_cell entries_ordered (y ∷ ys) → x ≢ y → IsFirstInLists (pre ++ x ∷ xs) (pre ++ y ∷ ys) d
two_there pre xs ys x y d own others index k l rise rises apart =
    let both = both_there d.cell pre x y xs ys own others rise rises apart in
    record {
      differ = subst (λ n. DifferAt (entries_on d.cell (pre ++ x ∷ xs)) (entries_on d.cell (pre ++ y ∷ ys)) n d.kept d.logged) (sym index)
          (subst (λ o. DifferAt (entries_on d.cell (pre ++ x ∷ xs)) (entries_on d.cell (pre ++ y ∷ ys)) (length (entries_on d.cell pre)) o d.logged) (sym k)
          (subst (λ o. DifferAt (entries_on d.cell (pre ++ x ∷ xs)) (entries_on d.cell (pre ++ y ∷ ys)) (length (entries_on d.cell pre)) (Some x) o) (sym l) both.0));
      first = both.1;
    }

-- the kept entries have ended, and the logged ones, or those that are left are of no cell
pub all_ended : (pre : List LogEntry) → IsListDifference (pre ++ []) (pre ++ []) None
all_ended pre name = refl

pub rest_lone : (pre : List LogEntry) (y : LogEntry) (ys : List LogEntry) → cell_of y.event ≡ None → Rises by_cell entries_ordered (y ∷ ys) → IsListDifference (pre ++ []) (pre ++ y ∷ ys) None
rest_lone pre y ys lone rise name = same_before name None pre [] (y ∷ ys) tt (subst (λ c. AreLate c (y ∷ ys)) lone (from_first y ys rise)) (before_none name)
