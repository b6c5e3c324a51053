-- The entries of histories that are sorted by their cells.
use Rattle.std.proofs.Common.{◌≡◌, Bool, true, false, true≢false, not, ◌&&◌, List, [], ◌∷◌, ◌++◌, refl, sym, ap, subst, ◌∙◌, append-nil}
use Rattle.std.specs.Prelude.{Option, Some, None, find, if◌then◌else◌}
use Rattle.std.specs.List.{filter}
use Rattle.std.specs.List.Sorted.{ties, IsSortedBy, IsStableBy}
use Rattle.std.specs.Ordering.{is_lt}
use Rattle.wedge_events.specs.Journals.{cell_of}
use Rattle.wedge_events.specs.declared.events.CellName.{CellName}
use Rattle.wedge_events.specs.declared.events.CellName.TheVariants as cell
use Rattle.wedge_events.specs.declared.events.Event.{Event}
use Rattle.wedge_events.specs.declared.events.Event.TheVariants as event
use Rattle.wedge_events.specs.declared.events.LogEntry.{LogEntry}
use Rattle.journal_cell.specs.declared.entry.Entry.{Entry}
use Rattle.stable_sort.proofs.Sorted.{IsLow, Rises, rises_if_sorted}
use Rattle.thread_laws.specs.Histories.{is_of, entries_on}
use Rattle.thread_laws.specs.Replaying.{logged_as, cell_in, logged, same_cell, entries_kept_in, history_of}
use Rattle.thread_laws.specs.declared.gathered.CellHistory.{CellHistory}
use Rattle.thread_laws.specs.declared.gathered.CellHistory.TheVariants as history
use Rattle.thread_laws.proofs.Replaying.{cell_is}
use Rattle.std.proofs.lemmas.Bool.{eq-eqb}
use Rattle.run_laws.proofs.KnownGates.{itself}
use Rattle.run_audit.specs.CellOrder.{cell_order, comes_first, by_cell}
use Rattle.run_audit.specs.HistoryEntries.{history_first, entries_behind, entries_kept}
use Rattle.run_audit.specs.Orders.{entries_ordered, histories_ordered}
use Rattle.run_audit.proofs.CellKeys.{level_cells, not_itself, is_here, of_is}

-- ---- the entries of one history are of its cell

abbrev pub AllOf : CellName → List LogEntry → Type 0
AllOf c [] = Unit {0}
AllOf c (e ∷ es) = (cell_of e.event ≡ Some c) × AllOf c es

as_all : {Q R : Type 0} (c : CellName) (make : Q → R → Event) → ((q : Q) (r : R) → cell_of (make q r) ≡ Some c) → (es : List (Entry Q R)) → AllOf c (logged_as make es)
as_all c make own [] = tt
as_all c make own (e ∷ es) = (own e.ask e.reply, as_all c make own es)

pub all_of : (h : CellHistory) → AllOf (cell_in h) (logged h)
all_of (history.Slots es) = as_all cell.Slots event.Slots (λ q r. refl) es
all_of (history.Slot slot es) = as_all (cell.Slot slot) (event.Slot slot) (λ q r. refl) es
all_of (history.Fds es) = as_all cell.Fds event.Fds (λ q r. refl) es
all_of (history.Fd fd es) = as_all (cell.Fd fd) (event.Fd fd) (λ q r. refl) es
all_of (history.Lives es) = as_all cell.Lives event.Lives (λ q r. refl) es
all_of (history.Gate id es) = as_all (cell.Gate id) (event.Gate id) (λ q r. refl) es

all_kept : (c : CellName) (es others : List LogEntry) → AllOf c es → entries_on c (es ++ others) ≡ es ++ entries_on c others
all_kept c [] others h = refl
all_kept c (e ∷ es) others h = ap (λ t. if t then e ∷ entries_on c (es ++ others) else entries_on c (es ++ others)) (is_here e.event c h.0) ∙ ap (λ zs. e ∷ zs) (all_kept c es others h.1)

is_not : (c name : CellName) (e : LogEntry) (t : Bool) → is_of name e.event ≡ t → cell_of e.event ≡ Some c → (c ≡ name → ⊥) → t ≡ false
is_not c name e true is own apart = let both : Some c ≡ Some name = sym own ∙ of_is name e.event is in let one : c ≡ name = cc in absurd (apart one)
is_not c name e false is own apart = refl

none_kept : (c name : CellName) (es others : List LogEntry) → AllOf c es → (c ≡ name → ⊥) → entries_on name (es ++ others) ≡ entries_on name others
none_kept c name [] others h apart = refl
none_kept c name (e ∷ es) others h apart =
    ap (λ t. if t then e ∷ entries_on name (es ++ others) else entries_on name (es ++ others)) (is_not c name e (is_of name e.event) refl h.0 apart)
    ∙ none_kept c name es others h.1 apart

-- ---- cells of one name

self_cell : (x : CellName) → comes_first x x ≡ false
self_cell x = not_itself (Some x)

level_names : (x y : CellName) → comes_first x y ≡ false → comes_first y x ≡ false → x ≡ y
level_names x y h k = let both : Some x ≡ Some y = level_cells (Some x) (Some y) h k in cc

first_apart : (x y : CellName) → comes_first x y ≡ true → x ≡ y → ⊥
first_apart x y first one = true≢false (sym first ∙ (ap (λ z. comes_first x z) (sym one) ∙ self_cell x))

abbrev named : CellHistory → CellName
named h = cell_in h

chain : (h k m : CellHistory) → history_first h k ≡ false → history_first k m ≡ false → history_first h m ≡ false
chain h k m a b = histories_ordered.chain h k m a b

-- a history of each cell
abbrev history_on : CellName → CellHistory
history_on cell.Slots = history.Slots []
history_on (cell.Slot s) = history.Slot s []
history_on cell.Fds = history.Fds []
history_on (cell.Fd n) = history.Fd n []
history_on cell.Lives = history.Lives []
history_on (cell.Gate g) = history.Gate g []

on_name : (name : CellName) → cell_in (history_on name) ≡ name
on_name cell.Slots = refl
on_name (cell.Slot s) = refl
on_name cell.Fds = refl
on_name (cell.Fd n) = refl
on_name cell.Lives = refl
on_name (cell.Gate g) = refl

-- what comes after a history is of later cells
none_behind : (h : CellHistory) (hs : List CellHistory) (name : CellName) → comes_first (cell_in h) name ≡ false → entries_on name (entries_behind h hs) ≡ []
none_behind h [] name late = refl
none_behind h (k ∷ ks) name late = by_first (history_first h k) refl (none_behind h ks name late) (none_behind k ks name)
  where
    by_first : (t : Bool) → history_first h k ≡ t → entries_on name (entries_behind h ks) ≡ [] → (comes_first (cell_in k) name ≡ false → entries_on name (entries_behind k ks) ≡ [])
        → entries_on name (if t then logged k ++ entries_behind k ks else entries_behind h ks) ≡ []
    by_first false first others own = others
    by_first true first others own =
        let late_too : comes_first (cell_in k) name ≡ false =
        subst (λ c. comes_first (cell_in k) c ≡ false) (on_name name) (chain k h (history_on name) (histories_ordered.one_way h k first) (subst (λ c. comes_first (cell_in h) c ≡ false) (sym (on_name name)) late)) in
        none_kept (cell_in k) name (logged k) (entries_behind k ks) (all_of k) (λ one. true≢false (sym (subst (λ c. comes_first (cell_in h) c ≡ true) one first) ∙ late)) ∙ own late_too

same_self : (x : CellName) → same_cell x x ≡ true
same_self cell.Slots = refl
same_self (cell.Slot s) = eq-eqb s s refl
same_self cell.Fds = refl
same_self (cell.Fd n) = eq-eqb n n refl
same_self cell.Lives = refl
same_self (cell.Gate g) = itself g

-- the entries after a history, of a cell that is not its own
found_behind : (h : CellHistory) (hs : List CellHistory) (name : CellName) → Rises history_first histories_ordered (h ∷ hs) → (cell_in h ≡ name → ⊥) → entries_on name (entries_behind h hs) ≡ history_of hs name
found_behind h [] name rise apart = refl
found_behind h (k ∷ ks) name rise apart =
    by_first (history_first h k) refl (same_cell (cell_in k) name) refl (found_behind h ks name (rise.0.1, rise.1.1) apart) (found_behind k ks name rise.1)
  where
    by_first : (t : Bool) → history_first h k ≡ t → (u : Bool) → same_cell (cell_in k) name ≡ u → entries_on name (entries_behind h ks) ≡ history_of ks name
        → ((cell_in k ≡ name → ⊥) → entries_on name (entries_behind k ks) ≡ history_of ks name)
        → entries_on name (if t then logged k ++ entries_behind k ks else entries_behind h ks) ≡ entries_kept_in (if u then Some k else find (λ j. same_cell (cell_in j) name) ks)
    by_first true first true own here others =
        let one = cell_is (cell_in k) name own in
        subst (λ c. entries_on c (logged k ++ entries_behind k ks) ≡ logged k) one
        (all_kept (cell_in k) (logged k) (entries_behind k ks) (all_of k) ∙ (ap (λ zs. logged k ++ zs) (none_behind k ks (cell_in k) (self_cell (cell_in k))) ∙ append-nil (logged k)))
    by_first true first false other here others =
        let not_one : cell_in k ≡ name → ⊥ = λ one. true≢false (sym (same_self name) ∙ (ap (λ c. same_cell c name) (sym one) ∙ other)) in
        none_kept (cell_in k) name (logged k) (entries_behind k ks) (all_of k) not_one ∙ others not_one
    by_first false first true own here others =
        absurd (apart (level_names (cell_in h) (cell_in k) first rise.0.0 ∙ cell_is (cell_in k) name own))
    by_first false first false other here others = here

pub found_kept : (hs : List CellHistory) (name : CellName) → Rises history_first histories_ordered hs → entries_on name (entries_kept hs) ≡ history_of hs name
found_kept [] name rise = refl
found_kept (h ∷ hs) name rise = by_own (same_cell (cell_in h) name) refl
  where
    by_own : (u : Bool) → same_cell (cell_in h) name ≡ u → entries_on name (logged h ++ entries_behind h hs) ≡ entries_kept_in (if u then Some h else find (λ j. same_cell (cell_in j) name) hs)
    by_own true own =
        let one = cell_is (cell_in h) name own in
        subst (λ c. entries_on c (logged h ++ entries_behind h hs) ≡ logged h) one
        (all_kept (cell_in h) (logged h) (entries_behind h hs) (all_of h) ∙ (ap (λ zs. logged h ++ zs) (none_behind h hs (cell_in h) (self_cell (cell_in h))) ∙ append-nil (logged h)))
    by_own false other =
        let not_one : cell_in h ≡ name → ⊥ = λ one. true≢false (sym (same_self name) ∙ (ap (λ c. same_cell c name) (sym one) ∙ other)) in
        none_kept (cell_in h) name (logged h) (entries_behind h hs) (all_of h) not_one ∙ found_behind h hs name rise not_one

-- ---- they rise by their cells

low_own : (c : CellName) (x : LogEntry) (es others : List LogEntry) → cell_of x.event ≡ Some c → AllOf c es → IsLow by_cell entries_ordered x others → IsLow by_cell entries_ordered x (es ++ others)
low_own c x [] others own all low = low
low_own c x (e ∷ es) others own all low =
    ((λ i. is_lt (cell_order (all.0 i) (own i))) ∙ self_cell c, low_own c x es others own all.1 low)

rises_own : (c : CellName) (es others : List LogEntry) → AllOf c es → ((x : LogEntry) → cell_of x.event ≡ Some c → IsLow by_cell entries_ordered x others) → Rises by_cell entries_ordered others → Rises by_cell entries_ordered (es ++ others)
rises_own c [] others all low rise = rise
rises_own c (e ∷ es) others all low rise = (low_own c e es others all.0 all.1 (low e all.0), rises_own c es others all.1 low rise)

low_late : (c : CellName) (x : LogEntry) (es others : List LogEntry) → is_lt (cell_order (Some c) (cell_of x.event)) ≡ false → AllOf c es → IsLow by_cell entries_ordered x others → IsLow by_cell entries_ordered x (es ++ others)
low_late c x [] others late all low = low
low_late c x (e ∷ es) others late all low = (ap (λ d. is_lt (cell_order d (cell_of x.event))) all.0 ∙ late, low_late c x es others late all.1 low)

low_behind : (d : CellName) (x : LogEntry) (h : CellHistory) (hs : List CellHistory) → cell_of x.event ≡ Some d → comes_first (cell_in h) d ≡ false → IsLow by_cell entries_ordered x (entries_behind h hs)
low_behind d x h [] own late = tt
low_behind d x h (k ∷ ks) own late = by_first (history_first h k) refl (low_behind d x h ks own late) (low_behind d x k ks own)
  where
    by_first : (t : Bool) → history_first h k ≡ t → IsLow by_cell entries_ordered x (entries_behind h ks) → (comes_first (cell_in k) d ≡ false → IsLow by_cell entries_ordered x (entries_behind k ks))
        → IsLow by_cell entries_ordered x (if t then logged k ++ entries_behind k ks else entries_behind h ks)
    by_first false first here others = here
    by_first true first here others =
        let late_too : comes_first (cell_in k) d ≡ false =
        subst (λ c. comes_first (cell_in k) c ≡ false) (on_name d) (chain k h (history_on d) (histories_ordered.one_way h k first) (subst (λ c. comes_first (cell_in h) c ≡ false) (sym (on_name d)) late)) in
        low_late (cell_in k) x (logged k) (entries_behind k ks) (ap (λ c. is_lt (cell_order (Some (cell_in k)) c)) own ∙ late_too) (all_of k) (others late_too)

rises_behind : (h : CellHistory) (hs : List CellHistory) → Rises by_cell entries_ordered (entries_behind h hs)
rises_behind h [] = tt
rises_behind h (k ∷ ks) = by_first (history_first h k) (rises_behind h ks) (rises_behind k ks)
  where
    by_first : (t : Bool) → Rises by_cell entries_ordered (entries_behind h ks) → Rises by_cell entries_ordered (entries_behind k ks) → Rises by_cell entries_ordered (if t then logged k ++ entries_behind k ks else entries_behind h ks)
    by_first false here others = here
    by_first true here others = rises_own (cell_in k) (logged k) (entries_behind k ks) (all_of k) (λ x own. low_behind (cell_in k) x k ks own (self_cell (cell_in k))) others

pub rises_kept : (hs : List CellHistory) → Rises by_cell entries_ordered (entries_kept hs)
rises_kept [] = tt
rises_kept (h ∷ hs) = rises_own (cell_in h) (logged h) (entries_behind h hs) (all_of h) (λ x own. low_behind (cell_in h) x h hs own (self_cell (cell_in h))) (rises_behind h hs)

-- ---- sorted by cells, the first history of each cell is the same

abbrev first_in : List CellHistory → Option CellHistory
first_in [] = None
first_in (h ∷ hs) = Some h

both_false : (a b : Bool) → not a && not b ≡ true → (a ≡ false) × (b ≡ false)
both_false false false h = (refl, refl)
both_false true b h = absurd cc
both_false false true h = absurd cc

tied : (h k : CellHistory) → cell_in h ≡ cell_in k → ties history_first h k ≡ true
tied h k one =
    let a : history_first h k ≡ false = ap (λ c. comes_first (cell_in h) c) (sym one) ∙ self_cell (cell_in h) in
    let b : history_first k h ≡ false = ap (λ c. comes_first c (cell_in h)) (sym one) ∙ self_cell (cell_in h) in
    (λ i. not (a i) && not (b i))

one_test : (s t : Bool) → (s ≡ true → t ≡ true) → (t ≡ true → s ≡ true) → s ≡ t
one_test true t f g = sym (f refl)
one_test false true f g = absurd (true≢false (sym (g refl)))
one_test false false f g = refl

named_ties : (name : CellName) (h : CellHistory) → same_cell (cell_in h) name ≡ ties history_first (history_on name) h
named_ties name h =
    one_test (same_cell (cell_in h) name) (ties history_first (history_on name) h) (λ e. tied (history_on name) h (on_name name ∙ sym (cell_is (cell_in h) name e)))
    (λ e.
    let p = both_false (history_first (history_on name) h) (history_first h (history_on name)) e in
    let one : cell_in (history_on name) ≡ cell_in h = level_names (cell_in (history_on name)) (cell_in h) p.0 p.1 in
    ap (λ c. same_cell c name) (sym one ∙ on_name name) ∙ same_self name)

find_first : (name : CellName) (hs : List CellHistory) → find (λ h. same_cell (cell_in h) name) hs ≡ first_in (filter (ties history_first (history_on name)) hs)
find_first name [] = refl
find_first name (h ∷ hs) = by_name (same_cell (cell_in h) name) (ties history_first (history_on name) h) (named_ties name h) (find_first name hs)
  where
    by_name : (s t : Bool) → s ≡ t → find (λ j. same_cell (cell_in j) name) hs ≡ first_in (filter (ties history_first (history_on name)) hs)
        → (if s then Some h else find (λ j. same_cell (cell_in j) name) hs) ≡ first_in (if t then h ∷ filter (ties history_first (history_on name)) hs else filter (ties history_first (history_on name)) hs)
    by_name true true e others = refl
    by_name true false e others = absurd cc
    by_name false true e others = absurd cc
    by_name false false e others = others

pub stable_histories : (hs ks : List CellHistory) → IsStableBy history_first hs ks → (name : CellName) → history_of ks name ≡ history_of hs name
stable_histories hs ks stable name = ap entries_kept_in (find_first name ks ∙ (ap first_in (stable (history_on name)) ∙ sym (find_first name hs)))

-- the entries of sorted histories rise, and those of each cell are its history
pub kept_in_order : (hs ks : List CellHistory) → IsSortedBy history_first ks → IsStableBy history_first hs ks → Rises by_cell entries_ordered (entries_kept ks) × ((name : CellName) → entries_on name (entries_kept ks) ≡ history_of hs name)
kept_in_order hs ks up stable = (rises_kept ks, λ name. found_kept ks name (rises_if_sorted history_first histories_ordered ks up) ∙ stable_histories hs ks stable name)
