-- What a comparison of all cells but the slots of declared tags says of all cells.
use Rattle.std.proofs.Common.{◌≡◌, ℕ, ◌+◌, ◌<◌, Bool, true, false, true≢false, not, cond, List, [], ◌∷◌, ◌++◌, length, take, refl, sym, ap, subst, ◌∙◌, append-nil}
use Rattle.std.proofs.lemmas.Bool.{eqb-true, lt-ltb, ltb-true}
use Rattle.std.proofs.lemmas.List.Elements.{filter_more}
use Rattle.std.specs.Prelude.{Option, Some, None, nat_lt, find, slice_get, slice_index_or, if◌then◌else◌}
use Rattle.wedge_events.specs.declared.cells.SlotAsk.{SlotAsk}
use Rattle.wedge_events.specs.declared.cells.SlotReply.{SlotReply}
use Rattle.wedge_events.specs.declared.events.CellName.{CellName}
use Rattle.wedge_events.specs.declared.events.CellName.TheVariants as cell
use Rattle.wedge_events.specs.declared.events.Event.{Event}
use Rattle.wedge_events.specs.declared.events.Event.TheVariants as event
use Rattle.wedge_events.specs.declared.events.LogEntry.{LogEntry}
use Rattle.thread_laws.specs.Auditing.{DifferAt}
use Rattle.thread_laws.specs.Histories.{is_of, entries_on}
use Rattle.journal_cell.specs.declared.entry.Entry.{Entry}
use Rattle.thread_laws.specs.Replaying.{cell_in, same_cell, entries_kept_in, history_of, all_histories}
use Rattle.thread_laws.specs.Joining.{AgreeOn, Agrees, journal_of}
use Rattle.thread_laws.specs.declared.gathered.ActorLog.{ActorLog}
use Rattle.thread_laws.specs.declared.gathered.CellHistory.{CellHistory}
use Rattle.thread_laws.specs.declared.gathered.CellHistory.TheVariants as history
use Rattle.thread_laws.specs.declared.gathered.Gathered.{Gathered}
use Rattle.thread_laws.proofs.Replaying.{cell_is}
use Rattle.thread_laws.specs.KeptEntries.{is_on_declared, entries_elsewhere, AreKept}
use Rattle.tag_laws.specs.DeclaredTags.{IsDeclared}
use Rattle.run_audit.specs.CellOrder.{comes_first}
use Rattle.run_audit.specs.ComparedCells.{is_of_declared, compared_histories, KeepCompared, IsUndeclared, DeclaredAgree}
use Rattle.run_audit.specs.Differences.{IsComparison, IsFirstDifference}
use Rattle.run_audit.specs.declared.fault.Difference.{Difference}
use Rattle.run_audit.proofs.DeclaredHistories.{compared_of_all}
use Rattle.run_audit.proofs.KeptInLogs.{run_compared}

-- ---- the cells that are left out

-- whether a cell is one of the first n slots
abbrev is_declared_slot : ℕ → CellName → Bool
is_declared_slot n (cell.Slot s) = nat_lt s n
is_declared_slot n c = false

declared_true : (n : ℕ) (name : CellName) → IsDeclared n name → is_declared_slot n name ≡ true
declared_true n (cell.Slot s) h = lt-ltb s n h
declared_true n cell.Slots h = absurd h
declared_true n cell.Fds h = absurd h
declared_true n (cell.Fd m) h = absurd h
declared_true n cell.Lives h = absurd h
declared_true n (cell.Gate g) h = absurd h

true_declared : (n : ℕ) (name : CellName) → is_declared_slot n name ≡ true → IsDeclared n name
true_declared n (cell.Slot s) h = ltb-true s n h
true_declared n cell.Slots h = absurd cc
true_declared n cell.Fds h = absurd cc
true_declared n (cell.Fd m) h = absurd cc
true_declared n cell.Lives h = absurd cc
true_declared n (cell.Gate g) h = absurd cc

not_true : (t : Bool) → (t ≡ true → ⊥) → t ≡ false
not_true true h = absurd (h refl)
not_true false h = refl

undeclared_false : (n : ℕ) (name : CellName) → IsUndeclared n name → is_declared_slot n name ≡ false
undeclared_false n name h = not_true (is_declared_slot n name) (λ e. h (true_declared n name e))

-- an event is on one of the first n slots if its cell is one, and a history is that of one
on_declared : (n : ℕ) (name : CellName) (e : Event) → is_of name e ≡ true → is_on_declared n e ≡ is_declared_slot n name
on_declared n cell.Slots (event.Slots q r) h = refl
on_declared n (cell.Slot s) (event.Slot slot q r) h = ap (λ m. nat_lt m n) (eqb-true slot s h)
on_declared n cell.Fds (event.Fds q r) h = refl
on_declared n (cell.Fd m) (event.Fd fd q r) h = refl
on_declared n cell.Lives (event.Lives q r) h = refl
on_declared n (cell.Gate g) (event.Gate id q r) h = refl
on_declared n name e h = absurd cc

own_declared : (n : ℕ) (h : CellHistory) → is_of_declared n h ≡ is_declared_slot n (cell_in h)
own_declared n (history.Slots es) = refl
own_declared n (history.Slot slot es) = refl
own_declared n (history.Fds es) = refl
own_declared n (history.Fd fd es) = refl
own_declared n (history.Lives es) = refl
own_declared n (history.Gate id es) = refl

of_declared : (n : ℕ) (name : CellName) (h : CellHistory) → same_cell (cell_in h) name ≡ true → is_of_declared n h ≡ is_declared_slot n name
of_declared n name h own = own_declared n h ∙ ap (is_declared_slot n) (cell_is (cell_in h) name own)

-- ---- one more of a list

pub histories_more : (n : ℕ) (hs : List CellHistory) (k : ℕ) (d : CellHistory) → k < length hs → is_of_declared n (slice_index_or hs k d) ≡ false → compared_histories n (take (k + 1) hs) ≡ compared_histories n (take k hs) ++ slice_index_or hs k d ∷ []
histories_more n hs k d less here = filter_more (λ (h : CellHistory). not (is_of_declared n h)) hs k d less ∙ ap (λ t. compared_histories n (take k hs) ++ cond (not t) (slice_index_or hs k d ∷ []) []) here

pub histories_over : (n : ℕ) (hs : List CellHistory) (k : ℕ) (d : CellHistory) → k < length hs → is_of_declared n (slice_index_or hs k d) ≡ true → compared_histories n (take (k + 1) hs) ≡ compared_histories n (take k hs)
histories_over n hs k d less here =
    filter_more (λ (h : CellHistory). not (is_of_declared n h)) hs k d less ∙ (ap (λ t. compared_histories n (take k hs) ++ cond (not t) (slice_index_or hs k d ∷ []) []) here ∙ append-nil (compared_histories n (take k hs)))

-- ---- entries

-- those on another cell are all there
entries_kept : (n : ℕ) (name : CellName) → is_declared_slot n name ≡ false → (es : List LogEntry) → entries_on name (entries_elsewhere n es) ≡ entries_on name es
entries_kept n name other [] = refl
entries_kept n name other (e ∷ es) = by_test (is_on_declared n e.event) refl (entries_kept n name other es)
  where
    by_test : (t : Bool) → is_on_declared n e.event ≡ t → entries_on name (entries_elsewhere n es) ≡ entries_on name es
        → entries_on name (cond (not t) (e ∷ entries_elsewhere n es) (entries_elsewhere n es)) ≡ entries_on name (e ∷ es)
    by_test false is rest = ap (λ zs. if is_of name e.event then e ∷ zs else zs) rest
    by_test true is rest =
        let not_own = not_true (is_of name e.event) (λ own. true≢false (sym is ∙ (on_declared n name e.event own ∙ other))) in
        rest ∙ sym (ap (λ t. if t then e ∷ entries_on name es else entries_on name es) not_own)

-- and those on one of the first slots are not
entries_out : (n : ℕ) (name : CellName) → is_declared_slot n name ≡ true → (es : List LogEntry) → entries_on name (entries_elsewhere n es) ≡ []
entries_out n name own [] = refl
entries_out n name own (e ∷ es) = by_test (is_on_declared n e.event) refl (entries_out n name own es)
  where
    by_test : (t : Bool) → is_on_declared n e.event ≡ t → entries_on name (entries_elsewhere n es) ≡ []
        → entries_on name (cond (not t) (e ∷ entries_elsewhere n es) (entries_elsewhere n es)) ≡ []
    by_test false is rest =
        let not_own = not_true (is_of name e.event) (λ here. true≢false (sym own ∙ (sym (on_declared n name e.event here) ∙ is))) in
        ap (λ t. if t then e ∷ entries_on name (entries_elsewhere n es) else entries_on name (entries_elsewhere n es)) not_own ∙ rest
    by_test true is rest = rest

-- ---- histories

history_kept : (n : ℕ) (name : CellName) → is_declared_slot n name ≡ false → (hs : List CellHistory) → history_of (compared_histories n hs) name ≡ history_of hs name
history_kept n name other [] = refl
history_kept n name other (h ∷ hs) = by_test (is_of_declared n h) refl (history_kept n name other hs)
  where
    by_name : (t : Bool) → history_of (compared_histories n hs) name ≡ history_of hs name
        → entries_kept_in (if t then Some h else find (λ j. same_cell (cell_in j) name) (compared_histories n hs)) ≡ entries_kept_in (if t then Some h else find (λ j. same_cell (cell_in j) name) hs)
    by_name true rest = refl
    by_name false rest = rest

    by_test : (t : Bool) → is_of_declared n h ≡ t → history_of (compared_histories n hs) name ≡ history_of hs name
        → history_of (cond (not t) (h ∷ compared_histories n hs) (compared_histories n hs)) name ≡ history_of (h ∷ hs) name
    by_test false is rest = by_name (same_cell (cell_in h) name) rest
    by_test true is rest =
        let not_own = not_true (same_cell (cell_in h) name) (λ own. true≢false (sym is ∙ (of_declared n name h own ∙ other))) in
        rest ∙ sym (ap (λ t. entries_kept_in (if t then Some h else find (λ j. same_cell (cell_in j) name) hs)) not_own)

history_out : (n : ℕ) (name : CellName) → is_declared_slot n name ≡ true → (hs : List CellHistory) → history_of (compared_histories n hs) name ≡ []
history_out n name own [] = refl
history_out n name own (h ∷ hs) = by_test (is_of_declared n h) refl (history_out n name own hs)
  where
    by_test : (t : Bool) → is_of_declared n h ≡ t → history_of (compared_histories n hs) name ≡ []
        → history_of (cond (not t) (h ∷ compared_histories n hs) (compared_histories n hs)) name ≡ []
    by_test false is rest =
        let not_own = not_true (same_cell (cell_in h) name) (λ here. true≢false (sym own ∙ (sym (of_declared n name h here) ∙ is))) in
        ap (λ t. entries_kept_in (if t then Some h else find (λ j. same_cell (cell_in j) name) (compared_histories n hs))) not_own ∙ rest
    by_test true is rest = rest

-- ---- the comparison

-- where it finds no difference, all other cells agree
pub others_agree : (n : ℕ) (cells : List CellHistory) (es : List LogEntry) → IsComparison (compared_histories n cells) (entries_elsewhere n es) None → (name : CellName) → IsUndeclared n name → history_of cells name ≡ entries_on name es
others_agree n cells es same name other =
    let left_in = undeclared_false n name other in
    sym (history_kept n name left_in cells) ∙ (same name ∙ entries_kept n name left_in es)

-- where the first slots agree as well, all do
pub all_agree : (g : Gathered) → DeclaredAgree g → AgreeOn (IsUndeclared (length g.declared)) g.logs (all_histories g) → Agrees g.logs (all_histories g)
all_agree g first others name all = by_test (is_declared_slot (length g.declared) name) refl
  where
    by_test : (t : Bool) → is_declared_slot (length g.declared) name ≡ t → history_of (all_histories g) name ≡ entries_on name (journal_of g.logs)
    by_test true own = first name (true_declared (length g.declared) name own)
    by_test false other = others name (λ own. true≢false (sym (declared_true (length g.declared) name own) ∙ other))

-- a difference is at another cell
pub at_another : (n : ℕ) (cells : List CellHistory) (es : List LogEntry) (d : Difference) → IsComparison (compared_histories n cells) (entries_elsewhere n es) (Some d) → IsUndeclared n d.cell
at_another n cells es d h own =
    let left_out = declared_true n d.cell own in
    h.differ.apart (sym h.differ.first_ ∙ (ap (λ zs. slice_get zs d.index) (history_out n d.cell left_out cells ∙ sym (entries_out n d.cell left_out es)) ∙ h.differ.second_))

-- and it is the first of all where the first slots agree
pub first_of_all : (n : ℕ) (cells : List CellHistory) (es : List LogEntry) (d : Difference) → IsComparison (compared_histories n cells) (entries_elsewhere n es) (Some d) → ((name : CellName) → IsDeclared n name → history_of cells name ≡ entries_on name es) → IsFirstDifference es cells d
first_of_all n cells es d h agree =
    let left_in = undeclared_false n d.cell (at_another n cells es d h) in
    record {
      differ = subst (λ xs. DifferAt xs (entries_on d.cell es) d.index d.kept d.logged) (history_kept n d.cell left_in cells)
          (subst (λ ys. DifferAt (history_of (compared_histories n cells) d.cell) ys d.index d.kept d.logged) (entries_kept n d.cell left_in es) h.differ);
      first = λ name before. by_test name before (is_declared_slot n name) refl;
    }
  where
    by_test : (name : CellName) → comes_first name d.cell ≡ true → (t : Bool) → is_declared_slot n name ≡ t → history_of cells name ≡ entries_on name es
    by_test name before true own = agree name (true_declared n name own)
    by_test name before false other = sym (history_kept n name other cells) ∙ (h.first name before ∙ entries_kept n name other es)

-- ---- of what was gathered, by the slices of it

pub of_gathered : (g : Gathered) (ess : List (List (Entry SlotAsk SlotReply))) (slices : List ActorLog) (listed : List CellHistory) (es items : List LogEntry) (o r : Option Difference) → ess ≡ g.declared → slices ≡ g.logs → listed ≡ g.others → es ≡ items
    → items ≡ entries_elsewhere (length ess) (journal_of slices) → o ≡ r → IsComparison (compared_histories (length ess) listed) es o → IsComparison (compared_histories (length g.declared) (all_histories g)) (entries_elsewhere (length g.declared) (journal_of g.logs)) r
of_gathered g ess slices listed es items o r a b c d e f h =
    let n = length g.declared in
    let whole : es ≡ entries_elsewhere n (journal_of g.logs) = d ∙ (e ∙ (λ k. entries_elsewhere (length (a k)) (journal_of (b k)))) in
    subst (λ hs. IsComparison hs (entries_elsewhere n (journal_of g.logs)) r) (sym (compared_of_all g))
    (subst (λ x. IsComparison (compared_histories n g.others) (entries_elsewhere n (journal_of g.logs)) x) f
    (subst (λ x. IsComparison (compared_histories n g.others) x o) whole
    (subst (λ x. IsComparison (compared_histories n x) es o) c
    (subst (λ x. IsComparison (compared_histories (length x) listed) es o) a h))))

-- the logs keep what is compared of them
pub keep_gathered : (g : Gathered) (ess : List (List (Entry SlotAsk SlotReply))) (slices : List ActorLog) → ess ≡ g.declared → slices ≡ g.logs → AreKept g → KeepCompared (length ess) slices
keep_gathered g ess slices a b kept =
    subst (λ x. KeepCompared (length x) slices) (sym a) (subst (λ x. KeepCompared (length g.declared) x) (sym b) (run_compared g kept))
