-- Passes of the cells of declared tags, and what these cells keep.
use Rattle.std.proofs.Common.{◌≡◌, ℕ, zero, suc, ◌+◌, ◌<◌, ◌≤◌, ◌==◌, Bool, true, false, cond, List, [], ◌∷◌, ◌++◌, length, map, find, Option, Some, None, IsPermutation, refl, sym, ap, subst, ◌∙◌, arith}
use Rattle.std.proofs.lemmas.Bool.Decides.{nat_tests}
use Rattle.std.proofs.lemmas.List.{append-nil, append_assoc}
use mathlib.Core.Option.{some, none}
use lib.ListN.{get_elem?}
use Rattle.wedge_events.specs.Slots.{Segment}
use Rattle.wedge_events.specs.declared.cells.SlotAsk.{SlotAsk}
use Rattle.wedge_events.specs.declared.cells.SlotReply.{SlotReply}
use Rattle.wedge_events.specs.declared.events.CellName.TheVariants as cell
use Rattle.wedge_events.specs.declared.events.Event.TheVariants as event
use Rattle.wedge_events.specs.declared.events.LogEntry.{LogEntry}
use Rattle.journal_cell.specs.Histories.{CellState}
use Rattle.journal_cell.specs.declared.entry.Entry.{Entry}
use Rattle.ruled_cell.specs.declared.visits.OwnVisit.{OwnVisit}
use Rattle.ruled_cell.specs.Visits.{entry_list, visit_at, own_visit}
use Rattle.ruled_cell.specs.declared.passes.PassView.{PassView}
use Rattle.ruled_cell.specs.Passes.{IsVisit, IsClosing, first_view, after_splitting, after_joining, IsSplitPass}
use Rattle.ruled_cell.specs.declared.passes.PassOrigin.TheVariants.{First, SplitFrom}
use Rattle.atomic_table.specs.Seated.{TableId}
use Rattle.thread_laws.specs.Replaying.{logged_as, logged, entries_kept_in, cell_in, same_cell, history_of, slot_histories}
use Rattle.thread_laws.specs.Histories.{entries_on}
use Rattle.thread_laws.specs.declared.gathered.CellHistory.{CellHistory}
use Rattle.thread_laws.specs.declared.gathered.CellHistory.TheVariants as history
use Rattle.tag_laws.proofs.ClosedCells.{closed_cells_are_ruled}
use Rattle.tag_laws.specs.DeclaredTags.{entries_by, IsRuledCell, AreRuled}
use Rattle.run_cells.specs.Entries.{slot_entry_of}
use Rattle.run_cells.specs.TagPasses.{SlotPass, IsFirstPass, IsActorPass, AreClosed, AreNamedFrom, AreUnentered, histories_in}

abbrev SlotCell : Type 0
SlotCell = CellState (Option Segment) SlotAsk SlotReply

-- ---- what passes enter

pub entries_by_append : (xs ys : List (OwnVisit SlotAsk SlotReply)) → entries_by (xs ++ ys) ≡ entries_by xs ++ entries_by ys
entries_by_append [] ys = refl
entries_by_append (o ∷ xs) ys =
    let own = logged_as (event.Slot o.visit.cell) (entry_list o.visit.entry) in
    ap (λ zs. own ++ zs) (entries_by_append xs ys) ∙ sym (append_assoc own (entries_by xs) (entries_by ys))

-- a turn that added an entry, and one that added none
pub visit_more : (slot : ℕ) (e : Entry SlotAsk SlotReply) (p q : SlotPass) → IsVisit slot (Some e) p.view q.view → entries_by q.view.own ≡ entries_by p.view.own ++ slot_entry_of slot e ∷ []
visit_more slot e p q h =
    let upto = p.view.seen ++ h.others in
    ap (λ v. entries_by v.own) h.view_ ∙ entries_by_append p.view.own (own_visit upto (visit_at slot p.view.number (Some e)) (Some e))

pub visit_none : (slot : ℕ) (p q : SlotPass) → IsVisit slot None p.view q.view → entries_by q.view.own ≡ entries_by p.view.own
visit_none slot p q h =
    let upto = p.view.seen ++ h.others in
    ap (λ v. entries_by v.own) h.view_ ∙ (entries_by_append p.view.own (own_visit upto (visit_at slot p.view.number None) None) ∙ append-nil (entries_by p.view.own))

-- ---- which passes

pub still_actor : (t : TableId) (slot : ℕ) (x : Option (Entry SlotAsk SlotReply)) (p q : SlotPass) → IsActorPass t p → q.table ≡ p.table → IsVisit slot x p.view q.view → IsActorPass t q
still_actor t slot x p q a same h = record {
  table_ = same ∙ a.table_;
  origin_ = ap (λ v. v.origin) h.view_ ∙ a.origin_;
  unjoined_ = ap (λ v. v.unjoined) h.view_ ∙ a.unjoined_;
}

-- ---- cells as they begin

pub unentered_last : (n : ℕ) (ks : List SlotCell) (k : SlotCell) → AreUnentered n ks → k.name ≡ cell.Slot (n + length ks) → k.history ≡ [] → AreUnentered n (ks ++ k ∷ [])
unentered_last n [] k h name empty = (subst (λ m. k.name ≡ cell.Slot m) (omega arith) name, empty, tt)
unentered_last n (j ∷ ks) k h name empty = (h.0, h.1, unentered_last (n + 1) ks k h.2 (subst (λ m. k.name ≡ cell.Slot m) (omega arith) name) empty)

pub record IsUnentered (n : ℕ) (k : SlotCell) : Type 0 where
  pub history_ : k.history ≡ []
  pub name_ : k.name ≡ cell.Slot n

pub unentered_at : (n : ℕ) (ks : List SlotCell) (c : ℕ) (k : SlotCell) → AreUnentered n ks → get_elem? ks c ≡ some k → IsUnentered (n + c) k
unentered_at n [] c k h at = absurd cc
unentered_at n (j ∷ ks) zero k h at =
    let same : j ≡ k = cc in
    record { history_ = subst (λ (x : SlotCell). x.history ≡ []) same h.1; name_ = subst (λ (x : SlotCell). x.name ≡ cell.Slot (n + 0)) same (subst (λ m. j.name ≡ cell.Slot m) (omega arith) h.0) }
unentered_at n (j ∷ ks) (suc c) k h at =
    let t = unentered_at (n + 1) ks c k h.2 at in
    record { history_ = t.history_; name_ = subst (λ m. k.name ≡ cell.Slot m) (omega arith) t.name_ }

-- ---- cells as they end

pub named_from : (n : ℕ) (ks : List SlotCell) → ((c : ℕ) (k : SlotCell) → get_elem? ks c ≡ some k → k.name ≡ cell.Slot (n + c)) → AreNamedFrom n ks
named_from n [] h = tt
named_from n (k ∷ ks) h = (
  subst (λ m. k.name ≡ cell.Slot m) (omega arith) (h 0 k refl),
  named_from (n + 1) ks (λ c j at. subst (λ m. j.name ≡ cell.Slot m) (omega arith) (h (suc c) j at)),
)

below_there : (ks : List SlotCell) (c : ℕ) (k : SlotCell) → get_elem? ks c ≡ some k → c < length ks
below_there [] c k at = absurd cc
below_there (j ∷ ks) zero k at = omega arith
below_there (j ∷ ks) (suc c) k at = let h = below_there ks c k at in omega (arith, h)

pub closed_named : (count : ℕ) (entered : List LogEntry) (ks : List SlotCell) → AreClosed count entered ks → AreNamedFrom 0 ks
closed_named count entered ks h = named_from 0 ks (λ c k at.
    let inside = below_there ks c k at in
    let len = h.count_ in
    let r = h.ruled c (omega (arith, inside, len)) in
    let both : some r.state ≡ some k = sym r.there ∙ at in
    let same : r.state ≡ k = cc in
    subst (λ m. k.name ≡ cell.Slot m) (omega arith) (subst (λ (x : SlotCell). x.name ≡ cell.Slot c) same r.name_))

-- ---- their histories

pub histories_last : (n : ℕ) (ess : List (List (Entry SlotAsk SlotReply))) (es : List (Entry SlotAsk SlotReply)) → slot_histories n (ess ++ es ∷ []) ≡ slot_histories n ess ++ history.Slot (n + length ess) es ∷ []
histories_last n [] es = ap (λ m. history.Slot m es ∷ []) (omega arith)
histories_last n (fs ∷ ess) es = ap (λ hs. history.Slot n fs ∷ hs) (histories_last (n + 1) ess es ∙ ap (λ m. slot_histories (n + 1) ess ++ history.Slot m es ∷ []) (omega arith))

pub histories_length : (ks : List SlotCell) → length (histories_in ks) ≡ length ks
histories_length [] = refl
histories_length (k ∷ ks) = ap suc (histories_length ks)

same_number : (m n : ℕ) → m ≡ n → (m == n) ≡ true
same_number m n is = grind (arith, nat_tests, is)

other_number : (m n : ℕ) → m < n → (m == n) ≡ false
other_number m n h = grind (arith, nat_tests, h)

-- the history of a slot is found under its number
found_slot : (n : ℕ) (ks : List SlotCell) (others : List CellHistory) (c m : ℕ) (k : SlotCell) → get_elem? ks c ≡ some k → m ≡ n + c
    → find (λ j. same_cell (cell_in j) (cell.Slot m)) (slot_histories n (histories_in ks) ++ others) ≡ Some (history.Slot m k.history)
found_slot n [] others c m k at is = absurd cc
found_slot n (j ∷ ks) others zero m k at is =
    let same : j ≡ k = cc in
    let here : n ≡ m = omega (arith, is) in
    ap (λ t. cond t (Some (history.Slot n j.history)) (find (λ j. same_cell (cell_in j) (cell.Slot m)) (slot_histories (n + 1) (histories_in ks) ++ others))) (same_number n m here)
    ∙ (ap (λ x. Some (history.Slot x j.history)) here ∙ ap (λ (x : SlotCell). Some (history.Slot m x.history)) same)
found_slot n (j ∷ ks) others (suc c) m k at is =
    ap (λ t. cond t (Some (history.Slot n j.history)) (find (λ j. same_cell (cell_in j) (cell.Slot m)) (slot_histories (n + 1) (histories_in ks) ++ others))) (other_number n m (omega (arith, is)))
    ∙ found_slot (n + 1) ks others c m k at (omega (arith, is))

pub closed_ruled : (count : ℕ) (entered : List LogEntry) (ks : List SlotCell) (others all : List CellHistory) → AreClosed count entered ks → all ≡ slot_histories 0 (histories_in ks) ++ others → AreRuled count entered all
closed_ruled count entered ks others all h is = λ slot inside.
    let r = h.ruled slot inside in
    let there : history_of all (cell.Slot slot) ≡ logged_as (event.Slot slot) r.state.history = ap (λ hs. history_of hs (cell.Slot slot)) is ∙ ap entries_kept_in (found_slot 0 ks others slot slot r.state r.there (omega arith)) in
    subst (λ es. IsPermutation es (entries_on (cell.Slot slot) entered)) (sym there) r.entries_

-- ---- the first pass, and those that are split from it

pub first_begins : (t : TableId) (p : SlotPass) → p.table ≡ t → p.view ≡ first_view → IsFirstPass t p
first_begins t p table is = record { table_ = table; origin_ = ap (λ v. v.origin) is; number_ = ap (λ v. v.number) is; own_ = ap (λ v. v.own) is }

pub first_split : (t : TableId) (p q : SlotPass) → IsFirstPass t p → q ≡ record p { view = after_splitting p.view } → IsFirstPass t q
first_split t p q h is = record {
  table_ = ap (λ (x : SlotPass). x.table) is ∙ h.table_;
  origin_ = ap (λ (x : SlotPass). x.view.origin) is ∙ h.origin_;
  number_ = ap (λ (x : SlotPass). x.view.number) is ∙ h.number_;
  own_ = ap (λ (x : SlotPass). x.view.own) is ∙ h.own_;
}

pub split_actor : (t : TableId) (p q : SlotPass) → IsFirstPass t p → IsSplitPass p q → IsActorPass t q
split_actor t p q h s = record {
  table_ = ap (λ (x : SlotPass). x.table) s.1 ∙ h.table_;
  origin_ = ap (λ (x : SlotPass). x.view.origin) s.1 ∙ ap SplitFrom h.number_;
  unjoined_ = ap (λ (x : SlotPass). x.view.unjoined) s.1;
}

pub split_empty : (p q : SlotPass) → IsSplitPass p q → entries_by q.view.own ≡ []
split_empty p q s = ap (λ (x : SlotPass). entries_by x.view.own) s.1

-- ---- the end

pub joined_entries : (p q r : SlotPass) → r ≡ record p { view = after_joining p.view q.view } → entries_by r.view.own ≡ entries_by p.view.own ++ entries_by q.view.own
joined_entries p q r is = ap (λ (x : SlotPass). entries_by x.view.own) is ∙ entries_by_append p.view.own q.view.own

pub closed_so : (count : ℕ) (entered : List LogEntry) (cells : List SlotCell) (v : PassView SlotAsk SlotReply) → IsClosing cells v → length cells ≡ count → entries_by v.own ≡ entered → AreClosed count entered cells
closed_so count entered cells v h len is = record {
  count_ = len;
  ruled = λ slot inside. subst (λ es. IsRuledCell cells es slot) is (closed_cells_are_ruled cells v h slot (omega (arith, inside, len)));
}

pub none_there : {X : Type 0} (xs : List X) → length xs ≡ 0 → xs ≡ []
none_there [] e = refl
none_there (x ∷ xs) e = absurd (omega (arith, e))
