-- Once the cells are closed, the history of each has what the first pass entered there, in some order.
use Rattle.std.proofs.Common.{◌≡◌, ℕ, eqb, Bool, true, false, cond, List, [], ◌∷◌, ◌++◌, map, flat_map, IsPermutation, Option, Some, None, refl, sym, ap, subst, ◌∙◌, eqb-true}
use Rattle.std.proofs.lemmas.List.{map-append}
use Rattle.std.proofs.lemmas.List.Sorted.{IsPermutation-sym}
use Rattle.std.specs.Prelude.{if◌then◌else◌}
use Rattle.wedge_events.specs.declared.cells.SlotAsk.{SlotAsk}
use Rattle.wedge_events.specs.declared.cells.SlotReply.{SlotReply}
use Rattle.wedge_events.specs.declared.events.CellName.TheVariants as cell
use Rattle.wedge_events.specs.declared.events.Event.TheVariants as event
use Rattle.wedge_events.specs.declared.events.LogEntry.{LogEntry}
use Rattle.journal_cell.specs.declared.entry.Entry.{Entry}
use Rattle.ruled_cell.specs.declared.visits.Visit.{Visit}
use Rattle.ruled_cell.specs.declared.visits.OwnVisit.{OwnVisit}
use Rattle.ruled_cell.specs.Visits.{entry_list, cell_history, if_entered, visits_with_entry, visit_of}
use Rattle.thread_laws.specs.Histories.{entries_on}
use Rattle.thread_laws.specs.Replaying.{logged_as}
use Rattle.tag_laws.specs.DeclaredTags.{entries_by, ClosedCellsAreRuled}
use Rattle.tag_laws.proofs.Permutations.{flat_map-IsPermutation}
use Rattle.tag_laws.proofs.OnCells.{entries_on-append, entries_on-IsPermutation}

-- what a visit entered, as entries of a log: one or none
abbrev entered_at : Visit SlotAsk SlotReply → List LogEntry
entered_at x = logged_as (event.Slot x.cell) (entry_list x.entry)

entered_by_visits : (os : List (OwnVisit SlotAsk SlotReply)) → entries_by os ≡ flat_map entered_at (map visit_of os)
entered_by_visits [] = refl
entered_by_visits (o ∷ os) = ap (λ l. entered_at o.visit ++ l) (entered_by_visits os)

-- visits that added no entry make no difference
entered_with_entry : (xs : List (Visit SlotAsk SlotReply)) → flat_map entered_at (visits_with_entry xs) ≡ flat_map entered_at xs
entered_with_entry [] = refl
entered_with_entry (x ∷ xs) = by_entry x.entry refl (entered_with_entry xs)
  where
    by_entry : (k : Option (Entry SlotAsk SlotReply)) → x.entry ≡ k → flat_map entered_at (visits_with_entry xs) ≡ flat_map entered_at xs
        → flat_map entered_at (if_entered x k ++ visits_with_entry xs) ≡ entered_at x ++ flat_map entered_at xs
    by_entry (Some e) is rest = ap (λ l. entered_at x ++ l) rest
    by_entry None is rest = rest ∙ ap (λ k. logged_as (event.Slot x.cell) (entry_list k) ++ flat_map entered_at xs) (sym is)

-- an entry at a cell is on a slot if that cell is the slot
entry_on_slot : (slot n : ℕ) (k : Option (Entry SlotAsk SlotReply)) (b : Bool) → eqb n slot ≡ b
    → entries_on (cell.Slot slot) (logged_as (event.Slot n) (entry_list k)) ≡ logged_as (event.Slot slot) (cond b (entry_list k) [])
entry_on_slot slot n None true is = refl
entry_on_slot slot n None false is = refl
entry_on_slot slot n (Some e) true is =
    ap (λ b. if b then logged_as (event.Slot n) (e ∷ []) else []) is ∙ ap (λ m. logged_as (event.Slot m) (e ∷ [])) (eqb-true n slot is)
entry_on_slot slot n (Some e) false is = ap (λ b. if b then logged_as (event.Slot n) (e ∷ []) else []) is

-- of all that was entered, what is on a slot is the history of its cell
history_on_slot : (slot : ℕ) (xs : List (Visit SlotAsk SlotReply)) → entries_on (cell.Slot slot) (flat_map entered_at xs) ≡ logged_as (event.Slot slot) (cell_history slot xs)
history_on_slot slot [] = refl
history_on_slot slot (x ∷ xs) =
    let first = entry_on_slot slot x.cell x.entry (eqb x.cell slot) refl in
    let rest = history_on_slot slot xs in
    entries_on-append (cell.Slot slot) (entered_at x) (flat_map entered_at xs)
    ∙ ((λ i. first i ++ rest i) ∙ sym (map-append _ (cond (eqb x.cell slot) (entry_list x.entry) []) (cell_history slot xs)))

pub closed_cells_are_ruled : ClosedCellsAreRuled
closed_cells_are_ruled cells v closing slot less =
    let here = closing.cells slot less in
    let name = cell.Slot slot in
    let visits : IsPermutation (flat_map entered_at (map visit_of v.own)) (flat_map entered_at (visits_with_entry v.seen)) = flat_map-IsPermutation entered_at _ _ closing.once in
    let entered : IsPermutation (entries_by v.own) (flat_map entered_at v.seen) =
    subst (λ l. IsPermutation l (flat_map entered_at v.seen)) (sym (entered_by_visits v.own))
    (subst (IsPermutation (flat_map entered_at (map visit_of v.own))) (entered_with_entry v.seen) visits) in
    let on_slot = entries_on-IsPermutation name (entries_by v.own) (flat_map entered_at v.seen) entered in
    let is : entries_on name (flat_map entered_at v.seen) ≡ logged_as (event.Slot slot) here.0.history = history_on_slot slot v.seen ∙ sym (ap (logged_as (event.Slot slot)) here.2) in
    record {
      state = here.0;
      there = here.1;
      name_ = here.3;
      entries_ = IsPermutation-sym _ _ (subst (IsPermutation (entries_on name (entries_by v.own))) is on_slot);
    }
