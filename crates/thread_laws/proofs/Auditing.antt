-- Where each listed cell has the history that the journal has, and each entry is of a listed one, all agree.
use Rattle.std.proofs.Common.{◌≡◌, Bool, true, false, true≢false, List, [], ◌∷◌, refl, sym, ap, subst, ◌∙◌, inl, inr}
use Rattle.std.proofs.lemmas.Bool.{eqb-true, eq-eqb}
use Rattle.std.specs.Prelude.{Option, Some, None, ◌⊎◌, find, slice_get, if◌then◌else◌}
use Rattle.wedge_events.specs.Journals.{cell_of}
use Rattle.wedge_events.specs.declared.events.CellName.{CellName}
use Rattle.wedge_events.specs.declared.events.CellName.TheVariants as cell
use Rattle.wedge_events.specs.declared.events.Event.{Event}
use Rattle.wedge_events.specs.declared.events.Event.TheVariants as event
use Rattle.wedge_events.specs.declared.events.LogEntry.{LogEntry}
use Rattle.run_laws.proofs.KnownGates.{same_id, itself}
use Rattle.thread_laws.specs.Auditing.{ListedAgree, IsListed, AllListed, ComparedAgree, DifferentDisagree}
use Rattle.thread_laws.specs.Histories.{is_of, entries_on}
use Rattle.thread_laws.specs.Joining.{journal_of}
use Rattle.thread_laws.specs.Replaying.{cell_in, same_cell, entries_kept_in, history_of}
use Rattle.thread_laws.specs.declared.gathered.CellHistory.{CellHistory}
use Rattle.thread_laws.proofs.Replaying.{cell_is}

-- the cell of an event is the one of which it is
of_is : (x : CellName) (e : Event) → is_of x e ≡ true → cell_of e ≡ Some x
of_is cell.Slots (event.Slots q r) h = refl
of_is (cell.Slot s) (event.Slot slot q r) h = ap (λ n. Some (cell.Slot n)) (eqb-true slot s h)
of_is cell.Fds (event.Fds q r) h = refl
of_is (cell.Fd n) (event.Fd fd q r) h = ap (λ m. Some (cell.Fd m)) (eqb-true fd n h)
of_is cell.Lives (event.Lives q r) h = refl
of_is (cell.Gate g) (event.Gate id q r) h = ap (λ m. Some (cell.Gate m)) (same_id id g h)
of_is x e h = absurd cc

self_cell : (x : CellName) → same_cell x x ≡ true
self_cell cell.Slots = refl
self_cell (cell.Slot s) = eq-eqb s s refl
self_cell cell.Fds = refl
self_cell (cell.Fd n) = eq-eqb n n refl
self_cell cell.Lives = refl
self_cell (cell.Gate g) = itself g

-- a cell that is not found is not listed
not_listed : (cells : List CellHistory) (name : CellName) (e : LogEntry) → find (λ h. same_cell (cell_in h) name) cells ≡ None → is_of name e.event ≡ true → IsListed cells e → ⊥
not_listed [] name e none own h = h
not_listed (k ∷ ks) name e none own h = by_name (same_cell (cell_in k) name) refl none h (not_listed ks name e)
  where
    by_name : (t : Bool) → same_cell (cell_in k) name ≡ t → (if t then Some k else find (λ h. same_cell (cell_in h) name) ks) ≡ None → (is_of (cell_in k) e.event ≡ true) ⊎ IsListed ks e
        → (find (λ h. same_cell (cell_in h) name) ks ≡ None → is_of name e.event ≡ true → IsListed ks e → ⊥) → ⊥
    by_name true is f g others = absurd cc
    by_name false is f (inr g) others = others f own g
    by_name false is f (inl g) others =
        let both : Some (cell_in k) ≡ Some name = sym (of_is (cell_in k) e.event g) ∙ of_is name e.event own in
        let one : cell_in k ≡ name = cc in
        true≢false (sym (ap (same_cell (cell_in k)) (sym one) ∙ self_cell (cell_in k)) ∙ is)

none_on : (cells : List CellHistory) (name : CellName) (es : List LogEntry) → find (λ h. same_cell (cell_in h) name) cells ≡ None → AllListed cells es → entries_on name es ≡ []
none_on cells name [] none h = refl
none_on cells name (e ∷ es) none h = by_own (is_of name e.event) refl (none_on cells name es none h.1)
  where
    by_own : (t : Bool) → is_of name e.event ≡ t → entries_on name es ≡ [] → (if t then e ∷ entries_on name es else entries_on name es) ≡ []
    by_own false own others = others
    by_own true own others = by_cell h.0
      where
        by_cell : (cell_of e.event ≡ None) ⊎ IsListed cells e → e ∷ entries_on name es ≡ []
        by_cell (inl lone) = let f : None ≡ Some name = sym lone ∙ of_is name e.event own in absurd cc
        by_cell (inr listed) = absurd (not_listed cells name e none own listed)

-- one that is found agrees
agrees_found : (all cells : List CellHistory) (name : CellName) (es : List LogEntry) (k : CellHistory) → find (λ h. same_cell (cell_in h) name) cells ≡ Some k → ListedAgree all cells es → history_of all name ≡ entries_on name es
agrees_found all [] name es k found h = absurd cc
agrees_found all (x ∷ xs) name es k found h = by_name (same_cell (cell_in x) name) refl found (agrees_found all xs name es k)
  where
    by_name : (t : Bool) → same_cell (cell_in x) name ≡ t → (if t then Some x else find (λ j. same_cell (cell_in j) name) xs) ≡ Some k
        → (find (λ j. same_cell (cell_in j) name) xs ≡ Some k → ListedAgree all xs es → history_of all name ≡ entries_on name es) → history_of all name ≡ entries_on name es
    by_name true is f others = subst (λ n. history_of all n ≡ entries_on n es) (cell_is (cell_in x) name is) h.0
    by_name false is f others = others f h.1

pub compared_agree : ComparedAgree
compared_agree logs cells equal listed name compared = by_found (find (λ h. same_cell (cell_in h) name) cells) refl
  where
    by_found : (o : Option CellHistory) → find (λ h. same_cell (cell_in h) name) cells ≡ o → history_of cells name ≡ entries_on name (journal_of logs)
    by_found None none = ap entries_kept_in none ∙ sym (none_on cells name (journal_of logs) none listed)
    by_found (Some k) found = agrees_found cells cells name (journal_of logs) k found equal

pub different_disagree : DifferentDisagree
different_disagree logs cells name index x y d agrees = d.apart (sym d.first_ ∙ (ap (λ es. slice_get es index) (agrees name tt) ∙ d.second_))
