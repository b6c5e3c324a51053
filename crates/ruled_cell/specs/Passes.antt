-- What a pass knows, and what each call makes of it.
use Rattle.std.specs.Prelude.{◌≡◌, ℕ, ◌+◌, ◌-◌, ◌<◌, List, [], ◌∷◌, ◌++◌, length, Option, Bool, true, false, cond, leb, map, IsPermutation}
use mathlib.Core.Option.{some}
use lib.ListN.{get_elem?}
use Rattle.atomic_table.specs.Seated.{TableId}
use Rattle.wedge_events.specs.declared.events.CellName.TheVariants.{Slot}
use Rattle.journal_cell.specs.declared.entry.Entry.{Entry}
use Rattle.journal_cell.specs.declared.entry.Pass.{Pass}
use Rattle.journal_cell.specs.Histories.{CellState, entry_at, cell_after}
use Rattle.ruled_cell.specs.declared.visits.Visit.{Visit}
use Rattle.ruled_cell.specs.declared.passes.PassView.{PassView}
use Rattle.ruled_cell.specs.declared.passes.PassOrigin.{PassOrigin}
use Rattle.ruled_cell.specs.declared.passes.PassOrigin.TheVariants.{Spent, First, SplitFrom}
use Rattle.ruled_cell.specs.declared.passes.PassTurn.TheVariants.{Idle}
use Rattle.ruled_cell.specs.Visits.{Each, visit_at, cell_history, visits_with_entry, own_visit, visit_of, HasNoneBy, HasOnlyBy, IsListedIn}

-- a pass: of which cells it is, by their table, and what it knows
pub record PassState (Q R : Type 0) : Type 0 where
  pub table : TableId
  pub view : PassView Q R

-- 2^64 - 1: so many passes can be split from one and not be joined
abbrev pub most_unjoined : ℕ
most_unjoined = 18446744073709551615

-- whether a pass is joined to no other
abbrev pub is_unspent : PassOrigin → Bool
is_unspent Spent = false
is_unspent First = true
is_unspent (SplitFrom p) = true

module _ {Q R : Type 0} where
  -- the first pass as the cells begin
  abbrev pub first_view : PassView Q R
  first_view = record {
    origin = First;
    is_numbered = true;
    number = 0;
    joined = [];
    seen = [];
    own = [];
    turn = Idle;
    cell = 0;
    ticket = 0;
    unjoined = 0;
  }

  -- a pass after another was split from it
  abbrev pub after_splitting : PassView Q R → PassView Q R
  after_splitting v = record v { unjoined = v.unjoined + 1 }

  -- the pass of the number n that is split from another
  abbrev pub child_view : ℕ → PassView Q R → PassView Q R
  child_view n v = record first_view { origin = SplitFrom v.number; number = n; seen = v.seen }

  -- the numbers of a pass: its own, and those of the passes that were joined to it
  abbrev pub pass_numbers : PassView Q R → List ℕ
  pass_numbers v = v.number ∷ v.joined

  -- what either of two passes has seen: one is a prefix of the other
  abbrev pub longer_seen : List (Visit Q R) → List (Visit Q R) → List (Visit Q R)
  longer_seen a b = cond (leb (length a) (length b)) b a

  -- a pass after another was joined to it
  abbrev pub after_joining : PassView Q R → PassView Q R → PassView Q R
  after_joining v w = record v {
    joined = v.joined ++ pass_numbers w;
    seen = longer_seen v.seen w.seen;
    own = v.own ++ w.own;
    unjoined = v.unjoined - 1;
  }

  -- a pass after its turn at the cell c, before which it saw others, and which added an entry or none
  abbrev pub after_visit : ℕ → Option (Entry Q R) → List (Visit Q R) → PassView Q R → PassView Q R
  after_visit c x others v = record v {
    seen = (v.seen ++ others) ++ visit_at c v.number x ∷ [];
    own = v.own ++ own_visit (v.seen ++ others) (visit_at c v.number x) x;
    turn = Idle;
    cell = 0;
    ticket = 0;
  }

  -- A pass had a turn at the cell c: what it has seen begins with what it had seen and ends with this visit,
  -- and none of the visits between is its own.
  pub record IsVisit (c : ℕ) (x : Option (Entry Q R)) (v w : PassView Q R) : Type 0 where
    pub others : List (Visit Q R)
    pub view_ : w ≡ after_visit c x others v
    pub apart : HasNoneBy (pass_numbers v) others

  -- An entry is last in the history of the cell, and is what the ask that was made of the state before it leads
  -- to. The maker's finding holds of that state. The cell is one that is kept, before the entry and after.
  pub record IsNewEntry {S : Type 0} (reply : S → Q → R) (next : S → Q → S) (keeps : CellState S Q R → Type 0)
      (makes : S → Q) (finds : S → Type 0) (c : ℕ) (p : Pass) (e : Entry Q R) (w : PassView Q R) : Type 0 where
    pub before : CellState S Q R
    pub name_ : before.name ≡ Slot c
    pub history_ : cell_history c w.seen ≡ before.history ++ e ∷ []
    pub finds_ : finds before.state
    pub entry_ : e ≡ entry_at reply before p (makes before.state)
    pub before_ : keeps before
    pub after_ : keeps (cell_after next before e)

  -- a pass that has no ticket and is joined to no other
  abbrev pub IsIdle : PassView Q R → Type 0
  IsIdle v = (v.turn ≡ Idle) × (v.is_numbered ≡ true) × (is_unspent v.origin ≡ true)

  -- the pass is split from the other
  abbrev pub IsSplitPass : PassState Q R → PassState Q R → Type 0
  IsSplitPass p q = (n : ℕ) × (q ≡ record { table = p.table; view = child_view n p.view })

  -- a cell at the end: its history is what the pass has seen of it
  abbrev pub IsClosedCell : {S : Type 0} → List (CellState S Q R) → List (Visit Q R) → ℕ → Type 0
  IsClosedCell {S} xs seen c = (k : CellState S Q R) × (get_elem? xs c ≡ some k)
      × (k.history ≡ cell_history c seen) × (k.name ≡ Slot c)

  -- The cells as they end, and the view of the first pass: the pass has seen each visit, and each was by it or
  -- by a pass that was joined to it. What these entered is, in some order, just the visits that added an entry,
  -- and among all visits each comes next after those that were before it.
  pub record IsClosing {S : Type 0} (xs : List (CellState S Q R)) (v : PassView Q R) : Type 0 where
    pub cells : (c : ℕ) → c < length xs → IsClosedCell xs v.seen c
    pub alone : HasOnlyBy (pass_numbers v) v.seen
    pub once : IsPermutation (map visit_of v.own) (visits_with_entry v.seen)
    pub listed : Each (IsListedIn v.seen) v.own
