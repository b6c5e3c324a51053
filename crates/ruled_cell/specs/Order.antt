-- For the proof alone: the rule of the table of the cells, and what each step on it does.
use Rattle.std.specs.Prelude.{◌≡◌, ◌≢◌, ℕ, ◌+◌, ◌*◌, ◌<◌, ◌≤◌, List, [], ◌∷◌, ◌++◌, length, slice_index, Option, Bool, true, false, cond, eqb, map, IsPermutation}
use mathlib.Core.Option.{some}
use lib.ListN.{get_elem?}
use Rattle.atomic_table.specs.Table.{State, Me, Step}
use Rattle.wedge_events.specs.declared.events.CellName.TheVariants.{Slot}
use Rattle.journal_cell.specs.declared.entry.Entry.{Entry}
use Rattle.journal_cell.specs.Histories.{CellState}
use Rattle.ruled_cell.specs.declared.visits.Visit.{Visit}
use Rattle.ruled_cell.specs.declared.passes.PassView.{PassView}
use Rattle.ruled_cell.specs.declared.passes.PassOrigin.{PassOrigin}
use Rattle.ruled_cell.specs.declared.passes.PassOrigin.TheVariants.{Spent, First, SplitFrom}
use Rattle.ruled_cell.specs.declared.passes.PassTurn.{PassTurn}
use Rattle.ruled_cell.specs.declared.passes.PassTurn.TheVariants.{Idle, Waiting, Holding}
use Rattle.ruled_cell.specs.Visits.{Each, is_listed_number, entry_list, cell_history, if_entered, visit_of, HasNoneBy, IsListedIn}
use Rattle.ruled_cell.specs.Passes.{first_view, child_view, is_unspent, pass_numbers, after_visit}

-- 1 where a seat was split from the seat i and is not joined to it
abbrev pub one_if_child : ℕ → PassOrigin → ℕ
one_if_child i (SplitFrom p) = cond (eqb p i) 1 0
one_if_child i Spent = 0
one_if_child i First = 0

module _ {Q R : Type 0} where
  -- a seat that is joined to another
  abbrev pub spent_view : PassView Q R
  spent_view = record first_view { origin = Spent; is_numbered = false }

  -- a seat that was split from another, before it knows its number
  abbrev pub unnumbered_child : PassView Q R → PassView Q R
  unnumbered_child v = record (child_view 0 v) { is_numbered = false }

  -- how many tickets of a cell were served
  abbrev pub tickets_served : ℕ → List (Visit Q R) → ℕ
  tickets_served c [] = 0
  tickets_served c (x ∷ xs) = cond (eqb x.cell c) 1 0 + tickets_served c xs

  -- what was entered under one of these numbers, in order
  abbrev pub visits_by : List ℕ → List (Visit Q R) → List (Visit Q R)
  visits_by ns [] = []
  visits_by ns (x ∷ xs) =
      cond (is_listed_number ns x.pass) (if_entered x x.entry) [] ++ visits_by ns xs

  -- none of these visits is of the cell
  abbrev pub HasNoneAt : ℕ → List (Visit Q R) → Type 0
  HasNoneAt c xs = Each (λ (x : Visit Q R). eqb x.cell c ≡ false) xs

  -- how many seats were split from the seat i and are not joined to it
  abbrev pub child_count : ℕ → List (PassView Q R) → ℕ
  child_count i [] = 0
  child_count i (v ∷ vs) = one_if_child i v.origin + child_count i vs

-- what a seat's turn says of the visits, of the tickets that were drawn, of which seat drew which, and of
-- which cells are with a seat
module _ {Q R : Type 0} (log : List (Visit Q R)) (tickets : ℕ → ℕ) (owner : ℕ → ℕ → ℕ)
    (lent : ℕ → Bool) (cells seat c t : ℕ) where
  abbrev pub FitsTurn : PassTurn → Type 0
  FitsTurn Idle = Unit {0}
  FitsTurn Waiting = (c < cells) × (tickets_served c log ≤ t) × (t < tickets c) × (owner c t ≡ seat)
  FitsTurn Holding = (c < cells) × (t ≡ tickets_served c log) × (t < tickets c) × (owner c t ≡ seat)
      × (lent c ≡ true)

-- the visits begin with what the seat has seen, and it visited nothing since
pub record HasSeen {Q R : Type 0} (log : List (Visit Q R)) (seat : ℕ)
    (v : PassView Q R) : Type 0 where
  pub rest : List (Visit Q R)
  pub begins : log ≡ v.seen ++ rest
  pub by_others : HasNoneBy (seat ∷ v.joined) rest
  pub still : v.turn ≡ Holding → HasNoneAt v.cell rest
  pub stands : Each (IsListedIn log) v.own
  pub owns : IsPermutation (map visit_of v.own) (visits_by (seat ∷ v.joined) log)

module _ {Q R : Type 0} (views : List (PassView Q R)) where
  -- the seat j comes from an earlier one that is not spent, or is the first
  abbrev pub HasParent : ℕ → PassOrigin → Type 0
  HasParent j Spent = Unit {0}
  HasParent j First = j ≡ 0
  HasParent j (SplitFrom p) = (p < j) × (u : PassView Q R) × (get_elem? views p ≡ some u)
      × (is_unspent u.origin ≡ true)

  -- each number is with one seat that is not spent
  pub record IsInFamily (holder : ℕ → ℕ) (j : ℕ) (v : PassView Q R) : Type 0 where
    pub named : v.is_numbered ≡ true → v.number ≡ j
    pub self : holder j ≡ j
    pub others : Each (λ n. (n < length views) × (holder n ≡ j)) v.joined
    pub from : HasParent j v.origin
    pub counts : child_count j views ≤ v.unjoined

  -- the number of a visit is with a seat that is not spent
  abbrev pub HasHolder : (ℕ → ℕ) → Visit Q R → Type 0
  HasHolder holder x = (x.pass < length views) × (u : PassView Q R)
      × (get_elem? views (holder x.pass) ≡ some u) × (is_unspent u.origin ≡ true)
      × (is_listed_number (holder x.pass ∷ u.joined) x.pass ≡ true)

-- what is so of each seat
pub record FitsSeat {Q R : Type 0} (log : List (Visit Q R)) (tickets : ℕ → ℕ) (owner : ℕ → ℕ → ℕ)
    (lent : ℕ → Bool) (cells : ℕ) (views : List (PassView Q R)) (holder : ℕ → ℕ) (j : ℕ)
    (v : PassView Q R) : Type 0 where
  pub knows : FitsTurn log tickets owner lent cells j v.cell v.ticket v.turn
  pub idle : is_unspent v.origin ≡ false → v.turn ≡ Idle
  pub behind : is_unspent v.origin ≡ true → HasSeen log j v
  pub belongs : is_unspent v.origin ≡ true → IsInFamily views holder j v

-- what is so of each cell: it is in its slot with its history, or with the seat whose ticket is served
pub record FitsCell {S Q R : Type 0} (log : List (Visit Q R)) (owner : ℕ → ℕ → ℕ) (lent : ℕ → Bool)
    (s : State (CellState S Q R) (PassView Q R)) (c : ℕ) : Type 0 where
  pub serving : slice_index s.words (16 * c + 8) ≡ tickets_served c log
  pub drawn : tickets_served c log ≤ slice_index s.words (16 * c)
  pub home : lent c ≡ false → (k : CellState S Q R) × (get_elem? s.homes c ≡ some (some k))
      × (k.history ≡ cell_history c log) × (k.name ≡ Slot c)
  pub away : lent c ≡ true → (v : PassView Q R)
      × (get_elem? s.views (owner c (tickets_served c log)) ≡ some v)
      × (v.turn ≡ Holding) × (v.cell ≡ c)

-- the rule
pub record IsTicketOrder {S Q R : Type 0}
    (s : State (CellState S Q R) (PassView Q R)) : Type 0 where
  pub log : List (Visit Q R)
  pub cells : ℕ
  pub owner : ℕ → ℕ → ℕ
  pub lent : ℕ → Bool
  pub holder : ℕ → ℕ
  pub wide : length s.words ≡ 16 * cells + 528
  pub deep : length s.homes ≡ cells
  pub each_cell : (c : ℕ) → c < cells → FitsCell log owner lent s c
  pub each_seat : (j : ℕ) (v : PassView Q R) → get_elem? s.views j ≡ some v
      → FitsSeat log (λ c. slice_index s.words (16 * c)) owner lent cells s.views holder j v
  pub each_served : Each (HasHolder s.views holder) log

-- a seat at the table: its view, and the cell that it has, if any
abbrev pub CellSeat : Type 0 → Type 0 → Type 0 → Type 0
CellSeat S Q R = Me (CellState S Q R) (PassView Q R)

module _ {S Q R : Type 0} where
  -- a seat after it drew the ticket n of the cell c
  abbrev pub with_ticket : ℕ → ℕ → CellSeat S Q R → CellSeat S Q R
  with_ticket c n m = (record m.0 { turn = Waiting; cell = c; ticket = n }, m.1)

  -- the seat has the cell of its ticket, and has seen all visits so far, none of which is new and its own
  abbrev pub IsServed : CellSeat S Q R → CellSeat S Q R → Type 0
  IsServed m m' = (between : List (Visit Q R)) × (k : CellState S Q R)
      × (m' ≡ (record m.0 { turn = Holding; seen = m.0.seen ++ between }, (m.0.cell, k) ∷ m.1))
      × HasNoneBy (pass_numbers m.0) between
      × (k.history ≡ cell_history m.0.cell (m.0.seen ++ between)) × (k.name ≡ Slot m.0.cell)

  -- the turn of the seat at the cell c is over, and added an entry or none
  abbrev pub HasPassedOn : ℕ → Option (Entry Q R) → CellSeat S Q R → CellSeat S Q R → Type 0
  HasPassedOn c x m m' = (between : List (Visit Q R)) × (m' ≡ (after_visit c x between m.0, []))
      × HasNoneBy (pass_numbers m.0) between × HasNoneAt c between

  -- a ticket is drawn, where the count was what the seat had read
  abbrev pub DrawsTicket : Step (CellState S Q R) → CellSeat S Q R → ℕ → CellSeat S Q R → Type 0
  DrawsTicket st m n m' =
      (n ≡ st.first → (c : ℕ) → st.word ≡ 16 * c → m' ≡ with_ticket c st.first m) × (n ≢ st.first → m' ≡ m)

  -- where the seat's ticket is served, it has the cell
  abbrev pub LooksAtServing : Step (CellState S Q R) → CellSeat S Q R → ℕ → CellSeat S Q R → Type 0
  LooksAtServing st m n m' = (n ≡ m.0.ticket → IsServed m m') × (n ≢ m.0.ticket → m' ≡ m)

  -- the cell returns with one entry more than what the seat has seen of it, or with none
  abbrev pub PassesOn : Step (CellState S Q R) → CellSeat S Q R → ℕ → CellSeat S Q R → Type 0
  PassesOn st m n m' = (k : CellState S Q R) (x : Option (Entry Q R)) → m.1 ≡ (m.0.cell, k) ∷ []
      → k.history ≡ cell_history m.0.cell m.0.seen ++ entry_list x → HasPassedOn m.0.cell x m m'

  -- the seat is as before
  abbrev pub LeavesSeat : Step (CellState S Q R) → CellSeat S Q R → ℕ → CellSeat S Q R → Type 0
  LeavesSeat st m n m' = m' ≡ m

  -- the seat knows its number
  abbrev pub LearnsNumber : Step (CellState S Q R) → CellSeat S Q R → ℕ → CellSeat S Q R → Type 0
  LearnsNumber st m n m' = (i : ℕ) × (m' ≡ (record m.0 { is_numbered = true; number = i }, m.1))
