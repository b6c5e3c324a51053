-- For the proof alone: the parts of one turn at a cell.
use Rattle.std.specs.Prelude.{◌≡◌, ℕ, ◌+◌, ◌*◌, ◌<◌, List, [], ◌∷◌, ◌++◌, Option, true}
use Rattle.wedge_events.specs.declared.events.CellName.TheVariants.{Slot}
use Rattle.journal_cell.specs.declared.entry.Entry.{Entry}
use Rattle.journal_cell.specs.declared.entry.Pass.{Pass}
use Rattle.journal_cell.specs.Histories.{CellState, entry_at, cell_after}
use Rattle.ruled_cell.specs.declared.passes.PassTurn.TheVariants.{Waiting, Holding}
use Rattle.ruled_cell.specs.Visits.{cell_history, entry_list}
use Rattle.ruled_cell.specs.Passes.{is_unspent}
use Rattle.ruled_cell.specs.Order.{CellSeat}

-- 2^64 - 1, which is drawn by none
abbrev pub highest_ticket : ℕ
highest_ticket = 18446744073709551615

-- an odd number
abbrev pub IsOdd : ℕ → Type 0
IsOdd n = (k : ℕ) × (n ≡ 2 * k + 1)

module _ {S Q R : Type 0} where
  -- the seat has a ticket, and no cell
  abbrev pub HasTicket : ℕ → ℕ → CellSeat S Q R → Type 0
  HasTicket c t m = (m.0.turn ≡ Waiting) × (m.0.cell ≡ c) × (m.0.ticket ≡ t)
      × (m.0.is_numbered ≡ true) × (is_unspent m.0.origin ≡ true) × (t < highest_ticket)
      × (m.1 ≡ [])

  -- the cell that the seat has is asked what the maker makes of its state, and has this entry more
  abbrev pub IsCellAsked : (S → Q → R) → (S → Q → S) → (CellState S Q R → Type 0) → (S → Q)
      → (S → Type 0) → ℕ → Pass → Entry Q R → CellSeat S Q R → CellSeat S Q R → Type 0
  IsCellAsked reply next keeps makes finds c p e m m' = (k : CellState S Q R) × (m.1 ≡ (c, k) ∷ [])
      × finds k.state × (e ≡ entry_at reply k p (makes k.state)) × (m'.1 ≡ (c, cell_after next k e) ∷ [])
      × keeps k × keeps (cell_after next k e)

  -- the seat has the cell, which has one entry more than what the seat has seen of it, or none
  abbrev pub HoldsCell : ℕ → ℕ → CellState S Q R → Option (Entry Q R) → CellSeat S Q R → Type 0
  HoldsCell c t k x m = (m.0.turn ≡ Holding) × (m.0.cell ≡ c) × (m.0.ticket ≡ t)
      × (m.0.is_numbered ≡ true) × (is_unspent m.0.origin ≡ true) × (t < highest_ticket)
      × (m.1 ≡ (c, k) ∷ [])
      × (k.history ≡ cell_history c m.0.seen ++ entry_list x) × (k.name ≡ Slot c)
