-- Histories of cells: what an entry is, to which state entries lead, and which lists are histories.
use Rattle.std.specs.Prelude.{◌≡◌, ℕ, ◌+◌, ◌<◌, ◌++◌, List, [], ◌∷◌, nat_lt, if◌then◌else◌}
use Rattle.wedge_events.specs.declared.events.CellName.{CellName}
use Rattle.journal_cell.specs.declared.entry.Entry.{Entry}
use Rattle.journal_cell.specs.declared.entry.Pass.{Pass}

-- a cell: its name, its state, its entries in order, and the stamp of the last
pub record CellState (S Q R : Type 0) : Type 0 where
  pub name : CellName
  pub state : S
  pub history : List (Entry Q R)
  pub clock : ℕ

-- the state to which entries lead from another
abbrev pub state_after : {S Q R : Type 0} → (S → Q → S) → S → List (Entry Q R) → S
state_after next s [] = s
state_after next s (e ∷ es) = state_after next (next s e.ask) es

-- the stamp of the last entry, or the clock before all
abbrev pub last_stamp : {Q R : Type 0} → ℕ → List (Entry Q R) → ℕ
last_stamp clock [] = clock
last_stamp clock (e ∷ es) = last_stamp e.stamp es

-- Entries are a history from a state and a clock on: each ask fits the state in which it comes, each
-- reply is the object's, and stamps rise strictly.
abbrev pub IsHistory : {S Q R : Type 0} → (S → Q → Type 0) → (S → Q → R) → (S → Q → S) → S → ℕ
    → List (Entry Q R) → Type 0
IsHistory fits reply next s clock [] = Unit {0}
IsHistory fits reply next s clock (e ∷ es) =
    (clock < e.stamp) × fits s e.ask × (e.reply ≡ reply s e.ask)
    × IsHistory fits reply next (next s e.ask) e.stamp es

-- A cell as it is kept: its history is one from the opening state of its name on, its state is the one
-- to which that leads, and its clock is the stamp of the last entry.
abbrev pub IsKeptCell : {S Q R : Type 0} → (S → Q → Type 0) → (S → Q → R) → (S → Q → S)
    → (CellName → S) → CellState S Q R → Type 0
IsKeptCell fits reply next opening c =
    IsHistory fits reply next (opening c.name) 0 c.history
    × (c.state ≡ state_after next (opening c.name) c.history)
    × (c.clock ≡ last_stamp 0 c.history)

-- the greater of two clocks
abbrev pub greater : ℕ → ℕ → ℕ
greater a b = if nat_lt a b then b else a

-- 2^64 - 1, above which there is no stamp
abbrev pub highest_stamp : ℕ
highest_stamp = 18446744073709551615

-- the entry of an ask: one above the greater of the two clocks, with the object's reply
abbrev pub entry_at : {S Q R : Type 0} → (S → Q → R) → CellState S Q R → Pass → Q → Entry Q R
entry_at reply c p q = record {
  stamp = greater c.clock p.clock + 1;
  actor = p.name.now;
  ask = q;
  reply = reply c.state q;
}

-- the cell after an entry: in the next state, with this entry behind its others
abbrev pub cell_after : {S Q R : Type 0} → (S → Q → S) → CellState S Q R → Entry Q R → CellState S Q R
cell_after next c e = record {
  name = c.name;
  state = next c.state e.ask;
  history = c.history ++ e ∷ [];
  clock = e.stamp;
}

-- the pass after an entry
abbrev pub pass_after : {Q R : Type 0} → Pass → Entry Q R → Pass
pass_after p e = record { name = p.name; clock = e.stamp }
