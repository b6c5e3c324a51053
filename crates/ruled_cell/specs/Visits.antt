-- Visits: turns at the cells, and what the histories of the cells are of them.
use Rattle.std.specs.Prelude.{◌≡◌, ℕ, ◌++◌, List, [], ◌∷◌, Option, Some, None, Bool, true, false, cond, eqb, ◌||◌}
use Rattle.journal_cell.specs.declared.entry.Entry.{Entry}
use Rattle.ruled_cell.specs.declared.visits.Visit.{Visit}
use Rattle.ruled_cell.specs.declared.visits.OwnVisit.{OwnVisit}

-- each of a list has P
abbrev pub Each : {A : Type 0} → (A → Type 0) → List A → Type 0
Each P [] = Unit {0}
Each P (x ∷ xs) = P x × Each P xs

-- whether n is among these numbers
abbrev pub is_listed_number : List ℕ → ℕ → Bool
is_listed_number [] n = false
is_listed_number (m ∷ ms) n = eqb n m || is_listed_number ms n

module _ {Q R : Type 0} where
  -- the visit of a cell by a pass
  abbrev pub visit_at : ℕ → ℕ → Option (Entry Q R) → Visit Q R
  visit_at c n x = record { cell = c; pass = n; entry = x }

  -- the entry, if there is one
  abbrev pub entry_list : Option (Entry Q R) → List (Entry Q R)
  entry_list (Some e) = e ∷ []
  entry_list None = []

  -- the history of a cell: the entries that were added there, in order
  abbrev pub cell_history : ℕ → List (Visit Q R) → List (Entry Q R)
  cell_history c [] = []
  cell_history c (x ∷ xs) = cond (eqb x.cell c) (entry_list x.entry) [] ++ cell_history c xs

  -- a visit, if it added this entry
  abbrev pub if_entered : Visit Q R → Option (Entry Q R) → List (Visit Q R)
  if_entered x (Some e) = x ∷ []
  if_entered x None = []

  -- the visits that added an entry, in order
  abbrev pub visits_with_entry : List (Visit Q R) → List (Visit Q R)
  visits_with_entry [] = []
  visits_with_entry (x ∷ xs) = if_entered x x.entry ++ visits_with_entry xs

  -- none of these visits is by a pass of these numbers
  abbrev pub HasNoneBy : List ℕ → List (Visit Q R) → Type 0
  HasNoneBy ns xs = Each (λ (x : Visit Q R). is_listed_number ns x.pass ≡ false) xs

  -- each of these visits is by a pass of these numbers
  abbrev pub HasOnlyBy : List ℕ → List (Visit Q R) → Type 0
  HasOnlyBy ns xs = Each (λ (x : Visit Q R). is_listed_number ns x.pass ≡ true) xs

  -- a visit with those before it, if it added this entry
  abbrev pub own_visit : List (Visit Q R) → Visit Q R → Option (Entry Q R) → List (OwnVisit Q R)
  own_visit before x (Some e) = record { before = before; visit = x } ∷ []
  own_visit before x None = []

  abbrev pub visit_of : OwnVisit Q R → Visit Q R
  visit_of o = o.visit

  -- among all visits it comes next after those that were before it
  abbrev pub IsListedIn : List (Visit Q R) → OwnVisit Q R → Type 0
  IsListedIn xs o = (rest : List (Visit Q R)) × (xs ≡ (o.before ++ o.visit ∷ []) ++ rest)
