-- A whole turn at a cell.
use Rattle.std.proofs.Common.{◌≡◌, ℕ, List, [], ◌∷◌, ◌++◌, true, Option, Some, None, Result, Ok, Err, IfOk, OnErr, sym, refl, ap, ◌∙◌, subst}
use mathlib.Core.List.{append-nil, append_assoc}
use Rattle.atomic_table.specs.Table.{Me}
use Rattle.wedge_events.specs.declared.events.CellName.TheVariants.{Slot}
use Rattle.journal_cell.specs.declared.entry.Entry.{Entry}
use Rattle.journal_cell.specs.declared.entry.Pass.{Pass}
use Rattle.journal_cell.specs.Histories.{CellState, cell_after}
use Rattle.ruled_cell.specs.declared.visits.Visit.{Visit}
use Rattle.ruled_cell.specs.declared.passes.PassView.{PassView}
use Rattle.ruled_cell.specs.declared.passes.PassTurn.TheVariants.{Idle, Holding}
use Rattle.ruled_cell.specs.Visits.{entry_list, cell_history, HasNoneBy, visit_at, own_visit}
use Rattle.ruled_cell.specs.Passes.{is_unspent, pass_numbers, after_visit, IsIdle, IsVisit, IsNewEntry}
use Rattle.ruled_cell.specs.Order.{HasNoneAt, IsServed, HasPassedOn}
use Rattle.ruled_cell.specs.Enter.{HasTicket, IsCellAsked, HoldsCell}
use Rattle.ruled_cell.proofs.Lists.{all_append, entries_append, no_entries, entries_same}

module _ (S Q R : Type 0) where
  abbrev M : Type 0
  M = Me (CellState S Q R) (PassView Q R)

  -- what a turn does, where it adds x to the cell
  abbrev pub IsTurn : ℕ → CellState S Q R → Option (Entry Q R) → M → M → Type 0
  IsTurn c k x m m' = (others : List (Visit Q R)) × (m' ≡ (after_visit c x others m.0, [])) × HasNoneBy (pass_numbers m.0) others
      × (k.history ≡ cell_history c (m.0.seen ++ others)) × (k.name ≡ Slot c)

  -- the view after a visit, from all that was before it
  abbrev after_all : ℕ → Option (Entry Q R) → PassView Q R → List (Visit Q R) → PassView Q R
  after_all c x v before = record v { seen = before ++ visit_at c v.number x ∷ []; own = v.own ++ own_visit before (visit_at c v.number x) x; turn = Idle; cell = 0; ticket = 0 }

  first_or : CellState S Q R → List (ℕ × CellState S Q R) → CellState S Q R
  first_or d [] = d
  first_or d (x ∷ xs) = x.1

  module _ (c t : ℕ) (m m2 m3 : M) (ticket : HasTicket c t m) (w : IsServed m m2) (same : m3.0 ≡ m2.0) where
    abbrev holding : PassView Q R
    holding = record m.0 { turn = Holding; seen = m.0.seen ++ w.0 }

    view3 : m3.0 ≡ holding
    view3 = same ∙ ap (λ (z : M). z.0) w.2

    same_cell : (k : CellState S Q R) → m2.1 ≡ (c, k) ∷ [] → k ≡ w.1
    unfolding first_or
    same_cell k e = ap (first_or k) (sym e ∙ ap (λ (z : M). z.1) w.2)

    module _ (k k' : CellState S Q R) (x : Option (Entry Q R)) (had : m2.1 ≡ (c, k) ∷ []) (has_now : m3.1 ≡ (c, k') ∷ []) (more : k'.history ≡ k.history ++ entry_list x) (name : k'.name ≡ k.name) where
      before : k.history ≡ cell_history c (m.0.seen ++ w.0)
      before = ap (λ (z : CellState S Q R). z.history) (same_cell k had) ∙ (w.4 ∙ ap (λ n. cell_history n (m.0.seen ++ w.0)) ticket.1)

      slot : k.name ≡ Slot c
      slot = ap (λ (z : CellState S Q R). z.name) (same_cell k had) ∙ (w.5 ∙ ap (λ n. Slot n) ticket.1)

      pub holds_cell : HoldsCell c t k' x m3
      holds_cell = (
        ap (λ (v : PassView Q R). v.turn) view3,
        ap (λ (v : PassView Q R). v.cell) view3 ∙ ticket.1,
        ap (λ (v : PassView Q R). v.ticket) view3 ∙ ticket.2,
        ap (λ (v : PassView Q R). v.is_numbered) view3 ∙ ticket.3,
        ap (λ (v : PassView Q R). is_unspent v.origin) view3 ∙ ticket.4,
        ticket.5,
        has_now,
        more ∙ ap (λ l. l ++ entry_list x) (before ∙ ap (λ (v : PassView Q R). cell_history c v.seen) (sym view3)),
        name ∙ slot,
      )

      pub is_turn : (m4 : M) → ((k : CellState S Q R) (x : Option (Entry Q R)) → HoldsCell c t k x m3 → HasPassedOn c x m3 m4) → IsTurn c k x m m4
      is_turn m4 passed = let p = subst (λ (v : PassView Q R). (between : List (Visit Q R)) × (m4 ≡ (after_visit c x between v, [])) × HasNoneBy (pass_numbers v) between × HasNoneAt c between) view3 (passed k' x holds_cell) in (
        w.0 ++ p.0,
        p.1 ∙ ap (λ l. (after_all c x m.0 l, [])) (append_assoc m.0.seen w.0 p.0),
        all_append _ w.0 p.0 w.3 p.2,
        before ∙ (sym (append-nil (cell_history c (m.0.seen ++ w.0))) ∙ (ap (λ l. cell_history c (m.0.seen ++ w.0) ++ l) (sym (no_entries c p.0 p.3)) ∙ (sym (entries_append c (m.0.seen ++ w.0) p.0) ∙ ap (cell_history c) (append_assoc m.0.seen w.0 p.0)))),
        slot,
      )

  module _ (c : ℕ) (k : CellState S Q R) (x : Option (Entry Q R)) (m m' : M) (t : IsTurn c k x m m') where
    view_is : m'.0 ≡ after_visit c x t.0 m.0
    view_is = ap (λ (z : M). z.0) t.1

    pub is_visit : IsVisit c x m.0 m'.0
    is_visit = record { others = t.0; view_ = view_is; apart = t.2 }

    pub is_bare : m'.1 ≡ []
    is_bare = ap (λ (z : M). z.1) t.1

    pub is_idle : m.0.is_numbered ≡ true → is_unspent m.0.origin ≡ true → (m'.1 ≡ []) × IsIdle m'.0 × (m'.0.unjoined ≡ m.0.unjoined)
    is_idle a b = (is_bare, (ap (λ (v : PassView Q R). v.turn) view_is, ap (λ (v : PassView Q R). v.is_numbered) view_is ∙ a, ap (λ (v : PassView Q R). is_unspent v.origin) view_is ∙ b), ap (λ (v : PassView Q R). v.unjoined) view_is)

    pub history_is : cell_history c m'.0.seen ≡ k.history ++ entry_list x
    history_is = ap (λ (v : PassView Q R). cell_history c v.seen) view_is ∙ (entries_same c (m.0.seen ++ t.0) (visit_at c m.0.number x) refl ∙ ap (λ l. l ++ entry_list x) (sym t.3))

  pub had_cell : (c : ℕ) (m m2 : M) → m.0.cell ≡ c → m.1 ≡ [] → (w : IsServed m m2) → m2.1 ≡ (c, w.1) ∷ []
  had_cell c m m2 at bare w = ap (λ (z : M). z.1) w.2 ∙ (λ i. (at i, w.1) ∷ bare i)

  module _ (reply : S → Q → R) (next : S → Q → S) (keeps : CellState S Q R → Type 0) (makes : S → Q) (finds : S → Type 0) (actor : Pass) (c t : ℕ) (m m2 m3 : M) (ticket : HasTicket c t m) (w : IsServed m m2) (same : m3.0 ≡ m2.0) where
    -- what the cell has become, whichever the answer was
    pub answers : {E : Type 0} (r : Result (Entry Q R) E) → IfOk r (λ e. IsCellAsked reply next keeps makes finds c actor e m2 m3) → OnErr r (m3 ≡ m2) → (k : CellState S Q R) × (x : Option (Entry Q R)) × HoldsCell c t k x m3
    answers (Ok e) ok err = let k = ok.0 in let k' = cell_after next k e in (k', Some e, holds_cell c t m m2 m3 ticket w same k k' (Some e) ok.1 ok.4 refl refl)
    answers (Err e) ok err = let had = had_cell c m m2 ticket.1 ticket.6 w in (w.1, None, holds_cell c t m m2 m3 ticket w same w.1 w.1 None had (ap (λ (z : M). z.1) err ∙ had) (sym (append-nil w.1.history)) refl)

    module _ (m4 : M) (passed : (k : CellState S Q R) (x : Option (Entry Q R)) → HoldsCell c t k x m3 → HasPassedOn c x m3 m4) where
      ok_turn : (e : Entry Q R) (a : IsCellAsked reply next keeps makes finds c actor e m2 m3) → IsTurn c a.0 (Some e) m m4
      ok_turn e a = let k = a.0 in is_turn c t m m2 m3 ticket w same k (cell_after next k e) (Some e) a.1 a.4 refl refl m4 passed

      err_turn : m3 ≡ m2 → IsTurn c w.1 None m m4
      err_turn err = let had = had_cell c m m2 ticket.1 ticket.6 w in is_turn c t m m2 m3 ticket w same w.1 w.1 None had (ap (λ (z : M). z.1) err ∙ had) (sym (append-nil w.1.history)) refl m4 passed

      pub ends_idle : {E : Type 0} (r : Result (Entry Q R) E) → IfOk r (λ e. IsCellAsked reply next keeps makes finds c actor e m2 m3) → OnErr r (m3 ≡ m2) → (m4.1 ≡ []) × IsIdle m4.0 × (m4.0.unjoined ≡ m.0.unjoined)
      ends_idle (Ok e) ok err = is_idle c ok.0 (Some e) m m4 (ok_turn e ok) ticket.3 ticket.4
      ends_idle (Err e) ok err = is_idle c w.1 None m m4 (err_turn err) ticket.3 ticket.4

      pub ends_visited : {E : Type 0} (r : Result (Entry Q R) E) → IfOk r (λ e. IsCellAsked reply next keeps makes finds c actor e m2 m3) → IfOk r (λ e. IsVisit c (Some e) m.0 m4.0)
      ends_visited (Ok e) ok = is_visit c ok.0 (Some e) m m4 (ok_turn e ok)
      ends_visited (Err e) ok = tt

      pub ends_entered : {E : Type 0} (r : Result (Entry Q R) E) → IfOk r (λ e. IsCellAsked reply next keeps makes finds c actor e m2 m3) → IfOk r (λ e. IsNewEntry reply next keeps makes finds c actor e m4.0)
      ends_entered (Ok e) ok = let t' = ok_turn e ok in record { before = ok.0; name_ = t'.4; history_ = history_is c ok.0 (Some e) m m4 t'; finds_ = ok.2; entry_ = ok.3; before_ = ok.5; after_ = ok.6 }
      ends_entered (Err e) ok = tt

      pub ends_err : {E : Type 0} (r : Result (Entry Q R) E) → OnErr r (m3 ≡ m2) → OnErr r (IsVisit c None m.0 m4.0)
      ends_err (Ok e) err = tt
      ends_err (Err e) err = is_visit c w.1 None m m4 (err_turn err)
