-- What stays true of the seats over a step.
use Rattle.std.proofs.Common.{◌≡◌, ℕ, ◌+◌, ◌<◌, ◌≤◌, List, ◌∷◌, length, set, Bool, true, sym, ap, ◌∙◌, subst, arith, length-set}
use mathlib.Core.Logic.{dite}
use mathlib.Core.Option.{some, some-injective}
use native.Mathlib.Decide.{ℕ_discrete}
use lib.ListN.{get_elem?}
use Rattle.atomic_table.proofs.Lists.{set_here, set_else}
use Rattle.ruled_cell.specs.declared.visits.Visit.{Visit}
use Rattle.ruled_cell.specs.declared.passes.PassView.{PassView}
use Rattle.ruled_cell.specs.declared.passes.PassOrigin.{PassOrigin}
use Rattle.ruled_cell.specs.declared.passes.PassOrigin.TheVariants.{Spent, First, SplitFrom}
use Rattle.ruled_cell.specs.declared.passes.PassTurn.{PassTurn}
use Rattle.ruled_cell.specs.declared.passes.PassTurn.TheVariants.{Idle, Waiting, Holding}
use Rattle.ruled_cell.specs.Visits.{is_listed_number}
use Rattle.ruled_cell.specs.Passes.{is_unspent}
use Rattle.ruled_cell.specs.Order.{IsInFamily, one_if_child, tickets_served, child_count, FitsTurn, HasParent, HasHolder}
use Rattle.ruled_cell.proofs.Lists.{all_as, inside, children_set}

pub turn_rank : PassTurn → ℕ
turn_rank Idle = 0
turn_rank Waiting = 1
turn_rank Holding = 2

pub not_idle_holds : {X : Type 0} {s : PassTurn} → s ≡ Idle → s ≡ Holding → X
unfolding turn_rank
not_idle_holds a b = absurd (let h : 0 ≡ 2 = ap turn_rank (sym a ∙ b) in omega arith)

pub not_waiting_holds : {X : Type 0} {s : PassTurn} → s ≡ Waiting → s ≡ Holding → X
unfolding turn_rank
not_waiting_holds a b = absurd (let h : 1 ≡ 2 = ap turn_rank (sym a ∙ b) in omega arith)

module _ {Q R : Type 0} where
  -- a seat's turn stays as it is: what it needs of the log, the tickets and who has the cells
  pub knows_on : (log log' : List (Visit Q R)) (T T' : ℕ → ℕ) (O O' : ℕ → ℕ → ℕ) (L L' : ℕ → Bool) (cells j c t : ℕ)
      → ((a : ℕ) → T a ≤ T' a) → (t < T c → O c t ≡ j → O' c t ≡ j)
      → (tickets_served c log ≤ t → O c t ≡ j → tickets_served c log' ≤ t)
      → (t ≡ tickets_served c log → O c t ≡ j → L c ≡ true → (tickets_served c log' ≡ tickets_served c log) × (L' c ≡ true))
      → (st : PassTurn) → FitsTurn log T O L cells j c t st → FitsTurn log' T' O' L' cells j c t st
  knows_on log log' T T' O O' L L' cells j c t up own late held Idle k = tt
  knows_on log log' T T' O O' L L' cells j c t up own late held Waiting k = let b = k.2 in let u = up c in (k.0, late k.1 k.3, (let x : ℕ = T c in let y : ℕ = T' c in let b' : t < x = b in let u' : x ≤ y = u in let g : t < y = omega arith in g), own k.2 k.3)
  knows_on log log' T T' O O' L L' cells j c t up own late held Holding k = let b = k.2 in let u = up c in let h = held k.1 k.3 k.4 in
      (k.0, k.1 ∙ sym h.0, (let x : ℕ = T c in let y : ℕ = T' c in let b' : t < x = b in let u' : x ≤ y = u in let g : t < y = omega arith in g), own k.2 k.3, h.1)

  module _ (views : List (PassView Q R)) (id : ℕ) (v w : PassView Q R) (at : get_elem? views id ≡ some v) (same : w.origin ≡ v.origin) where
    -- a step of the seat id leaves who comes from whom
    pub from_stays : (j : ℕ) (k : PassOrigin) → HasParent views j k → HasParent (set views id w) j k
    from_stays j Spent f = tt
    from_stays j First f = f
    from_stays j (SplitFrom p) f = dite (ℕ_discrete p id)
        (λ e. (
          f.0,
          w,
          ap (λ n. get_elem? (set views id w) n) e ∙ set_here views id w (inside views id v at),
          ap is_unspent (same ∙ ap (λ (z : PassView Q R). z.origin) (some-injective v f.1 (sym at ∙ (ap (get_elem? views) (sym e) ∙ f.2)))) ∙ f.3,
        ))
        (λ e. (f.0, f.1, set_else views id p w e ∙ f.2, f.3))

    pub children_stay : (p : ℕ) → child_count p (set views id w) ≡ child_count p views
    children_stay p = let h = children_set p views id v w at in let e : one_if_child p w.origin ≡ one_if_child p v.origin = ap (one_if_child p) same in
        let a : ℕ = child_count p (set views id w) in let b : ℕ = child_count p views in let x : ℕ = one_if_child p v.origin in let y : ℕ = one_if_child p w.origin in let e' : y ≡ x = e in let h' : a + x ≡ b + y = h in let g : a ≡ b = omega arith in g

    pub belongs_stays : (holder : ℕ → ℕ) (j : ℕ) (u : PassView Q R) → IsInFamily views holder j u → IsInFamily (set views id w) holder j u
    belongs_stays holder j u b = record {
      named = b.named;
      self = b.self;
      others = all_as (λ n. (n < length views) × (holder n ≡ j)) (λ n. (n < length (set views id w)) × (holder n ≡ j)) (λ n h. (subst (λ m. n < m) (sym (length-set views id w)) h.0, h.1)) u.joined b.others;
      from = from_stays j u.origin b.from;
      counts = subst (λ n. n ≤ u.unjoined) (sym (children_stay j)) b.counts;
    }

    pub held_stays : (joins : w.joined ≡ v.joined) (holder : ℕ → ℕ) (x : Visit Q R) → HasHolder views holder x → HasHolder (set views id w) holder x
    held_stays joins holder x h =
        let t : (u : PassView Q R) × (get_elem? (set views id w) (holder x.pass) ≡ some u) × (is_unspent u.origin ≡ true) × (is_listed_number (holder x.pass ∷ u.joined) x.pass ≡ true) = dite (ℕ_discrete (holder x.pass) id)
        (λ e. let u : v ≡ h.1 = some-injective v h.1 (sym at ∙ (ap (get_elem? views) (sym e) ∙ h.2)) in (
          w,
          ap (λ n. get_elem? (set views id w) n) e ∙ set_here views id w (inside views id v at),
          ap is_unspent (same ∙ ap (λ (z : PassView Q R). z.origin) u) ∙ h.3,
          ap (λ l. is_listed_number (holder x.pass ∷ l) x.pass) (joins ∙ ap (λ (z : PassView Q R). z.joined) u) ∙ h.4,
        ))
        (λ e. (h.1, set_else views id (holder x.pass) w e ∙ h.2, h.3, h.4))
        in (subst (λ m. x.pass < m) (sym (length-set views id w)) h.0, t.0, t.1, t.2, t.3)
