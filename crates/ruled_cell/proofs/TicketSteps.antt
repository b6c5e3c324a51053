-- Drawing a ticket, looking whether it is served, and passing on keep the rule.
use Rattle.std.proofs.Common.{◌≡◌, ◌≢◌, ℕ, ◌+◌, ◌*◌, ◌<◌, ◌≤◌, eqb, List, [], ◌∷◌, ◌++◌, length, set, get_or, slice_index, ◌||◌, map, IsPermutation, Bool, true, false, Option, Some, None, sym, refl, ap, ◌∙◌, subst, ⊎_elim, arith, length-set, get_or-set_other, get_or-set_same, eq-eqb, ne_eqb}
use mathlib.Core.Logic.{dite}
use Rattle.std.proofs.lemmas.List.Sorted.{IsPermutation-append_left}
use mathlib.Core.List.{map-append, append-nil, append_assoc, append_cancel_left}
use mathlib.Core.Option.{none, some, some-injective}
use native.Mathlib.Decide.{ℕ_discrete}
use lib.ListN.{get_elem?}
use lib.Seq.{set-get_or}
use prog.Atomic.{either}
use Rattle.atomic_table.specs.Table.{State, Me, step, Act, keeps, takes, gives, stepped, Allows}
use Rattle.atomic_table.proofs.Lists.{at_set, set_here, set_else, set_again}
use Rattle.wedge_events.specs.declared.events.CellName.TheVariants.{Slot}
use Rattle.journal_cell.specs.declared.entry.Entry.{Entry}
use Rattle.journal_cell.specs.Histories.{CellState}
use Rattle.ruled_cell.specs.declared.visits.Visit.{Visit}
use Rattle.ruled_cell.specs.declared.visits.OwnVisit.{OwnVisit}
use Rattle.ruled_cell.specs.declared.passes.PassView.{PassView}
use Rattle.ruled_cell.specs.declared.passes.PassTurn.TheVariants.{Idle, Waiting, Holding}
use Rattle.ruled_cell.specs.Visits.{Each, is_listed_number, entry_list, cell_history, HasNoneBy, visit_at, if_entered, own_visit, visit_of, IsListedIn}
use Rattle.ruled_cell.specs.Passes.{after_visit, is_unspent}
use Rattle.ruled_cell.specs.Order.{tickets_served, visits_by, FitsTurn, HasHolder, FitsSeat, FitsCell, IsTicketOrder, DrawsTicket, LooksAtServing, PassesOn}
use Rattle.ruled_cell.proofs.Lists.{put, put_here, put_else, by_bool, not_both, all_append, all_as, inside, has_all, entries_append, no_entries, entries_other, entries_same, served_other, served_same, own_one, own_other}
use Rattle.ruled_cell.proofs.Family.{not_idle_holds, not_waiting_holds, knows_on, belongs_stays, held_stays}

abbrev tickets : List ℕ → ℕ → ℕ
tickets ws c = slice_index ws (16 * c)

-- who draws the ticket n of the cell c is the seat id
abbrev drawn : (ℕ → ℕ → ℕ) → ℕ → ℕ → ℕ → ℕ → ℕ → ℕ
drawn O c n id = put O c (put (O c) n id)

drawn_here : (O : ℕ → ℕ → ℕ) (c n id : ℕ) → drawn O c n id c n ≡ id
drawn_here O c n id = ap (λ f. f n) (put_here O c (put (O c) n id)) ∙ put_here (O c) n id

drawn_else : (O : ℕ → ℕ → ℕ) (c n id a t : ℕ) → (a ≡ c → t ≢ n) → drawn O c n id a t ≡ O a t
drawn_else O c n id a t other = dite (ℕ_discrete a c)
    (λ e. ap (λ k. drawn O c n id k t) e ∙ (ap (λ f. f t) (put_here O c (put (O c) n id)) ∙ (put_else (O c) n id t (other e) ∙ ap (λ k. O k t) (sym e))))
    (λ e. ap (λ f. f t) (put_else O c (put (O c) n id) a e))

module _ (S Q R : Type 0) where
  abbrev V : Type 0
  V = PassView Q R

  abbrev K : Type 0
  K = CellState S Q R

  abbrev St : Type 0
  St = State K V

  abbrev M : Type 0
  M = Me K V

  -- nothing changed
  same_rule : (s : St) (r : IsTicketOrder s) (i id : ℕ) (v : V) (cs : List (ℕ × K)) → get_elem? s.views id ≡ some v → IsTicketOrder (stepped s i (get_or s.words i 0) id cs v keeps)
  same_rule s r i id v cs at = subst (λ (z : List ℕ × List V). IsTicketOrder record { words = z.0; homes = s.homes; views = z.1 }) (λ k. (sym (set-get_or s.words i 0) k, sym (set_again s.views id v at) k)) r

  -- a word has changed of which the rule says nothing: an odd one
  pub rings : (slots id i k : ℕ) (me : M) (f : ℕ → ℕ) → i ≡ 2 * k + 1 → Allows IsTicketOrder slots id me i f (λ n m. m ≡ me)
  rings slots id i k me f odd s r deep at fits =
      let y : ℕ = f (get_or s.words i 0) in let ws : List ℕ = set s.words i y in
      let same : (c : ℕ) → get_or ws (16 * c) 0 ≡ get_or s.words (16 * c) 0 = λ c. get_or-set_other s.words i (16 * c) y 0 (λ z. omega (arith, odd, z)) in (
        me.0,
        keeps,
        tt,
        subst (λ (vs : List V). IsTicketOrder record { words = ws; homes = s.homes; views = vs }) (sym (set_again s.views id me.0 at)) record {
          log = r.log;
          cells = r.cells;
          owner = r.owner;
          lent = r.lent;
          holder = r.holder;
          wide = length-set s.words i y ∙ r.wide;
          deep = r.deep;
          each_cell = λ a h. let ok = r.each_cell a h in record {
            serving = get_or-set_other s.words i (16 * a + 8) y 0 (λ z. omega (arith, odd, z)) ∙ ok.serving;
            drawn = subst (λ n. tickets_served a r.log ≤ n) (sym (same a)) ok.drawn;
            home = ok.home;
            away = ok.away;
          };
          each_seat = λ j u e. subst (λ (T : ℕ → ℕ). FitsSeat r.log T r.owner r.lent r.cells s.views r.holder j u) (λ x c. sym (same c) x) (r.each_seat j u e);
          each_served = r.each_served;
        },
        refl,
      )

  pub draws : (slots id : ℕ) (me : M) (c n : ℕ) → me.0.turn ≡ Idle → is_unspent me.0.origin ≡ true → c < slots
      → Allows IsTicketOrder slots id me (16 * c) (λ x. either (eqb x n) (n + 1) x) (DrawsTicket (step slots (16 * c) n (n + 1) none) me)
  draws slots id me c n idle live small s r deep at fits = let i : ℕ = 16 * c in let x : ℕ = get_or s.words i 0 in let wide = r.wide in let d = r.deep in let near : c < r.cells = omega arith in
      let this = r.each_seat id me.0 at in let T = tickets s.words in
      dite (ℕ_discrete x n)
      (λ hit. let w : V = record me.0 { turn = Waiting; cell = c; ticket = n } in let ws : List ℕ = set s.words i (n + 1) in let O = drawn r.owner c n id in let vs : List V = set s.views id w in
      let here : get_or ws i 0 ≡ n + 1 = get_or-set_same s.words i (n + 1) 0 (omega arith) in
      let up : (a : ℕ) → T a ≤ tickets ws a = λ a. dite (ℕ_discrete a c) (λ e. subst (λ k. tickets s.words k ≤ tickets ws k) (sym e) (let g : x ≤ get_or ws i 0 = omega arith in g))
      (λ e. let g : get_or ws (16 * a) 0 ≡ get_or s.words (16 * a) 0 = get_or-set_other s.words i (16 * a) (n + 1) 0 (λ z. e (omega arith)) in let y : ℕ = get_or ws (16 * a) 0 in let z : ℕ = get_or s.words (16 * a) 0 in let g' : y ≡ z = g in let k : z ≤ y = omega arith in k) in
      let others : (a t : ℕ) → t < T a → O a t ≡ r.owner a t = λ a t h. drawn_else r.owner c n id a t (λ e z. let h' : t < get_or s.words (16 * c) 0 = subst (λ k. t < tickets s.words k) e h in omega arith) in (
        w,
        keeps,
        tt,
        subst (λ b. IsTicketOrder (stepped s i (either b (n + 1) x) id me.1 w keeps)) (sym (eq-eqb x n hit)) record {
          log = r.log;
          cells = r.cells;
          owner = O;
          lent = r.lent;
          holder = r.holder;
          wide = length-set s.words i (n + 1) ∙ r.wide;
          deep = r.deep;
          each_cell = λ a h. let ok = r.each_cell a h in record {
            serving = get_or-set_other s.words i (16 * a + 8) (n + 1) 0 (λ z. omega arith) ∙ ok.serving;
            drawn = (let p = ok.drawn in let q = up a in let e : ℕ = tickets_served a r.log in let f : ℕ = get_or s.words (16 * a) 0 in let g : ℕ = get_or ws (16 * a) 0 in let p' : e ≤ f = p in let q' : f ≤ g = q in let h : e ≤ g = omega arith in h);
            home = ok.home;
            away = λ l. let t = ok.away l in let k = r.each_seat (r.owner a (tickets_served a r.log)) t.0 t.1 in
                let known = subst (FitsTurn r.log T r.owner r.lent r.cells (r.owner a (tickets_served a r.log)) t.0.cell t.0.ticket) t.2 k.knows in
                let under : tickets_served a r.log < T a = subst (λ b. b < T a) (known.1 ∙ ap (λ b. tickets_served b r.log) t.3) (subst (λ b. t.0.ticket < T b) t.3 known.2) in
                let same = others a (tickets_served a r.log) under in
                (t.0, ap (get_elem? vs) same ∙ (set_else s.views id (r.owner a (tickets_served a r.log)) w (λ e. not_idle_holds (ap (λ (z : V). z.turn) (sym (some-injective me.0 t.0 (sym at ∙ (ap (get_elem? s.views) (sym e) ∙ t.1)))) ∙ idle) t.2) ∙ t.1), t.2, t.3);
          };
          each_seat = λ j u e. ⊎_elim
              (λ (t : (j ≡ id) × (w ≡ u)). subst (λ (z : ℕ × V). FitsSeat r.log (tickets ws) O r.lent r.cells vs r.holder z.0 z.1) (λ k. (sym t.0 k, t.1 k)) record {
                knows = (near, (let ok = (r.each_cell c near).drawn in let y : ℕ = tickets_served c r.log in let g : y ≤ x = ok in let g' : y ≤ n = omega arith in g'), (let g : n < get_or ws i 0 = omega arith in g), drawn_here r.owner c n id);
                idle = λ z. not_both live z;
                behind = λ z. let b = this.behind z in record { rest = b.rest; begins = b.begins; by_others = b.by_others; still = λ st. not_waiting_holds refl st; stands = b.stands; owns = b.owns };
                belongs = λ z. let b = belongs_stays s.views id me.0 w at refl r.holder id me.0 (this.belongs z) in record { named = b.named; self = b.self; others = b.others; from = b.from; counts = b.counts };
              })
              (λ (t : (j ≢ id) × (get_elem? s.views j ≡ some u)). let k = r.each_seat j u t.1 in record {
                knows = knows_on r.log r.log T (tickets ws) r.owner O r.lent r.lent r.cells j u.cell u.ticket up (λ a b. others u.cell u.ticket a ∙ b) (λ a _. a) (λ _ _ a. (refl, a)) u.turn k.knows;
                idle = k.idle;
                behind = k.behind;
                belongs = λ z. belongs_stays s.views id me.0 w at refl r.holder j u (k.belongs z);
              })
              (at_set s.views id j w u e);
          each_served = all_as (HasHolder s.views r.holder) (HasHolder vs r.holder) (held_stays s.views id me.0 w at refl refl r.holder) r.log r.each_served;
        },
        ((λ _ a e. let same : c ≡ a = omega arith in λ k. (record me.0 { turn = Waiting; cell = same k; ticket = n }, me.1)), λ other. absurd (other hit)),
      ))
      (λ miss. (
        me.0,
        keeps,
        tt,
        subst (λ b. IsTicketOrder (stepped s i (either b (n + 1) x) id me.1 me.0 keeps)) (sym (ne_eqb x n miss)) (same_rule s r i id me.0 me.1 at),
        ((λ hit. absurd (miss hit)), λ _. refl),
      ))

  pub looks : (slots id i : ℕ) (me : M) → i ≡ 16 * me.0.cell + 8 → me.0.turn ≡ Waiting → is_unspent me.0.origin ≡ true → me.0.is_numbered ≡ true
      → Allows IsTicketOrder slots id me i (λ x. x) (LooksAtServing (step slots i 0 0 none) me)
  looks slots id i me place waiting live named s r deep at fits = let c : ℕ = me.0.cell in let t : ℕ = me.0.ticket in let x : ℕ = get_or s.words i 0 in let T = tickets s.words in
      let this = r.each_seat id me.0 at in let known = subst (FitsTurn r.log T r.owner r.lent r.cells id c t) waiting this.knows in let near = known.0 in let ok = r.each_cell c near in
      let serving : x ≡ tickets_served c r.log = ap (λ k. get_or s.words k 0) place ∙ ok.serving in
      dite (ℕ_discrete x t)
      (λ hit. let now : tickets_served c r.log ≡ t = sym serving ∙ hit in
      let owns : r.owner c (tickets_served c r.log) ≡ id = ap (r.owner c) now ∙ known.3 in
      let free : r.lent c ≡ false = by_bool (r.lent c) (λ l. let a = ok.away l in not_waiting_holds (ap (λ (z : V). z.turn) (some-injective a.0 me.0 (sym a.1 ∙ (ap (get_elem? s.views) owns ∙ at))) ∙ waiting) a.2) (λ l. l) in
      let home = ok.home free in let b = this.behind live in let seen : List (Visit Q R) = me.0.seen ++ b.rest in
      let w : V = record me.0 { turn = Holding; seen = seen } in let vs : List V = set s.views id w in let L : ℕ → Bool = put r.lent c true in
      let is_number : me.0.number ≡ id = (this.belongs live).named named in (
        w,
        takes c home.0,
        home.1,
        subst (λ (ws : List ℕ). IsTicketOrder record { words = ws; homes = set s.homes c none; views = vs }) (sym (set-get_or s.words i 0)) record {
          log = r.log;
          cells = r.cells;
          owner = r.owner;
          lent = L;
          holder = r.holder;
          wide = r.wide;
          deep = length-set s.homes c none ∙ r.deep;
          each_cell = λ a h. let o = r.each_cell a h in record {
            serving = o.serving;
            drawn = o.drawn;
            home = λ l. dite (ℕ_discrete a c) (λ e. not_both (put_here r.lent c true) (ap L (sym e) ∙ l))
                (λ e. let g = o.home (sym (put_else r.lent c true a e) ∙ l) in (g.0, set_else s.homes c a none e ∙ g.1, g.2, g.3));
            away = λ l. dite (ℕ_discrete a c)
                (λ e. (w, ap (λ k. get_elem? vs (r.owner k (tickets_served k r.log))) e ∙ (ap (get_elem? vs) owns ∙ set_here s.views id w (inside s.views id me.0 at)), refl, sym e))
                (λ e. let g = o.away (sym (put_else r.lent c true a e) ∙ l) in
                (g.0, set_else s.views id (r.owner a (tickets_served a r.log)) w (λ z. not_waiting_holds waiting (ap (λ (y : V). y.turn) (some-injective me.0 g.0 (sym at ∙ (ap (get_elem? s.views) (sym z) ∙ g.1))) ∙ g.2)) ∙ g.1, g.2, g.3));
          };
          each_seat = λ j u e. ⊎_elim
              (λ (p : (j ≡ id) × (w ≡ u)). subst (λ (z : ℕ × V). FitsSeat r.log T r.owner L r.cells vs r.holder z.0 z.1) (λ k. (sym p.0 k, p.1 k)) record {
                knows = (near, sym now, known.2, known.3, put_here r.lent c true);
                idle = λ z. not_both live z;
                behind = λ z. record { rest = []; begins = b.begins ∙ sym (append-nil seen); by_others = tt; still = λ _. tt; stands = b.stands; owns = b.owns };
                belongs = λ z. let g = belongs_stays s.views id me.0 w at refl r.holder id me.0 (this.belongs z) in record { named = g.named; self = g.self; others = g.others; from = g.from; counts = g.counts };
              })
              (λ (p : (j ≢ id) × (get_elem? s.views j ≡ some u)). let k = r.each_seat j u p.1 in record {
                knows = knows_on r.log r.log T T r.owner r.owner r.lent L r.cells j u.cell u.ticket (λ a. omega arith) (λ _ a. a) (λ a _. a)
                    (λ _ _ a. (refl, dite (ℕ_discrete u.cell c) (λ e. ap L e ∙ put_here r.lent c true) (λ e. put_else r.lent c true u.cell e ∙ a))) u.turn k.knows;
                idle = k.idle;
                behind = k.behind;
                belongs = λ z. belongs_stays s.views id me.0 w at refl r.holder j u (k.belongs z);
              })
              (at_set s.views id j w u e);
          each_served = all_as (HasHolder s.views r.holder) (HasHolder vs r.holder) (held_stays s.views id me.0 w at refl refl r.holder) r.log r.each_served;
        },
        ((λ _. (b.rest, home.0, refl, subst (λ n. HasNoneBy (n ∷ me.0.joined) b.rest) (sym is_number) b.by_others, home.2 ∙ ap (cell_history c) b.begins, home.3)), λ other. absurd (other hit)),
      ))
      (λ miss. (me.0, keeps, tt, same_rule s r i id me.0 me.1 at, ((λ hit. absurd (miss hit)), λ _. refl)))

  first_or : Entry Q R → List (Entry Q R) → Entry Q R
  first_or d [] = d
  first_or d (e ∷ es) = e

  is_told : List (Entry Q R) → Bool
  is_told [] = false
  is_told (e ∷ es) = true

  same_told : (a b : Option (Entry Q R)) → entry_list a ≡ entry_list b → a ≡ b
  unfolding first_or is_told
  same_told None None e = refl
  same_told None (Some y) e = not_both refl (ap is_told (sym e))
  same_told (Some x) None e = not_both refl (ap is_told e)
  same_told (Some x) (Some y) e = ap (λ l. let z : Option (Entry Q R) = Some (first_or x l) in z) e

  kept_or : K → List (ℕ × K) → K
  kept_or d [] = d
  kept_or d (x ∷ xs) = x.1

  later : (log : List (Visit Q R)) (one : Visit Q R) (d : OwnVisit Q R) → IsListedIn log d → IsListedIn (log ++ one ∷ []) d
  later log one d h = (h.0 ++ one ∷ [], ap (λ l. l ++ one ∷ []) h.1 ∙ append_assoc (d.before ++ d.visit ∷ []) h.0 (one ∷ []))

  stands_new : (log upto : List (Visit Q R)) (one : Visit Q R) (x : Option (Entry Q R)) → log ≡ upto ++ one ∷ [] → Each (IsListedIn log) (own_visit upto one x)
  stands_new log upto one None e = tt
  stands_new log upto one (Some y) e = (([], e ∙ sym (append-nil (upto ++ one ∷ []))), tt)

  own_visits_are : (upto : List (Visit Q R)) (one : Visit Q R) (x : Option (Entry Q R)) → map visit_of (own_visit upto one x) ≡ if_entered one x
  own_visits_are upto one None = refl
  own_visits_are upto one (Some y) = refl

  owned : (id : ℕ) (joined : List ℕ) (log : List (Visit Q R)) (this : List (OwnVisit Q R)) (upto : List (Visit Q R)) (one : Visit Q R) (x : Option (Entry Q R)) → is_listed_number (id ∷ joined) one.pass ≡ true
      → IsPermutation (map visit_of this) (visits_by (id ∷ joined) log) → IsPermutation (map visit_of (this ++ own_visit upto one one.entry)) (visits_by (id ∷ joined) (log ++ one ∷ []))
  owned id joined log this upto one x h p = subst (λ l. IsPermutation l (visits_by (id ∷ joined) (log ++ one ∷ []))) (sym (map-append visit_of this (own_visit upto one one.entry) ∙ ap (λ l. map visit_of this ++ l) (own_visits_are upto one one.entry)))
      (subst (IsPermutation (map visit_of this ++ if_entered one one.entry)) (sym (own_one (id ∷ joined) log one h)) (IsPermutation-append_left (if_entered one one.entry) (map visit_of this) (visits_by (id ∷ joined) log) p))

  pub passes : (slots id i y : ℕ) (me : M) (k : K) (x : Option (Entry Q R)) → i ≡ 16 * me.0.cell + 8 → y ≡ me.0.ticket + 1 → me.0.turn ≡ Holding → is_unspent me.0.origin ≡ true → me.0.is_numbered ≡ true
      → me.1 ≡ (me.0.cell, k) ∷ [] → k.history ≡ cell_history me.0.cell me.0.seen ++ entry_list x → k.name ≡ Slot me.0.cell
      → Allows IsTicketOrder slots id me i (λ _. y) (λ _. PassesOn (step slots i y 0 none) me y)
  unfolding kept_or
  passes slots id i y me k x place next holds live named carried history name s r deep at fits = let c : ℕ = me.0.cell in let t : ℕ = me.0.ticket in let T = tickets s.words in let wide = r.wide in let deep' = r.deep in
      let this = r.each_seat id me.0 at in let known = subst (FitsTurn r.log T r.owner r.lent r.cells id c t) holds this.knows in let near = known.0 in let ok = r.each_cell c near in
      let b = this.behind live in let fam = this.belongs live in let is_number : me.0.number ≡ id = fam.named named in let one : Visit Q R = visit_at c me.0.number x in
      let log : List (Visit Q R) = r.log ++ one ∷ [] in let seen : List (Visit Q R) = (me.0.seen ++ b.rest) ++ one ∷ [] in
      let upto : List (Visit Q R) = me.0.seen ++ b.rest in let w : V = after_visit c x b.rest me.0 in let vs : List V = set s.views id w in let ws : List ℕ = set s.words i y in let L : ℕ → Bool = put r.lent c false in let hs = set s.homes c (some k) in
      let ticket : t ≡ tickets_served c r.log = known.1 in
      let by_this : is_listed_number (id ∷ me.0.joined) one.pass ≡ true = ap (λ z. z || is_listed_number me.0.joined me.0.number) (eq-eqb me.0.number id is_number) in
      let same_tickets : (a : ℕ) → tickets ws a ≡ T a = λ a. get_or-set_other s.words i (16 * a) y 0 (λ z. omega arith) in
      let more : tickets_served c log ≡ tickets_served c r.log + 1 = served_same c r.log one refl in
      let mine_alone : (j : ℕ) (u : V) → j ≢ id → u.cell ≡ c → u.ticket ≡ tickets_served c r.log → r.owner u.cell u.ticket ≡ j → ⊥ = λ j u other e f g. other (sym g ∙ ((λ z. r.owner (e z) ((f ∙ sym ticket) z)) ∙ known.3)) in
      let whole : cell_history c log ≡ k.history = entries_same c r.log one refl ∙ (ap (λ l. cell_history c l ++ entry_list x) b.begins ∙ (ap (λ l. l ++ entry_list x) (entries_append c me.0.seen b.rest ∙ (ap (λ l. cell_history c me.0.seen ++ l) (no_entries c b.rest (b.still holds)) ∙ append-nil (cell_history c me.0.seen))) ∙ sym history)) in (
        w,
        gives,
        tt,
        subst (λ (cs : List (ℕ × K)). IsTicketOrder (stepped s i y id cs w gives)) (sym carried) record {
          log = log;
          cells = r.cells;
          owner = r.owner;
          lent = L;
          holder = r.holder;
          wide = length-set s.words i y ∙ r.wide;
          deep = length-set s.homes c (some k) ∙ r.deep;
          each_cell = λ a h. let o = r.each_cell a h in dite (ℕ_discrete a c)
              (λ e. subst (λ (z : ℕ). FitsCell log r.owner L record { words = ws; homes = hs; views = vs } z) (sym e) record {
                serving = ap (λ z. get_or ws z 0) (sym place) ∙ (get_or-set_same s.words i y 0 (omega arith) ∙ (next ∙ (ap (λ z. z + 1) ticket ∙ sym more)));
                drawn = (let lt = known.2 in let f : ℕ = T c in let lt' : t < f = lt in let st = same_tickets c in let f' : ℕ = tickets ws c in let st' : f' ≡ f = st in let m : ℕ = tickets_served c log in let n : ℕ = tickets_served c r.log in let more' : m ≡ n + 1 = more in let tk : t ≡ n = ticket in let g : m ≤ f' = omega arith in g);
                home = λ _. (k, set_here s.homes c (some k) (omega arith), sym whole, name);
                away = λ l. not_both l (put_here r.lent c false);
              })
              (λ e. let n : ℕ = tickets_served a r.log in let less : tickets_served a log ≡ n = served_other a r.log one (λ z. e (sym z)) in record {
                serving = get_or-set_other s.words i (16 * a + 8) y 0 (λ z. e (omega arith)) ∙ (o.serving ∙ sym less);
                drawn = (let d = o.drawn in let f : ℕ = T a in let d' : n ≤ f = d in let st = same_tickets a in let f' : ℕ = tickets ws a in let st' : f' ≡ f = st in let m : ℕ = tickets_served a log in let less' : m ≡ n = less in let g : m ≤ f' = omega arith in g);
                home = λ l. let g = o.home (sym (put_else r.lent c false a e) ∙ l) in (g.0, set_else s.homes c a (some k) e ∙ g.1, g.2 ∙ sym (entries_other a r.log one (λ z. e (sym z))), g.3);
                away = λ l. let g = o.away (sym (put_else r.lent c false a e) ∙ l) in
                    (g.0, ap (λ z. get_elem? vs (r.owner a z)) less ∙ (set_else s.views id (r.owner a n) w (λ z. e (sym (ap (λ (q : V). q.cell) (some-injective me.0 g.0 (sym at ∙ (ap (get_elem? s.views) (sym z) ∙ g.1))) ∙ g.3))) ∙ g.1), g.2, g.3);
              });
          each_seat = λ j u e. ⊎_elim
              (λ (p : (j ≡ id) × (w ≡ u)). subst (λ (z : ℕ × V). FitsSeat log (tickets ws) r.owner L r.cells vs r.holder z.0 z.1) (λ z. (sym p.0 z, p.1 z)) record {
                knows = tt;
                idle = λ z. not_both live z;
                behind = λ z. record {
                  rest = [];
                  begins = ap (λ l. l ++ one ∷ []) b.begins ∙ sym (append-nil seen);
                  by_others = tt;
                  still = λ _. tt;
                  stands = all_append _ me.0.own (own_visit upto one x) (all_as (IsListedIn r.log) (IsListedIn log) (λ d h. later r.log one d h) me.0.own b.stands) (stands_new log upto one x (ap (λ l. l ++ one ∷ []) b.begins));
                  owns = owned id me.0.joined r.log me.0.own upto one x by_this b.owns;
                };
                belongs = λ z. let g = belongs_stays s.views id me.0 w at refl r.holder id me.0 (this.belongs z) in record { named = g.named; self = g.self; others = g.others; from = g.from; counts = g.counts };
              })
              (λ (p : (j ≢ id) × (get_elem? s.views j ≡ some u)). let q = r.each_seat j u p.1 in record {
                knows = knows_on r.log log T (tickets ws) r.owner r.owner r.lent L r.cells j u.cell u.ticket
                    (λ a. let st = same_tickets a in let f : ℕ = T a in let f' : ℕ = tickets ws a in let st' : f' ≡ f = st in let g : f ≤ f' = omega arith in g)
                    (λ _ a. a)
                    (λ d o. dite (ℕ_discrete u.cell c)
                    (λ z. dite (ℕ_discrete u.ticket (tickets_served c r.log)) (λ f. absurd (mine_alone j u p.0 z f o))
                    (λ f. subst (λ v. tickets_served v log ≤ u.ticket) (sym z) (let d' : tickets_served c r.log ≤ u.ticket = subst (λ v. tickets_served v r.log ≤ u.ticket) z d in let m : ℕ = tickets_served c log in let n : ℕ = tickets_served c r.log in let more' : m ≡ n + 1 = more in let f' : u.ticket ≢ n = f in let d'' : n ≤ u.ticket = d' in let g : m ≤ u.ticket = omega arith in g)))
                    (λ z. subst (λ n. n ≤ u.ticket) (sym (served_other u.cell r.log one (λ v. z (sym v)))) d))
                    (λ d o l. dite (ℕ_discrete u.cell c) (λ z. absurd (mine_alone j u p.0 z (d ∙ ap (λ v. tickets_served v r.log) z) o))
                    (λ z. (served_other u.cell r.log one (λ v. z (sym v)), put_else r.lent c false u.cell z ∙ l)))
                    u.turn q.knows;
                idle = q.idle;
                behind = λ z. let a = q.behind z in let f = q.belongs z in let not_theirs : is_listed_number (j ∷ u.joined) one.pass ≡ false = (by_bool (is_listed_number (j ∷ u.joined) one.pass)
                    (λ y'. absurd (p.0 (sym (has_all (λ n. r.holder n ≡ j) (j ∷ u.joined) one.pass (f.self, all_as (λ n. (n < length s.views) × (r.holder n ≡ j)) (λ n. r.holder n ≡ j) (λ _ h. h.1) u.joined f.others) y') ∙ (ap r.holder is_number ∙ fam.self)))) (λ n. n)) in record {
                      rest = a.rest ++ one ∷ [];
                      begins = ap (λ l. l ++ one ∷ []) a.begins ∙ append_assoc u.seen a.rest (one ∷ []);
                      by_others = all_append _ a.rest (one ∷ []) a.by_others (not_theirs, tt);
                      stands = all_as (IsListedIn r.log) (IsListedIn log) (λ d h. later r.log one d h) u.own a.stands;
                      owns = subst (IsPermutation (map visit_of u.own)) (sym (own_other (j ∷ u.joined) r.log one not_theirs)) a.owns;
                      still = λ h. all_append _ a.rest (one ∷ []) (a.still h) (ne_eqb c u.cell (λ z. let kn = subst (FitsTurn r.log T r.owner r.lent r.cells j u.cell u.ticket) h q.knows in mine_alone j u p.0 (sym z) (kn.1 ∙ ap (λ v. tickets_served v r.log) (sym z)) kn.3), tt);
                    };
                belongs = λ z. belongs_stays s.views id me.0 w at refl r.holder j u (q.belongs z);
              })
              (at_set s.views id j w u e);
          each_served = all_append (HasHolder vs r.holder) r.log (one ∷ []) (all_as (HasHolder s.views r.holder) (HasHolder vs r.holder) (held_stays s.views id me.0 w at refl refl r.holder) r.log r.each_served) (
            held_stays s.views id me.0 w at refl refl r.holder one (
              subst (λ n. n < length s.views) (sym is_number) (inside s.views id me.0 at),
              me.0,
              ap (get_elem? s.views) (ap r.holder is_number ∙ fam.self) ∙ at,
              live,
              ap (λ z. z || is_listed_number me.0.joined me.0.number) (eq-eqb me.0.number (r.holder me.0.number) (is_number ∙ sym (ap r.holder is_number ∙ fam.self))),
            ),
            tt,
          );
        },
        λ k' x' carried' history'.
            let same_k : k ≡ k' = ap (kept_or k) (sym carried ∙ carried') in
            let same_x : x ≡ x' = same_told x x' (append_cancel_left (cell_history c me.0.seen) (entry_list x) (entry_list x') (sym history ∙ (ap (λ (z : K). z.history) same_k ∙ history'))) in
            (b.rest, (λ z. (after_visit c (same_x z) b.rest me.0, Rattle.atomic_table.specs.Table.rest (carried z))), subst (λ n. HasNoneBy (n ∷ me.0.joined) b.rest) (sym is_number) b.by_others, b.still holds),
      )
