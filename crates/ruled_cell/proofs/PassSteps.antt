-- The table as it begins, splitting and joining passes, and the end.
use Rattle.std.proofs.Common.{◌≡◌, ◌≢◌, ℕ, zero, suc, ◌+◌, ◌-◌, ◌*◌, ◌<◌, ◌≤◌, eqb, leb, List, [], ◌∷◌, ◌++◌, map, IsPermutation, length, set, get_or, slice_index, ◌||◌, true, false, cond, sym, refl, ap, ◌∙◌, subst, ⊎_elim, arith, length-set, length-append, eq-eqb, ne_eqb, leb-true, leb-false}
use mathlib.Core.Logic.{dite}
use Rattle.std.proofs.lemmas.List.Sorted.{IsPermutation-refl, IsPermutation-append, IsPermutation-trans}
use mathlib.Core.List.{map-append, append-nil}
use mathlib.Core.Option.{none, some, some-injective, some-ne-none}
use native.Mathlib.Decide.{ℕ_discrete}
use lib.ListN.{get_elem?, length-map}
use lib.Seq.{set-get_or}
use Rattle.atomic_table.specs.Table.{State, Me, step, keeps, Allows, Splits, Joins, opening, Final, Seen}
use Rattle.atomic_table.proofs.Lists.{at_set, set_here, set_else, at_longer, at_map}
use Rattle.wedge_events.specs.declared.events.CellName.TheVariants.{Slot}
use Rattle.journal_cell.specs.Histories.{CellState}
use Rattle.ruled_cell.specs.declared.visits.Visit.{Visit}
use Rattle.ruled_cell.specs.declared.passes.PassView.{PassView}
use Rattle.ruled_cell.specs.declared.passes.PassOrigin.{PassOrigin}
use Rattle.ruled_cell.specs.declared.passes.PassOrigin.TheVariants.{Spent, First, SplitFrom}
use Rattle.ruled_cell.specs.declared.passes.PassTurn.TheVariants.{Idle}
use Rattle.ruled_cell.specs.Visits.{HasOnlyBy, Each, is_listed_number, cell_history, HasNoneBy, visit_of, IsListedIn}
use Rattle.ruled_cell.specs.Passes.{IsClosing, is_unspent, pass_numbers, first_view, after_splitting, after_joining}
use Rattle.ruled_cell.specs.Order.{unnumbered_child, one_if_child, tickets_served, HasNoneAt, child_count, visits_by, spent_view, HasSeen, HasParent, HasHolder, FitsSeat, IsTicketOrder, LearnsNumber}
use Rattle.ruled_cell.proofs.Lists.{put, put_here, put_else, by_bool, not_both, or_right, all_append, all_right, all_as, inside, at_end, has_append, has_all, children_set, children_end, counted, none_counted, all_two, suffix, none_own, own_both, all_by}
use Rattle.ruled_cell.proofs.Family.{not_idle_holds, from_stays, children_stay, belongs_stays, held_stays}

alone : {A : Type 0} (a b : A) (j : ℕ) → get_elem? (a ∷ []) j ≡ some b → (j ≡ 0) × (a ≡ b)
alone a b zero e = (refl, some-injective a b e)
alone a b (suc j) e = absurd (some-ne-none b (sym e))

there : {A : Type 0} (l : List A) (i : ℕ) → i < length l → (a : A) × (get_elem? l i ≡ some a)
there [] i h = absurd (omega arith)
there (x ∷ xs) zero h = (x, refl)
there (x ∷ xs) (suc i) h = there xs i (omega arith)

module _ (S Q R : Type 0) where
  abbrev V : Type 0
  V = PassView Q R

  abbrev K : Type 0
  K = CellState S Q R

  abbrev St : Type 0
  St = State K V

  abbrev M : Type 0
  M = Me K V

  abbrev tickets : List ℕ → ℕ → ℕ
  tickets ws c = slice_index ws (16 * c)

  pub begins : (ws : List ℕ) (xs : List K) → length ws ≡ 16 * length xs + 528 → ((i : ℕ) → get_or ws i 0 ≡ 0) → ((c : ℕ) (k : K) → get_elem? xs c ≡ some k → (k.history ≡ []) × (k.name ≡ Slot c))
      → IsTicketOrder (opening ws xs first_view)
  begins ws xs wide zeros bare = record {
    log = [];
    cells = length xs;
    owner = λ _ _. 0;
    lent = λ _. false;
    holder = λ _. 0;
    wide = wide;
    deep = length-map xs (λ (x : K). some x);
    each_cell = λ c h. let k = there xs c h in let b = bare c k.0 k.1 in record {
      serving = zeros (16 * c + 8);
      drawn = omega arith;
      home = λ _. (k.0, at_map (λ (x : K). some x) xs c k.0 k.1, b.0, b.1);
      away = λ z. not_both z refl;
    };
    each_seat = λ j v e. let t = alone first_view v j e in
        subst (λ (z : ℕ × V). FitsSeat [] (tickets ws) (λ _ _. 0) (λ _. false) (length xs) (first_view ∷ []) (λ _. 0) z.0 z.1) (λ k. (sym t.0 k, t.1 k)) record {
          knows = tt;
          idle = λ _. refl;
          behind = λ _. record { rest = []; begins = refl; by_others = tt; still = λ _. tt; stands = tt; owns = IsPermutation-refl [] };
          belongs = λ _. record { named = λ _. refl; self = refl; others = tt; from = refl; counts = omega arith };
        };
    each_served = tt;
  }

  pub numbers_it : (slots id : ℕ) (me : M) → Allows IsTicketOrder slots id me 0 (λ x. x) (LearnsNumber (step slots 0 0 0 none) me)
  numbers_it slots id me s r deep at fits = let this = r.each_seat id me.0 at in let w : V = record me.0 { is_numbered = true; number = id } in let vs : List V = set s.views id w in let T = tickets s.words in (
    w,
    keeps,
    tt,
    subst (λ (ws : List ℕ). IsTicketOrder record { words = ws; homes = s.homes; views = vs }) (sym (set-get_or s.words 0 0)) record {
      log = r.log;
      cells = r.cells;
      owner = r.owner;
      lent = r.lent;
      holder = r.holder;
      wide = r.wide;
      deep = r.deep;
      each_cell = λ a h. let o = r.each_cell a h in record {
        serving = o.serving;
        drawn = o.drawn;
        home = o.home;
        away = λ l. let g = o.away l in dite (ℕ_discrete (r.owner a (tickets_served a r.log)) id)
            (λ e. let u : me.0 ≡ g.0 = some-injective me.0 g.0 (sym at ∙ (ap (get_elem? s.views) (sym e) ∙ g.1)) in
            (w, ap (get_elem? vs) e ∙ set_here s.views id w (inside s.views id me.0 at), ap (λ (z : V). z.turn) u ∙ g.2, ap (λ (z : V). z.cell) u ∙ g.3))
            (λ e. (g.0, set_else s.views id (r.owner a (tickets_served a r.log)) w e ∙ g.1, g.2, g.3));
      };
      each_seat = λ j u e. ⊎_elim
          (λ (p : (j ≡ id) × (w ≡ u)). subst (λ (z : ℕ × V). FitsSeat r.log T r.owner r.lent r.cells vs r.holder z.0 z.1) (λ k. (sym p.0 k, p.1 k)) record {
            knows = this.knows;
            idle = this.idle;
            behind = λ z. let b = this.behind z in record { rest = b.rest; begins = b.begins; by_others = b.by_others; still = b.still; stands = b.stands; owns = b.owns };
            belongs = λ z. let g = belongs_stays s.views id me.0 w at refl r.holder id me.0 (this.belongs z) in record { named = λ _. refl; self = g.self; others = g.others; from = g.from; counts = g.counts };
          })
          (λ (p : (j ≢ id) × (get_elem? s.views j ≡ some u)). let k = r.each_seat j u p.1 in record {
            knows = k.knows;
            idle = k.idle;
            behind = k.behind;
            belongs = λ z. belongs_stays s.views id me.0 w at refl r.holder j u (k.belongs z);
          })
          (at_set s.views id j w u e);
      each_served = all_as (HasHolder s.views r.holder) (HasHolder vs r.holder) (held_stays s.views id me.0 w at refl refl r.holder) r.log r.each_served;
    },
    (id, refl),
  )

  childless_of : (views : List V) (i p : ℕ) (k : PassOrigin) → i < p → HasParent views i k → one_if_child p k ≡ 0
  childless_of views i p Spent h f = refl
  childless_of views i p First h f = refl
  childless_of views i p (SplitFrom q) h f = let l = f.0 in ap (λ z. cond {A = ℕ} z 1 0) (ne_eqb q p (λ e. omega arith))

  childless_spent : (p : ℕ) (k : PassOrigin) → is_unspent k ≡ false → one_if_child p k ≡ 0
  childless_spent p Spent f = refl
  childless_spent p First f = refl
  childless_spent p (SplitFrom q) f = not_both refl f

  -- no seat comes from one that is still to come
  no_child : (s : St) (r : IsTicketOrder s) (p : ℕ) → length s.views ≤ p → child_count p s.views ≡ 0
  no_child s r p far = none_counted p s.views (λ i v e. by_bool (is_unspent v.origin) (λ live. let l = inside s.views i v e in childless_of s.views i p v.origin (omega arith) (((r.each_seat i v e).belongs live).from)) (childless_spent p v.origin))

  pub splits : (id : ℕ) (v : V) → is_unspent v.origin ≡ true → v.is_numbered ≡ true → Splits (IsTicketOrder {S = S} {Q = Q} {R = R}) id v (after_splitting v) (unnumbered_child v)
  splits id v live is_numbered s r at = let this = r.each_seat id v at in let w : V = after_splitting v in let o : V = unnumbered_child v in let n : ℕ = length s.views in let mid : List V = set s.views id w in let vs : List V = mid ++ o ∷ [] in
      let b = this.behind live in let fam = this.belongs live in let is_number : v.number ≡ id = fam.named is_numbered in let H : ℕ → ℕ = put r.holder n n in let T = tickets s.words in let under : id < n = inside s.views id v at in
      let mid_long : length mid ≡ n = length-set s.views id w in
      let H_same : (j : ℕ) → j < n → H j ≡ r.holder j = λ j h. put_else r.holder n n j (λ e. omega arith) in
      let wide : (m : ℕ) → m < n → m < length vs = λ m h. subst (λ k. m < k) (sym (length-append mid (o ∷ []))) (let k : ℕ = length mid in let k' : k ≡ n = mid_long in let g : m < k + 1 = omega arith in g) in
      let childless : child_count n s.views ≡ 0 = no_child s r n (omega arith) in
      let newcomer : HasNoneBy (n ∷ []) r.log = all_as (HasHolder s.views r.holder) (λ (x : Visit Q R). is_listed_number (n ∷ []) x.pass ≡ false) (λ x h. ap (λ z. z || false) (ne_eqb x.pass n (λ y. let h' = h.0 in omega arith))) r.log r.each_served in
      let counted_now : (p : ℕ) → child_count p vs ≡ child_count p s.views + one_if_child p o.origin = λ p. children_end p mid o ∙ ap (λ k. k + one_if_child p o.origin) (children_stay s.views id v w at refl p) in
      let from_on : (j : ℕ) (k : PassOrigin) → HasParent mid j k → HasParent vs j k = from_longer mid o in
      record {
        log = r.log;
        cells = r.cells;
        owner = r.owner;
        lent = r.lent;
        holder = H;
        wide = r.wide;
        deep = r.deep;
        each_cell = λ a h. let c = r.each_cell a h in record {
          serving = c.serving;
          drawn = c.drawn;
          home = c.home;
          away = λ l. let g = c.away l in dite (ℕ_discrete (r.owner a (tickets_served a r.log)) id)
              (λ e. let u : v ≡ g.0 = some-injective v g.0 (sym at ∙ (ap (get_elem? s.views) (sym e) ∙ g.1)) in
              (w, at_longer mid (o ∷ []) (r.owner a (tickets_served a r.log)) w (ap (get_elem? mid) e ∙ set_here s.views id w under), ap (λ (z : V). z.turn) u ∙ g.2, ap (λ (z : V). z.cell) u ∙ g.3))
              (λ e. (g.0, at_longer mid (o ∷ []) (r.owner a (tickets_served a r.log)) g.0 (set_else s.views id (r.owner a (tickets_served a r.log)) w e ∙ g.1), g.2, g.3));
        };
        each_seat = λ j u e. ⊎_elim
            (λ (e' : get_elem? mid j ≡ some u). ⊎_elim
            (λ (p : (j ≡ id) × (w ≡ u)). subst (λ (z : ℕ × V). FitsSeat r.log T r.owner r.lent r.cells vs H z.0 z.1) (λ k. (sym p.0 k, p.1 k)) record {
              knows = this.knows;
              idle = this.idle;
              behind = λ z. let c = this.behind z in record { rest = c.rest; begins = c.begins; by_others = c.by_others; still = c.still; stands = c.stands; owns = c.owns };
              belongs = λ z. record {
                named = fam.named;
                self = H_same id under ∙ fam.self;
                others = all_as (λ m. (m < n) × (r.holder m ≡ id)) (λ m. (m < length vs) × (H m ≡ id)) (λ m h. (wide m h.0, H_same m h.0 ∙ h.1)) v.joined fam.others;
                from = from_on id v.origin (from_stays s.views id v w at refl id v.origin fam.from);
                counts = (let g = counted_now id in let c = fam.counts in let one : one_if_child id o.origin ≡ 1 = ap (λ z. cond {A = ℕ} z 1 0) (eq-eqb v.number id is_number) in
                    let a : ℕ = child_count id vs in let d : ℕ = child_count id s.views in let f : ℕ = one_if_child id o.origin in let g' : a ≡ d + f = g in let c' : d ≤ v.unjoined = c in let one' : f ≡ 1 = one in let z : a ≤ v.unjoined + 1 = omega arith in z);
              };
            })
            (λ (p : (j ≢ id) × (get_elem? s.views j ≡ some u)). let q = r.each_seat j u p.1 in let j_under : j < n = inside s.views j u p.1 in record {
              knows = q.knows;
              idle = q.idle;
              behind = q.behind;
              belongs = λ z. let f = q.belongs z in record {
                named = f.named;
                self = H_same j j_under ∙ f.self;
                others = all_as (λ m. (m < n) × (r.holder m ≡ j)) (λ m. (m < length vs) × (H m ≡ j)) (λ m h. (wide m h.0, H_same m h.0 ∙ h.1)) u.joined f.others;
                from = from_on j u.origin (from_stays s.views id v w at refl j u.origin f.from);
                counts = (let g = counted_now j in let c = f.counts in let none : one_if_child j o.origin ≡ 0 = ap (λ z. cond {A = ℕ} z 1 0) (ne_eqb v.number j (λ y. p.0 (sym y ∙ is_number))) in
                    let a : ℕ = child_count j vs in let d : ℕ = child_count j s.views in let f : ℕ = one_if_child j o.origin in let g' : a ≡ d + f = g in let c' : d ≤ u.unjoined = c in let none' : f ≡ 0 = none in let z : a ≤ u.unjoined = omega arith in z);
              };
            })
            (at_set s.views id j w u e'))
            (λ (p : (j ≡ length mid) × (o ≡ u)). subst (λ (z : ℕ × V). FitsSeat r.log T r.owner r.lent r.cells vs H z.0 z.1) (λ k. (sym (p.0 ∙ mid_long) k, p.1 k)) record {
              knows = tt;
              idle = λ z. not_both refl z;
              behind = λ _. record {
                rest = b.rest;
                begins = b.begins;
                by_others = all_right _ v.seen b.rest (subst (HasNoneBy (n ∷ [])) b.begins newcomer);
                still = λ z. not_idle_holds refl z;
                stands = tt;
                owns = subst (IsPermutation []) (sym (none_own (n ∷ []) r.log newcomer)) (IsPermutation-refl []);
              };
              belongs = λ _. record {
                named = λ z. not_both z refl;
                self = put_here r.holder n n;
                others = tt;
                from = (subst (λ z. z < n) (sym is_number) under, w, ap (get_elem? vs) is_number ∙ at_longer mid (o ∷ []) id w (set_here s.views id w under), live);
                counts = (let g = counted_now n in let none : one_if_child n o.origin ≡ 0 = ap (λ z. cond {A = ℕ} z 1 0) (ne_eqb v.number n (λ y. let y' : id ≡ n = sym is_number ∙ y in omega arith)) in
                    let a : ℕ = child_count n vs in let d : ℕ = child_count n s.views in let f : ℕ = one_if_child n o.origin in let g' : a ≡ d + f = g in let c' : d ≡ 0 = childless in let none' : f ≡ 0 = none in let z : a ≤ 0 = omega arith in z);
              };
            })
            (at_end mid o u j e);
        each_served = all_as (HasHolder s.views r.holder) (HasHolder vs H) (λ x h. let m = held_stays s.views id v w at refl refl r.holder x h in let same = H_same x.pass h.0 in
            (wide x.pass h.0, m.1, at_longer mid (o ∷ []) (H x.pass) m.1 (ap (get_elem? mid) same ∙ m.2), m.3, ap (λ k. is_listed_number (k ∷ m.1.joined) x.pass) same ∙ m.4)) r.log r.each_served;
      }
    where
      from_longer : (l : List V) (a : V) (j : ℕ) (k : PassOrigin) → HasParent l j k → HasParent (l ++ a ∷ []) j k
      from_longer l a j Spent f = f
      from_longer l a j First f = f
      from_longer l a j (SplitFrom p) f = (f.0, f.1, at_longer l (a ∷ []) p f.1 f.2, f.3)

  pub joins : (id : ℕ) (v : V) (other : ℕ) (w : V) → is_unspent v.origin ≡ true → v.is_numbered ≡ true → is_unspent w.origin ≡ true → w.is_numbered ≡ true → w.unjoined ≡ 0 → w.turn ≡ Idle → w.origin ≡ SplitFrom v.number
      → Joins (IsTicketOrder {S = S} {Q = Q} {R = R}) id v other w (after_joining v w) spent_view
  joins id v other w live is_numbered live_w is_named_w none_out idle_w from_v s r at apart there_w = let a : V = after_joining v w in let mid : List V = set s.views id a in let vs : List V = set mid other spent_view in
      let at_w : get_elem? s.views other ≡ some w = sym (set_else s.views id other a apart) ∙ there_w in let this = r.each_seat id v at in let its = r.each_seat other w at_w in let T = tickets s.words in
      let b = this.behind live in let fam = this.belongs live in let fam_w = its.belongs live_w in let is_number : v.number ≡ id = fam.named is_numbered in let is_number_w : w.number ≡ other = fam_w.named is_named_w in
      let H : ℕ → ℕ = λ n. cond (eqb (r.holder n) other) id (r.holder n) in
      let moved : (n : ℕ) → r.holder n ≡ other → H n ≡ id = λ n e. ap (λ z. cond z id (r.holder n)) (eq-eqb (r.holder n) other e) in
      let same_H : (n : ℕ) → r.holder n ≢ other → H n ≡ r.holder n = λ n e. ap (λ z. cond z id (r.holder n)) (ne_eqb (r.holder n) other e) in
      let long : length vs ≡ length s.views = length-set mid other spent_view ∙ length-set s.views id a in
      let fits_in : (m : ℕ) → m < length s.views → m < length vs = λ m h. subst (λ k. m < k) (sym long) h in
      let here : get_elem? vs id ≡ some a = set_else mid other id spent_view (λ e. apart (sym e)) ∙ set_here s.views id a (inside s.views id v at) in
      let else_at : (j : ℕ) → j ≢ other → j ≢ id → get_elem? vs j ≡ get_elem? s.views j = λ j e f. set_else mid other j spent_view e ∙ set_else s.views id j a f in
      let childless_w : (j : ℕ) (u : V) → get_elem? s.views j ≡ some u → one_if_child other u.origin ≡ 0 = λ j u e. let k = counted other s.views j u e in let c = fam_w.counts in
      let x : ℕ = one_if_child other u.origin in let y : ℕ = child_count other s.views in let k' : x ≤ y = k in let c' : y ≤ w.unjoined = c in let z : x ≡ 0 = omega arith in z in
      let counted_now : (p : ℕ) → child_count p vs + one_if_child p w.origin ≡ child_count p s.views = λ p. let g = children_set p mid other w spent_view there_w in let f = children_stay s.views id v a at refl p in
      let x : ℕ = child_count p vs in let y : ℕ = one_if_child p w.origin in let z : ℕ = child_count p mid in let q : ℕ = child_count p s.views in let g' : x + y ≡ z + 0 = g in let f' : z ≡ q = f in let h : x + y ≡ q = omega arith in h in
      let disjoint : (n : ℕ) → is_listed_number (id ∷ v.joined) n ≡ true → is_listed_number (other ∷ w.joined) n ≡ true → ⊥ = λ n x y. apart (sym (has_all (λ m. r.holder m ≡ other) (other ∷ w.joined) n (fam_w.self, all_as (λ m. (m < length s.views) × (r.holder m ≡ other)) (λ m. r.holder m ≡ other) (λ _ h. h.1) w.joined fam_w.others) y)
      ∙ has_all (λ m. r.holder m ≡ id) (id ∷ v.joined) n (fam.self, all_as (λ m. (m < length s.views) × (r.holder m ≡ id)) (λ m. r.holder m ≡ id) (λ _ h. h.1) v.joined fam.others) x) in
      let from_on : (j : ℕ) (k : PassOrigin) → one_if_child other k ≡ 0 → HasParent s.views j k → HasParent vs j k = λ j k e f. spends mid other j k e (from_stays s.views id v a at refl j k f) in
      record {
        log = r.log;
        cells = r.cells;
        owner = r.owner;
        lent = r.lent;
        holder = H;
        wide = r.wide;
        deep = r.deep;
        each_cell = λ n h. let c = r.each_cell n h in record {
          serving = c.serving;
          drawn = c.drawn;
          home = c.home;
          away = λ l. let g = c.away l in let q : ℕ = r.owner n (tickets_served n r.log) in dite (ℕ_discrete q id)
              (λ e. let u : v ≡ g.0 = some-injective v g.0 (sym at ∙ (ap (get_elem? s.views) (sym e) ∙ g.1)) in
              (a, ap (get_elem? vs) e ∙ here, ap (λ (z : V). z.turn) u ∙ g.2, ap (λ (z : V). z.cell) u ∙ g.3))
              (λ e. (g.0, else_at q (λ f. not_idle_holds (ap (λ (z : V). z.turn) (some-injective g.0 w (sym g.1 ∙ (ap (get_elem? s.views) f ∙ at_w))) ∙ idle_w) g.2) e ∙ g.1, g.2, g.3));
        };
        each_seat = λ j u e. ⊎_elim
            (λ (p : (j ≡ other) × (spent_view ≡ u)). subst (λ (z : ℕ × V). FitsSeat r.log T r.owner r.lent r.cells vs H z.0 z.1) (λ k. (sym p.0 k, p.1 k)) record {
              knows = tt;
              idle = λ _. refl;
              behind = λ z. not_both z refl;
              belongs = λ z. not_both z refl;
            })
            (λ (p' : (j ≢ other) × (get_elem? mid j ≡ some u)). ⊎_elim
            (λ (p : (j ≡ id) × (a ≡ u)). subst (λ (z : ℕ × V). FitsSeat r.log T r.owner r.lent r.cells vs H z.0 z.1) (λ k. (sym p.0 k, p.1 k)) record {
              knows = this.knows;
              idle = this.idle;
              behind = λ _. both_behind r.log id other v w is_number_w disjoint b (its.behind live_w);
              belongs = λ _. record {
                named = fam.named;
                self = same_H id (λ z. apart (sym z ∙ fam.self)) ∙ fam.self;
                others = all_append _ v.joined (pass_numbers w) (all_as (λ m. (m < length s.views) × (r.holder m ≡ id)) (λ m. (m < length vs) × (H m ≡ id)) (λ m h. (fits_in m h.0, same_H m (λ z. apart (sym z ∙ h.1)) ∙ h.1)) v.joined fam.others) (
                  (fits_in w.number (subst (λ k. k < length s.views) (sym is_number_w) (inside s.views other w at_w)), moved w.number (ap r.holder is_number_w ∙ fam_w.self)),
                  all_as (λ m. (m < length s.views) × (r.holder m ≡ other)) (λ m. (m < length vs) × (H m ≡ id)) (λ m h. (fits_in m h.0, moved m h.1)) w.joined fam_w.others,
                );
                from = from_on id v.origin (childless_w id v at) fam.from;
                counts = (let g = counted_now id in let c = fam.counts in let one : one_if_child id w.origin ≡ 1 = ap (one_if_child id) from_v ∙ ap (λ z. cond {A = ℕ} z 1 0) (eq-eqb v.number id is_number) in
                    let x : ℕ = child_count id vs in let y : ℕ = one_if_child id w.origin in let q : ℕ = child_count id s.views in let g' : x + y ≡ q = g in let c' : q ≤ v.unjoined = c in let one' : y ≡ 1 = one in let z : x ≤ v.unjoined - 1 = omega arith in z);
              };
            })
            (λ (p : (j ≢ id) × (get_elem? s.views j ≡ some u)). let q = r.each_seat j u p.1 in record {
              knows = q.knows;
              idle = q.idle;
              behind = q.behind;
              belongs = λ z. let f = q.belongs z in record {
                named = f.named;
                self = same_H j (λ y. p'.0 (sym f.self ∙ y)) ∙ f.self;
                others = all_as (λ m. (m < length s.views) × (r.holder m ≡ j)) (λ m. (m < length vs) × (H m ≡ j)) (λ m h. (fits_in m h.0, same_H m (λ y. p'.0 (sym h.1 ∙ y)) ∙ h.1)) u.joined f.others;
                from = from_on j u.origin (childless_w j u p.1) f.from;
                counts = (let g = counted_now j in let c = f.counts in let none : one_if_child j w.origin ≡ 0 = ap (one_if_child j) from_v ∙ ap (λ z. cond {A = ℕ} z 1 0) (ne_eqb v.number j (λ y. p.0 (sym y ∙ is_number))) in
                    let x : ℕ = child_count j vs in let y : ℕ = one_if_child j w.origin in let q : ℕ = child_count j s.views in let g' : x + y ≡ q = g in let c' : q ≤ u.unjoined = c in let none' : y ≡ 0 = none in let z : x ≤ u.unjoined = omega arith in z);
              };
            })
            (at_set s.views id j a u p'.1))
            (at_set mid other j spent_view u e);
        each_served = all_as (HasHolder s.views r.holder) (HasHolder vs H) (λ x h. let n : ℕ = x.pass in let q : ℕ = r.holder n in
            let t : (u : V) × (get_elem? vs (H n) ≡ some u) × (is_unspent u.origin ≡ true) × (is_listed_number (H n ∷ u.joined) n ≡ true) = dite (ℕ_discrete q other)
            (λ e. let u : w ≡ h.1 = some-injective w h.1 (sym at_w ∙ (ap (get_elem? s.views) (sym e) ∙ h.2)) in let to = moved n e in
            let old : is_listed_number (pass_numbers w) n ≡ true = (λ i. is_listed_number ((is_number_w ∙ sym e) i ∷ w.joined) n) ∙ (ap (λ (z : V). is_listed_number (q ∷ z.joined) n) u ∙ h.4) in
            (a, ap (get_elem? vs) to ∙ here, live, ap (λ z. is_listed_number (z ∷ a.joined) n) to ∙ (has_append (id ∷ v.joined) (pass_numbers w) n ∙ (ap (λ z. is_listed_number (id ∷ v.joined) n || z) old ∙ or_right (is_listed_number (id ∷ v.joined) n)))))
            (λ e. let to = same_H n e in dite (ℕ_discrete q id)
            (λ f. let u : v ≡ h.1 = some-injective v h.1 (sym at ∙ (ap (get_elem? s.views) (sym f) ∙ h.2)) in
            let old : is_listed_number (id ∷ v.joined) n ≡ true = ap (λ z. is_listed_number (z ∷ v.joined) n) (sym f) ∙ (ap (λ (z : V). is_listed_number (q ∷ z.joined) n) u ∙ h.4) in
            (a, ap (get_elem? vs) (to ∙ f) ∙ here, live, ap (λ z. is_listed_number (z ∷ a.joined) n) (to ∙ f) ∙ (has_append (id ∷ v.joined) (pass_numbers w) n ∙ ap (λ z. z || is_listed_number (pass_numbers w) n) old)))
            (λ f. (h.1, ap (get_elem? vs) to ∙ (else_at q e f ∙ h.2), h.3, ap (λ z. is_listed_number (z ∷ h.1.joined) n) to ∙ h.4)))
            in (fits_in n h.0, t.0, t.1, t.2, t.3)) r.log r.each_served;
      }
    where
      spends : (l : List V) (other j : ℕ) (k : PassOrigin) → one_if_child other k ≡ 0 → HasParent l j k → HasParent (set l other spent_view) j k
      spends l other j Spent e f = f
      spends l other j First e f = f
      spends l other j (SplitFrom p) e f = (f.0, f.1, set_else l other p spent_view (λ z. let one : one_if_child other (SplitFrom p) ≡ 1 = ap (λ y. cond {A = ℕ} y 1 0) (eq-eqb p other z) in let x : ℕ = one_if_child other (SplitFrom p) in let e' : x ≡ 0 = e in let one' : x ≡ 1 = one in omega arith) ∙ f.2, f.3)

      both_behind : (log : List (Visit Q R)) (id other : ℕ) (v w : V) → w.number ≡ other → ((n : ℕ) → is_listed_number (id ∷ v.joined) n ≡ true → is_listed_number (other ∷ w.joined) n ≡ true → ⊥) → HasSeen log id v → HasSeen log other w → HasSeen log id (after_joining v w)
      both_behind log id other v w is_other disjoint b c = let stands : Each (IsListedIn log) (v.own ++ w.own) = all_append _ v.own w.own b.stands c.stands in
          let owns : IsPermutation (map visit_of (v.own ++ w.own)) (visits_by (id ∷ (v.joined ++ pass_numbers w)) log) = subst (λ l. IsPermutation l (visits_by (id ∷ (v.joined ++ pass_numbers w)) log)) (sym (map-append visit_of v.own w.own))
          (subst (λ o. IsPermutation (map visit_of v.own ++ map visit_of w.own) (visits_by (id ∷ (v.joined ++ (o ∷ w.joined))) log)) (sym is_other)
          (IsPermutation-trans _ _ _ (IsPermutation-append (map visit_of v.own) (visits_by (id ∷ v.joined) log) (map visit_of w.own) (visits_by (other ∷ w.joined) log) b.owns c.owns) (own_both (id ∷ v.joined) (other ∷ w.joined) disjoint log))) in by_bool (leb (length v.seen) (length w.seen))
          (λ e. let x = suffix v.seen b.rest w.seen c.rest (sym b.begins ∙ c.begins) (leb-true (length v.seen) (length w.seen) e) in record {
            rest = c.rest;
            begins = c.begins ∙ ap (λ z. cond z w.seen v.seen ++ c.rest) (sym e);
            by_others = all_two (λ (y : Visit Q R). is_listed_number (id ∷ v.joined) y.pass ≡ false) (λ (y : Visit Q R). is_listed_number (other ∷ w.joined) y.pass ≡ false) (λ (y : Visit Q R). is_listed_number (id ∷ (v.joined ++ pass_numbers w)) y.pass ≡ false) (λ (y : Visit Q R) p q. has_append (id ∷ v.joined) (pass_numbers w) y.pass ∙ (ap (λ z. z || is_listed_number (pass_numbers w) y.pass) p ∙ (ap (λ z. is_listed_number (z ∷ w.joined) y.pass) is_other ∙ q))) c.rest (all_right _ x.0 c.rest (subst (HasNoneBy (id ∷ v.joined)) x.1 b.by_others)) c.by_others;
            still = λ h. all_right _ x.0 c.rest (subst (HasNoneAt v.cell) x.1 (b.still h));
            stands = stands;
            owns = owns;
          })
          (λ e. let x = suffix w.seen c.rest v.seen b.rest (sym c.begins ∙ b.begins) (let g = leb-false (length v.seen) (length w.seen) e in omega arith) in record {
            rest = b.rest;
            begins = b.begins ∙ ap (λ z. cond z w.seen v.seen ++ b.rest) (sym e);
            by_others = all_two (λ (y : Visit Q R). is_listed_number (id ∷ v.joined) y.pass ≡ false) (λ (y : Visit Q R). is_listed_number (other ∷ w.joined) y.pass ≡ false) (λ (y : Visit Q R). is_listed_number (id ∷ (v.joined ++ pass_numbers w)) y.pass ≡ false) (λ (y : Visit Q R) p q. has_append (id ∷ v.joined) (pass_numbers w) y.pass ∙ (ap (λ z. z || is_listed_number (pass_numbers w) y.pass) p ∙ (ap (λ z. is_listed_number (z ∷ w.joined) y.pass) is_other ∙ q))) b.rest b.by_others (all_right _ x.0 b.rest (subst (HasNoneBy (other ∷ w.joined)) x.1 c.by_others));
            still = b.still;
            stands = stands;
            owns = owns;
          })

  -- the first pass, with nothing out, has seen all that was served, and all of it is its own
  pub ends : (id : ℕ) (v : V) (ws : List ℕ) (xs : List K) → v.origin ≡ First → v.is_numbered ≡ true → v.unjoined ≡ 0 → v.turn ≡ Idle → Final (Seen (IsTicketOrder {S = S} {Q = Q} {R = R}) id v) ws xs
      → IsClosing xs v
  ends id v ws xs first is_numbered none_out idle f = let s = f.0 in let r = f.1.0 in let at : get_elem? s.views id ≡ some v = f.1.1 in let deep = r.deep in let same_long = f.3 in
      let live : is_unspent v.origin ≡ true = ap is_unspent first in let this = r.each_seat id v at in let fam = this.belongs live in let b = this.behind live in
      let is_first : id ≡ 0 = subst (HasParent s.views id) first fam.from in let is_number : v.number ≡ id = fam.named is_numbered in
      let childless : child_count 0 s.views ≡ 0 = (let c = subst (λ z. child_count z s.views ≤ v.unjoined) is_first fam.counts in let x : ℕ = child_count 0 s.views in let c' : x ≤ v.unjoined = c in let g : x ≡ 0 = omega arith in g) in
      let only : (j : ℕ) (u : V) → get_elem? s.views j ≡ some u → is_unspent u.origin ≡ true → j ≡ 0 = λ j u e l. only_first s r childless (j + 1) j u (omega arith) e l in
      let all_own_numbers : HasOnlyBy (pass_numbers v) r.log = all_as (HasHolder s.views r.holder) (λ (x : Visit Q R). is_listed_number (pass_numbers v) x.pass ≡ true) (λ x h.
      let z : r.holder x.pass ≡ id = only (r.holder x.pass) h.1 h.2 h.3 ∙ sym is_first in let u : h.1 ≡ v = some-injective h.1 v (sym h.2 ∙ (ap (get_elem? s.views) z ∙ at)) in
      ap (λ y. is_listed_number (y ∷ v.joined) x.pass) (is_number ∙ sym z) ∙ (ap (λ (y : V). is_listed_number (r.holder x.pass ∷ y.joined) x.pass) (sym u) ∙ h.4)) r.log r.each_served in
      let none_since : b.rest ≡ [] = nothing b.rest (pass_numbers v) (subst (λ n. HasNoneBy (n ∷ v.joined) b.rest) (sym is_number) b.by_others) (all_right _ v.seen b.rest (subst (HasOnlyBy (pass_numbers v)) b.begins all_own_numbers)) in
      let all_seen : r.log ≡ v.seen = b.begins ∙ (ap (λ l. v.seen ++ l) none_since ∙ append-nil v.seen) in
      let alone : HasOnlyBy (pass_numbers v) v.seen = subst (HasOnlyBy (pass_numbers v)) all_seen all_own_numbers in record {
        cells = λ c h. let o = r.each_cell c (omega arith) in
            let free : r.lent c ≡ false = by_bool (r.lent c) (λ l. let g = o.away l in let q : ℕ = r.owner c (tickets_served c r.log) in by_bool (is_unspent g.0.origin)
            (λ y. let z : q ≡ id = only q g.0 g.1 y ∙ sym is_first in not_idle_holds (ap (λ (y' : V). y'.turn) (some-injective g.0 v (sym g.1 ∙ (ap (get_elem? s.views) z ∙ at))) ∙ idle) g.2)
            (λ y. not_idle_holds ((r.each_seat q g.0 g.1).idle y) g.2)) (λ l. l) in
            let k = o.home free in (k.0, f.4 c k.0 k.1, k.2 ∙ ap (cell_history c) all_seen, k.3);
        alone = alone;
        listed = subst (λ l. Each (IsListedIn l) v.own) all_seen b.stands;
        once = subst (IsPermutation (map visit_of v.own)) (all_by (pass_numbers v) v.seen alone) (subst (λ l. IsPermutation (map visit_of v.own) (visits_by (pass_numbers v) l)) all_seen (subst (λ n. IsPermutation (map visit_of v.own) (visits_by (n ∷ v.joined) r.log)) (sym is_number) b.owns));
      }
    where
      nothing : (xs : List (Visit Q R)) (ns : List ℕ) → HasNoneBy ns xs → Each (λ (x : Visit Q R). is_listed_number ns x.pass ≡ true) xs → xs ≡ []
      nothing [] ns a b = refl
      nothing (x ∷ xs) ns a b = not_both b.0 a.0

      origin : (views : List V) (j : ℕ) (k : PassOrigin) → is_unspent k ≡ true → HasParent views j k → one_if_child 0 k ≡ 0 → ((p : ℕ) (u : V) → p < j → get_elem? views p ≡ some u → is_unspent u.origin ≡ true → p ≡ 0) → j ≡ 0
      origin views j Spent l f e up = not_both l refl
      origin views j First l f e up = f
      origin views j (SplitFrom p) l f e up = let one : one_if_child 0 (SplitFrom p) ≡ 1 = ap (λ y. cond {A = ℕ} y 1 0) (eq-eqb p 0 (up p f.1 f.0 f.2 f.3)) in let x : ℕ = one_if_child 0 (SplitFrom p) in let e' : x ≡ 0 = e in let one' : x ≡ 1 = one in absurd (omega arith)

      only_first : (s : St) (r : IsTicketOrder s) → child_count 0 s.views ≡ 0 → (n j : ℕ) (u : V) → j < n → get_elem? s.views j ≡ some u → is_unspent u.origin ≡ true → j ≡ 0
      only_first s r childless zero j u h e l = absurd (omega arith)
      only_first s r childless (suc n) j u h e l = origin s.views j u.origin l ((r.each_seat j u e).belongs l).from
          (let c = counted 0 s.views j u e in let x : ℕ = one_if_child 0 u.origin in let y : ℕ = child_count 0 s.views in let c' : x ≤ y = c in let none' : y ≡ 0 = childless in let g : x ≡ 0 = omega arith in g)
          (λ p u' lt e' l'. only_first s r childless n p u' (omega arith) e' l')
