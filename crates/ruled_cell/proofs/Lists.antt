-- Logs, numbers and the lists of views.
use Rattle.std.proofs.Common.{◌≡◌, ◌≢◌, ◌⊎◌, ℕ, zero, suc, ◌+◌, ◌<◌, ◌≤◌, eqb, List, [], ◌∷◌, ◌++◌, length, set, get_or, replicate, take, IsPermutation, Bool, true, false, cond, ◌||◌, Option, Some, None, Result, Ok, Err, IfOk, OnErr, sym, refl, ap, ◌∙◌, subst, inl, inr, ⊎_elim, arith, eq-eqb, ne_eqb, get_or-set_other}
use mathlib.Core.Logic.{dite}
use Rattle.std.proofs.lemmas.List.Sorted.{IsPermutation-refl, IsPermutation-cons, IsPermutation-trans, IsPermutation-append_left, IsPermutation-to_front}
use mathlib.Core.List.{append_assoc, append-nil}
use mathlib.Core.Option.{some, some-injective, some-ne-none}
use native.Mathlib.Decide.{ℕ_discrete}
use lib.ListN.{get_elem?}
use Rattle.journal_cell.specs.declared.entry.Entry.{Entry}
use Rattle.ruled_cell.specs.declared.visits.Visit.{Visit}
use Rattle.ruled_cell.specs.declared.passes.PassView.{PassView}
use Rattle.ruled_cell.specs.Visits.{HasOnlyBy, visits_with_entry, Each, is_listed_number, entry_list, cell_history, if_entered, HasNoneBy}
use Rattle.ruled_cell.specs.Order.{one_if_child, tickets_served, visits_by, HasNoneAt, child_count}

abbrev pick : {A : Type 0} {P : Type 0} → Dec P → A → A → A
pick (yes _) a b = a
pick (no _) a b = b

module _ {A : Type 0} where
  pub put : (ℕ → A) → ℕ → A → ℕ → A
  put f i c j = pick (ℕ_discrete j i) c (f j)

  pub put_here : (f : ℕ → A) (i : ℕ) (c : A) → put f i c i ≡ c
  unfolding put
  put_here f i c = go (ℕ_discrete i i)
    where
      go : (d : Dec (i ≡ i)) → pick d c (f i) ≡ c
      go (yes e) = refl
      go (no n) = absurd (n refl)

  pub put_else : (f : ℕ → A) (i : ℕ) (c : A) (j : ℕ) → j ≢ i → put f i c j ≡ f j
  unfolding put
  put_else f i c j other = go (ℕ_discrete j i)
    where
      go : (d : Dec (j ≡ i)) → pick d c (f j) ≡ f j
      go (yes e) = absurd (other e)
      go (no n) = refl

pub by_bool : {X : Type 0} (b : Bool) → (b ≡ true → X) → (b ≡ false → X) → X
by_bool true f g = f refl
by_bool false f g = g refl

rank : Bool → ℕ
rank true = 1
rank false = 0

pub not_both : {b : Bool} {X : Type 0} → b ≡ true → b ≡ false → X
unfolding rank
not_both e f = absurd (let h : 1 ≡ 0 = ap rank (sym e ∙ f) in omega arith)

pub or_right : (a : Bool) → (a || true) ≡ true
or_right true = refl
or_right false = refl

pub same_eqb : (n : ℕ) → eqb n n ≡ true
same_eqb n = eq-eqb n n refl

module _ {A : Type 0} (P : A → Type 0) where
  pub all_append : (xs ys : List A) → Each P xs → Each P ys → Each P (xs ++ ys)
  all_append [] ys a b = b
  all_append (x ∷ xs) ys a b = (a.0, all_append xs ys a.1 b)

  pub all_left : (xs ys : List A) → Each P (xs ++ ys) → Each P xs
  all_left [] ys a = tt
  all_left (x ∷ xs) ys a = (a.0, all_left xs ys a.1)

  pub all_right : (xs ys : List A) → Each P (xs ++ ys) → Each P ys
  all_right [] ys a = a
  all_right (x ∷ xs) ys a = all_right xs ys a.1

  pub all_as : (Q : A → Type 0) → ((x : A) → P x → Q x) → (xs : List A) → Each P xs → Each Q xs
  all_as Q f [] a = tt
  all_as Q f (x ∷ xs) a = (f x a.0, all_as Q f xs a.1)

module _ {A : Type 0} where
  pub inside : (l : List A) (i : ℕ) (a : A) → get_elem? l i ≡ some a → i < length l
  inside [] i a e = absurd (some-ne-none a (sym e))
  inside (x ∷ xs) zero a e = omega arith
  inside (x ∷ xs) (suc i) a e = let h = inside xs i a e in omega arith

  pub at_end : (l : List A) (a b : A) (j : ℕ) → get_elem? (l ++ a ∷ []) j ≡ some b → (get_elem? l j ≡ some b) ⊎ ((j ≡ length l) × (a ≡ b))
  at_end [] a b zero e = inr (refl, some-injective a b e)
  at_end [] a b (suc j) e = absurd (some-ne-none b (sym e))
  at_end (x ∷ xs) a b zero e = inl e
  at_end (x ∷ xs) a b (suc j) e = ⊎_elim (λ t. inl t) (λ t. inr (ap suc t.0, t.1)) (at_end xs a b j e)

pub has_append : (a b : List ℕ) (n : ℕ) → is_listed_number (a ++ b) n ≡ (is_listed_number a n || is_listed_number b n)
has_append [] b n = refl
has_append (m ∷ ms) b n = or_in (eqb n m) (is_listed_number (ms ++ b) n) (is_listed_number ms n) (is_listed_number b n) (has_append ms b n)
  where
    or_in : (x y z w : Bool) → y ≡ (z || w) → (x || y) ≡ ((x || z) || w)
    or_in true y z w e = refl
    or_in false y z w e = e

-- a number that a list has, and a fact about each of them
pub has_all : (P : ℕ → Type 0) (ns : List ℕ) (n : ℕ) → Each P ns → is_listed_number ns n ≡ true → P n
has_all P [] n a e = not_both e refl
has_all P (m ∷ ms) n a e = dite (ℕ_discrete n m) (λ same. subst P (sym same) a.0) (λ other. has_all P ms n a.1 (ap (λ b. b || is_listed_number ms n) (sym (ne_eqb n m other)) ∙ e))

module _ {Q R : Type 0} where
  pub entries_append : (c : ℕ) (xs ys : List (Visit Q R)) → cell_history c (xs ++ ys) ≡ cell_history c xs ++ cell_history c ys
  entries_append c [] ys = refl
  entries_append c (x ∷ xs) ys = ap (λ l. cond (eqb x.cell c) (entry_list x.entry) [] ++ l) (entries_append c xs ys) ∙ sym (append_assoc (cond (eqb x.cell c) (entry_list x.entry) []) (cell_history c xs) (cell_history c ys))

  pub served_append : (c : ℕ) (xs ys : List (Visit Q R)) → tickets_served c (xs ++ ys) ≡ tickets_served c xs + tickets_served c ys
  served_append c [] ys = omega arith
  served_append c (x ∷ xs) ys = let h = served_append c xs ys in let n : ℕ = cond (eqb x.cell c) 1 0 in ap (λ k. n + k) h ∙ (let g : n + (tickets_served c xs + tickets_served c ys) ≡ (n + tickets_served c xs) + tickets_served c ys = omega arith in g)

  pub no_entries : (c : ℕ) (xs : List (Visit Q R)) → HasNoneAt c xs → cell_history c xs ≡ []
  no_entries c [] a = refl
  no_entries c (x ∷ xs) a = ap (λ b. cond b (entry_list x.entry) [] ++ cell_history c xs) a.0 ∙ no_entries c xs a.1

  -- an entry of another cell
  pub entries_other : (c : ℕ) (xs : List (Visit Q R)) (x : Visit Q R) → x.cell ≢ c → cell_history c (xs ++ x ∷ []) ≡ cell_history c xs
  entries_other c xs x other = entries_append c xs (x ∷ []) ∙ (ap (λ b. cell_history c xs ++ (cond b (entry_list x.entry) [] ++ [])) (ne_eqb x.cell c other) ∙ append-nil (cell_history c xs))

  pub served_other : (c : ℕ) (xs : List (Visit Q R)) (x : Visit Q R) → x.cell ≢ c → tickets_served c (xs ++ x ∷ []) ≡ tickets_served c xs
  served_other c xs x other = served_append c xs (x ∷ []) ∙ (ap (λ b. tickets_served c xs + (cond {A = ℕ} b 1 0 + 0)) (ne_eqb x.cell c other) ∙ (let n : ℕ = tickets_served c xs in let g : n + (0 + 0) ≡ n = omega arith in g))

  pub entries_same : (c : ℕ) (xs : List (Visit Q R)) (x : Visit Q R) → x.cell ≡ c → cell_history c (xs ++ x ∷ []) ≡ cell_history c xs ++ entry_list x.entry
  entries_same c xs x same = entries_append c xs (x ∷ []) ∙ (ap (λ b. cell_history c xs ++ (cond b (entry_list x.entry) [] ++ [])) (eq-eqb x.cell c same) ∙ ap (λ l. cell_history c xs ++ l) (append-nil (entry_list x.entry)))

  pub served_same : (c : ℕ) (xs : List (Visit Q R)) (x : Visit Q R) → x.cell ≡ c → tickets_served c (xs ++ x ∷ []) ≡ tickets_served c xs + 1
  served_same c xs x same = served_append c xs (x ∷ []) ∙ ap (λ b. tickets_served c xs + (cond {A = ℕ} b 1 0 + 0)) (eq-eqb x.cell c same)

  pub children_set : (p : ℕ) (vs : List (PassView Q R)) (i : ℕ) (v w : PassView Q R) → get_elem? vs i ≡ some v → child_count p (set vs i w) + one_if_child p v.origin ≡ child_count p vs + one_if_child p w.origin
  children_set p [] i v w e = absurd (some-ne-none v (sym e))
  children_set p (x ∷ xs) zero v w e = let same : one_if_child p x.origin ≡ one_if_child p v.origin = ap (λ (u : PassView Q R). one_if_child p u.origin) (some-injective x v e) in
      let a : ℕ = one_if_child p x.origin in let b : ℕ = one_if_child p v.origin in let c : ℕ = one_if_child p w.origin in let n : ℕ = child_count p xs in let same' : a ≡ b = same in let g : (c + n) + b ≡ (a + n) + c = omega arith in g
  children_set p (x ∷ xs) (suc i) v w e = let h = children_set p xs i v w e in
      let a : ℕ = one_if_child p x.origin in let b : ℕ = one_if_child p v.origin in let c : ℕ = one_if_child p w.origin in let n : ℕ = child_count p xs in let m : ℕ = child_count p (set xs i w) in let h' : m + b ≡ n + c = h in
      let g : (a + m) + b ≡ (a + n) + c = omega arith in g

  pub children_end : (p : ℕ) (vs : List (PassView Q R)) (w : PassView Q R) → child_count p (vs ++ w ∷ []) ≡ child_count p vs + one_if_child p w.origin
  children_end p [] w = let c : ℕ = one_if_child p w.origin in let g : c + 0 ≡ 0 + c = omega arith in g
  children_end p (x ∷ xs) w = let h = children_end p xs w in let a : ℕ = one_if_child p x.origin in let c : ℕ = one_if_child p w.origin in let n : ℕ = child_count p xs in let m : ℕ = child_count p (xs ++ w ∷ []) in let h' : m ≡ n + c = h in
      let g : a + m ≡ (a + n) + c = omega arith in g

  -- a child is counted
  pub counted : (p : ℕ) (vs : List (PassView Q R)) (i : ℕ) (v : PassView Q R) → get_elem? vs i ≡ some v → one_if_child p v.origin ≤ child_count p vs
  counted p [] i v e = absurd (some-ne-none v (sym e))
  counted p (x ∷ xs) zero v e = let same : one_if_child p x.origin ≡ one_if_child p v.origin = ap (λ (u : PassView Q R). one_if_child p u.origin) (some-injective x v e) in
      let a : ℕ = one_if_child p x.origin in let b : ℕ = one_if_child p v.origin in let n : ℕ = child_count p xs in let same' : a ≡ b = same in let g : b ≤ a + n = omega arith in g
  counted p (x ∷ xs) (suc i) v e = let h = counted p xs i v e in let a : ℕ = one_if_child p x.origin in let b : ℕ = one_if_child p v.origin in let n : ℕ = child_count p xs in let h' : b ≤ n = h in let g : b ≤ a + n = omega arith in g

  pub none_counted : (p : ℕ) (vs : List (PassView Q R)) → ((i : ℕ) (v : PassView Q R) → get_elem? vs i ≡ some v → one_if_child p v.origin ≡ 0) → child_count p vs ≡ 0
  none_counted p [] f = refl
  none_counted p (x ∷ xs) f = let h = none_counted p xs (λ i v e. f (suc i) v e) in let g = f 0 x refl in let a : ℕ = one_if_child p x.origin in let n : ℕ = child_count p xs in let g' : a ≡ 0 = g in let h' : n ≡ 0 = h in let k : a + n ≡ 0 = omega arith in k

pub all_two : {A : Type 0} (P Q R : A → Type 0) → ((x : A) → P x → Q x → R x) → (xs : List A) → Each P xs → Each Q xs → Each R xs
all_two P Q R f [] a b = tt
all_two P Q R f (x ∷ xs) a b = (f x a.0 b.0, all_two P Q R f xs a.1 b.1)

tail_or : {A : Type 0} → List A → List A
tail_or [] = []
tail_or (x ∷ xs) = xs

-- of two ways to cut a list, the later cut leaves the end of what the earlier one leaves
pub suffix : {A : Type 0} (p a q b : List A) → p ++ a ≡ q ++ b → length p ≤ length q → (x : List A) × (a ≡ x ++ b)
unfolding tail_or
suffix [] a q b e h = (q, e)
suffix (y ∷ p) a [] b e h = absurd (omega arith)
suffix (y ∷ p) a (z ∷ q) b e h = suffix p a q b (ap tail_or e) (omega arith)

pub ok_map : {T E : Type 0} (A C : T → Type 0) (r : Result T E) → ((x : T) → A x → C x) → IfOk r A → IfOk r C
ok_map A C (Ok x) f a = f x a
ok_map A C (Err e) f a = tt

pub err_map : {T E : Type 0} (A C : Type 0) (r : Result T E) → (A → C) → OnErr r A → OnErr r C
err_map A C (Ok x) f a = tt
err_map A C (Err e) f a = f a

pub zeros : (n i : ℕ) → ◌≡◌ {A = ℕ} (get_or (replicate n 0) i 0) 0
zeros zero i = refl
zeros (suc n) zero = refl
zeros (suc n) (suc i) = zeros n i

pub take_more : {A : Type 0} (l : List A) (i : ℕ) (a : A) → get_elem? l i ≡ some a → take (suc i) l ≡ take i l ++ a ∷ []
take_more [] i a e = absurd (some-ne-none a (sym e))
take_more (x ∷ xs) zero a e = ap (λ y. y ∷ []) (some-injective x a e)
take_more (x ∷ xs) (suc i) a e = ap (λ l. x ∷ l) (take_more xs i a e)

pub take_whole : {A : Type 0} (l : List A) (i : ℕ) → length l ≤ i → take i l ≡ l
take_whole [] zero h = refl
take_whole [] (suc i) h = refl
take_whole (x ∷ xs) zero h = absurd (omega arith)
take_whole (x ∷ xs) (suc i) h = ap (λ l. x ∷ l) (take_whole xs i (omega arith))

pub take_next : {A : Type 0} (l : List A) (i : ℕ) (a : A) → get_elem? l i ≡ some a → take (i + 1) l ≡ take i l ++ a ∷ []
take_next l i a e = let n : i + 1 ≡ suc i = omega arith in ap (λ k. take k l) n ∙ take_more l i a e

cleared : (fs : List Bool) (i : ℕ) → get_or (set fs i false) i false ≡ false
cleared [] i = refl
cleared (f ∷ fs) zero = refl
cleared (f ∷ fs) (suc i) = cleared fs i

pub clears : (fs : List Bool) (i k : ℕ) → ((j : ℕ) → j < i → get_or fs j false ≡ false) → k < i + 1 → get_or (set fs i false) k false ≡ false
clears fs i k before h = dite (ℕ_discrete k i) (λ e. subst (λ n. get_or (set fs i false) n false ≡ false) (sym e) (cleared fs i)) (λ e. get_or-set_other fs i k false false (λ z. e (omega arith)) ∙ before k (omega arith))

middle : {A : Type 0} (a : List A) (x : A) (b : List A) → IsPermutation (a ++ x ∷ b) (x ∷ (a ++ b))
middle a x b = subst (λ l. IsPermutation l (x ∷ (a ++ b))) (append_assoc a (x ∷ []) b) (IsPermutation-append_left b (a ++ x ∷ []) (x ∷ a) (IsPermutation-to_front a x))

module _ {Q R : Type 0} where
  pub own_append : (ns : List ℕ) (xs ys : List (Visit Q R)) → visits_by ns (xs ++ ys) ≡ visits_by ns xs ++ visits_by ns ys
  own_append ns [] ys = refl
  own_append ns (x ∷ xs) ys = ap (λ l. cond (is_listed_number ns x.pass) (if_entered x x.entry) [] ++ l) (own_append ns xs ys) ∙ sym (append_assoc (cond (is_listed_number ns x.pass) (if_entered x x.entry) []) (visits_by ns xs) (visits_by ns ys))

  pub none_own : (ns : List ℕ) (xs : List (Visit Q R)) → HasNoneBy ns xs → visits_by ns xs ≡ []
  none_own ns [] a = refl
  none_own ns (x ∷ xs) a = ap (λ b. cond b (if_entered x x.entry) [] ++ visits_by ns xs) a.0 ∙ none_own ns xs a.1

  pub own_one : (ns : List ℕ) (xs : List (Visit Q R)) (x : Visit Q R) → is_listed_number ns x.pass ≡ true → visits_by ns (xs ++ x ∷ []) ≡ visits_by ns xs ++ if_entered x x.entry
  own_one ns xs x h = own_append ns xs (x ∷ []) ∙ (ap (λ b. visits_by ns xs ++ (cond b (if_entered x x.entry) [] ++ [])) h ∙ ap (λ l. visits_by ns xs ++ l) (append-nil (if_entered x x.entry)))

  pub own_other : (ns : List ℕ) (xs : List (Visit Q R)) (x : Visit Q R) → is_listed_number ns x.pass ≡ false → visits_by ns (xs ++ x ∷ []) ≡ visits_by ns xs
  own_other ns xs x h = own_append ns xs (x ∷ []) ∙ (ap (λ b. visits_by ns xs ++ (cond b (if_entered x x.entry) [] ++ [])) h ∙ append-nil (visits_by ns xs))

  in_middle : (k : Option (Entry Q R)) (x : Visit Q R) (a b c : List (Visit Q R)) → IsPermutation (a ++ b) c → IsPermutation (a ++ (if_entered x k ++ b)) (if_entered x k ++ c)
  in_middle (Some e) x a b c p = IsPermutation-trans (a ++ x ∷ b) (x ∷ (a ++ b)) (x ∷ c) (middle a x b) (IsPermutation-cons x (a ++ b) c p)
  in_middle None x a b c p = p

  in_front : (k : Option (Entry Q R)) (x : Visit Q R) (a b c : List (Visit Q R)) → IsPermutation (a ++ b) c → IsPermutation ((if_entered x k ++ a) ++ b) (if_entered x k ++ c)
  in_front (Some e) x a b c p = IsPermutation-cons x (a ++ b) c p
  in_front None x a b c p = p

  -- what two sets of numbers with none in common own
  pub own_both : (ns ms : List ℕ) → ((n : ℕ) → is_listed_number ns n ≡ true → is_listed_number ms n ≡ true → ⊥) → (xs : List (Visit Q R)) → IsPermutation (visits_by ns xs ++ visits_by ms xs) (visits_by (ns ++ ms) xs)
  own_both ns ms apart [] = IsPermutation-refl []
  own_both ns ms apart (x ∷ xs) = let p = own_both ns ms apart xs in let a = is_listed_number ns x.pass in let b = is_listed_number ms x.pass in let A = visits_by ns xs in let B = visits_by ms xs in let C = visits_by (ns ++ ms) xs in let k = if_entered x x.entry in
      subst (λ z. IsPermutation ((cond a k [] ++ A) ++ (cond b k [] ++ B)) (cond z k [] ++ C)) (sym (has_append ns ms x.pass))
      (by_bool a
      (λ yes_a. by_bool b (λ yes_b. absurd (apart x.pass yes_a yes_b))
      (λ no_b. subst (λ (z : Bool × Bool). IsPermutation ((cond z.0 k [] ++ A) ++ (cond z.1 k [] ++ B)) (cond (z.0 || z.1) k [] ++ C)) (λ i. (sym yes_a i, sym no_b i)) (in_front x.entry x A B C p)))
      (λ no_a. by_bool b
      (λ yes_b. subst (λ (z : Bool × Bool). IsPermutation ((cond z.0 k [] ++ A) ++ (cond z.1 k [] ++ B)) (cond (z.0 || z.1) k [] ++ C)) (λ i. (sym no_a i, sym yes_b i)) (in_middle x.entry x A B C p))
      (λ no_b. subst (λ (z : Bool × Bool). IsPermutation ((cond z.0 k [] ++ A) ++ (cond z.1 k [] ++ B)) (cond (z.0 || z.1) k [] ++ C)) (λ i. (sym no_a i, sym no_b i)) p)))

  -- where all visits are by these numbers, those that added an entry are all
  pub all_by : (ns : List ℕ) (xs : List (Visit Q R)) → HasOnlyBy ns xs → visits_by ns xs ≡ visits_with_entry xs
  all_by ns [] a = refl
  all_by ns (x ∷ xs) a = (λ i. cond (a.0 i) (if_entered x x.entry) [] ++ visits_by ns xs) ∙ ap (λ l. if_entered x x.entry ++ l) (all_by ns xs a.1)
