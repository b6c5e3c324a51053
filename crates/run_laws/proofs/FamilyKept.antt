-- What holds of the actors of every run: each but the root was started by another that is there; names differ; a child that is
-- not joined stands behind its starter and is worth at most what it was given; and who has not ended is not joined.
use Rattle.std.proofs.Common.{◌≡◌, ℕ, ◌+◌, ◌≤◌, Bool, true, false, true≢false, List, [], ◌∷◌, ◌++◌, refl, sym, ap, subst, ◌∙◌, arith, inl, inr}
use Rattle.std.specs.Prelude.{Option, Some, None, is_some, ◌||◌, ◌⊎◌, if◌then◌else◌}
use Rattle.wedge_base.specs.Names.{same, root_name}
use Rattle.machine.specs.Actors.{ActorState}
use Rattle.machine.specs.Children.{Children, is_number, fuel_given, is_child, with_child, without_child, all_given, child_name}
use Rattle.run_laws.specs.FamilyTrees.{worth, Holds, AllBehind, IsChildOf, IsOfTree, Family, WaitsForOwn}
use Rattle.run_laws.specs.Fuel.{starter_of, number_in, has_child, is_unjoined}
use Rattle.run_laws.specs.Names.{IsNew, AreDistinct}
use Rattle.machine.specs.Local.{has_ended}
use Rattle.machine.specs.Worlds.{actor_named, put_actor}
use Rattle.run_laws.proofs.Distinct.{put_distinct}
use Rattle.machine.proofs.FuelGiven.{given_with, taken_back, number_is, number_self, given_there, given_elsewhere, given_gone}
use Rattle.run_laws.proofs.Named.{same_self, same_equal, named_begun}
use Rattle.run_laws.proofs.Trees.{starter-child, number-child, child_apart, not_root, apart_too, IsPut, found_put, found_else, IsDoer, IsOther, FoundPut, find_put, found_behind, found_before, none_new, new_none, distinct_behind, found_or_last}

-- ---- the tree of names

one_actor : (actors : List ActorState) (m n : List ℕ) (a b : ActorState) → same m n ≡ true → actor_named actors m ≡ Some a → actor_named actors n ≡ Some b → a ≡ b
one_actor actors m n a b is p q = let both : Some a ≡ Some b = sym p ∙ (ap (actor_named actors) (same_equal m n is) ∙ q) in cc

child_put : (actors : List ActorState) (a x : ActorState) (m : List ℕ) → IsPut actors a x → a.starts ≤ x.starts → IsChildOf actors m → IsChildOf (put_actor actors x) m
child_put actors a x m p more c = by_name (same a.name c.starter) refl
  where
    by_name : (t : Bool) → same a.name c.starter ≡ t → IsChildOf (put_actor actors x) m
    by_name true e =
        let is : a ≡ c.actor = one_actor actors a.name c.starter a c.actor e p.there c.there in
        let few : c.number ≤ a.starts = subst (λ (y : ActorState). c.number ≤ y.starts) (sym is) c.counted in
        record {
          starter = c.starter;
          number = c.number;
          actor = x;
          named = c.named;
          there = ap (actor_named (put_actor actors x)) (sym (same_equal a.name c.starter e)) ∙ found_put actors a x p;
          counted = omega (arith, few, more);
        }
    by_name false e = record { starter = c.starter; number = c.number; actor = c.actor; named = c.named; there = found_else actors a x c.starter p e ∙ c.there; counted = c.counted }

of_tree_put : (actors : List ActorState) (a x : ActorState) (m : List ℕ) → IsPut actors a x → a.starts ≤ x.starts → IsOfTree actors m → IsOfTree (put_actor actors x) m
of_tree_put actors a x m p more (inl e) = inl e
of_tree_put actors a x m p more (inr c) = inr (child_put actors a x m p more c)

pub tree_put : (actors : List ActorState) (a x : ActorState) → IsPut actors a x → a.starts ≤ x.starts → ((m : List ℕ) (y : ActorState) → actor_named actors m ≡ Some y → IsOfTree actors m)
    → (m : List ℕ) (y : ActorState) → actor_named (put_actor actors x) m ≡ Some y → IsOfTree (put_actor actors x) m
tree_put actors a x p more tree m y found = of_tree_put actors a x m p more (was (find_put actors a x m y p found))
  where
    was : FoundPut actors a x m y → IsOfTree actors m
    was (IsDoer is e) = tree m a (ap (actor_named actors) is ∙ p.there)
    was (IsOther apart e) = tree m y e

of_tree_behind : (actors : List ActorState) (c : ActorState) (m : List ℕ) → IsOfTree actors m → IsOfTree (actors ++ c ∷ []) m
of_tree_behind actors c m (inl e) = inl e
of_tree_behind actors c m (inr k) = inr (record { starter = k.starter; number = k.number; actor = k.actor; named = k.named; there = named_begun actors (Some c) k.starter k.actor k.there; counted = k.counted })

tree_behind : (actors : List ActorState) (c : ActorState) → IsOfTree actors c.name → ((m : List ℕ) (y : ActorState) → actor_named actors m ≡ Some y → IsOfTree actors m)
    → (m : List ℕ) (y : ActorState) → actor_named (actors ++ c ∷ []) m ≡ Some y → IsOfTree (actors ++ c ∷ []) m
tree_behind actors c own tree m y found = by_name (same c.name m) refl
  where
    by_name : (t : Bool) → same c.name m ≡ t → IsOfTree (actors ++ c ∷ []) m
    by_name true e = of_tree_behind actors c m (subst (IsOfTree actors) (same_equal c.name m e) own)
    by_name false e = of_tree_behind actors c m (tree m y (sym (found_before actors c m e) ∙ found))

-- no actor has an empty name
pub has_name : (actors : List ActorState) → Family actors → (a : ActorState) → actor_named actors a.name ≡ Some a → (x : ℕ) × (xs : List ℕ) × (a.name ≡ x ∷ xs)
has_name actors f a there = by_tree (f.tree a.name a there)
  where
    first_of : (n : List ℕ) (k : ℕ) → (x : ℕ) × (xs : List ℕ) × (child_name n k ≡ x ∷ xs)
    first_of [] k = (k, [], refl)
    first_of (y ∷ ys) k = (y, child_name ys k, refl)

    by_tree : IsOfTree actors a.name → (x : ℕ) × (xs : List ℕ) × (a.name ≡ x ∷ xs)
    by_tree (inl e) = (0, [], e)
    by_tree (inr c) = let q = first_of c.starter c.number in (q.0, q.1, c.named ∙ q.2)

pub child_not_root : (actors : List ActorState) → Family actors → (a : ActorState) (k : ℕ) → actor_named actors a.name ≡ Some a → same (child_name a.name k) root_name ≡ false
child_not_root actors f a k there = let n = has_name actors f a there in subst (λ m. same (child_name m k) root_name ≡ false) (sym n.2) (not_root n.0 n.1 k)

-- the name of a start to come is new
pub next_is_new : (actors : List ActorState) → Family actors → (a : ActorState) → actor_named actors a.name ≡ Some a → actor_named actors (child_name a.name (a.starts + 1)) ≡ None
next_is_new actors f a there = by_found (actor_named actors (child_name a.name (a.starts + 1))) refl
  where
    by_tree : IsOfTree actors (child_name a.name (a.starts + 1)) → (X : Type 0) → X
    by_tree (inl e) X = absurd (true≢false (sym (ap (λ m. same m root_name) e) ∙ child_not_root actors f a (a.starts + 1) there))
    by_tree (inr c) X =
        let who : a.name ≡ c.starter = sym (starter-child a.name (a.starts + 1)) ∙ (ap starter_of c.named ∙ starter-child c.starter c.number) in
        let which : a.starts + 1 ≡ c.number = sym (number-child a.name (a.starts + 1)) ∙ (ap number_in c.named ∙ number-child c.starter c.number) in
        let both : Some a ≡ Some c.actor = sym there ∙ (ap (actor_named actors) who ∙ c.there) in
        let is : a ≡ c.actor = cc in
        let few : c.number ≤ a.starts = subst (λ (y : ActorState). c.number ≤ y.starts) (sym is) c.counted in
        absurd (omega (arith, few, which))

    by_found : (o : Option ActorState) → actor_named actors (child_name a.name (a.starts + 1)) ≡ o → o ≡ None
    by_found None e = refl
    by_found (Some y) e = by_tree (f.tree _ y e) _

-- ---- children behind their starters

holds_as : (o p : Option ActorState) (g : ℕ) → p ≡ o → Holds o g → Holds p g
holds_as o p g e h = subst (λ q. Holds q g) (sym e) h

holds_put : (actors : List ActorState) (a x : ActorState) (m : List ℕ) (g : ℕ) → IsPut actors a x → worth x ≤ worth a → Holds (actor_named actors m) g → Holds (actor_named (put_actor actors x) m) g
holds_put actors a x m g p less h = by_name (same a.name m) refl
  where
    by_name : (t : Bool) → same a.name m ≡ t → Holds (actor_named (put_actor actors x) m) g
    by_name true e =
        let is = same_equal a.name m e in
        let was : worth a ≤ g = subst (λ o. Holds o g) (ap (actor_named actors) (sym is) ∙ p.there) h in
        let le : worth x ≤ g = omega (arith, less, was) in
        holds_as (Some x) _ g (ap (actor_named (put_actor actors x)) (sym is) ∙ found_put actors a x p) le
    by_name false e = holds_as (actor_named actors m) _ g (found_else actors a x m p e) h

holds_begun : (actors : List ActorState) (c : ActorState) (m : List ℕ) (g : ℕ) → Holds (actor_named actors m) g → Holds (actor_named (actors ++ c ∷ []) m) g
holds_begun actors c m g h = by_found (actor_named actors m) refl h
  where
    by_found : (o : Option ActorState) → actor_named actors m ≡ o → Holds o g → Holds (actor_named (actors ++ c ∷ []) m) g
    by_found None e h = absurd h
    by_found (Some y) e h = holds_as (Some y) _ g (named_begun actors (Some c) m y e) h

-- the doer is the first of the list, or among the others
there_or : (y a : ActorState) (ys : List ActorState) (t : Bool) → same y.name a.name ≡ t → (if t then Some y else actor_named ys a.name) ≡ Some a → (t ≡ true → y ≡ a) × (t ≡ false → actor_named ys a.name ≡ Some a)
there_or y a ys true e h = (λ _. cc, λ f. absurd cc)
there_or y a ys false e h = (λ f. absurd cc, λ _. h)

pub behind_put : (actors : List ActorState) (a x : ActorState) → IsPut actors a x → ((k g : ℕ) → fuel_given x.unjoined k ≡ Some g → fuel_given a.unjoined k ≡ Some g) → worth x ≤ worth a → AllBehind actors → AllBehind (put_actor actors x)
behind_put [] a x p subset less all = absurd (let e = p.there in cc)
behind_put (y ∷ ys) a x p subset less all = by_name (same y.name x.name) refl (λ here. behind_put ys a x (record { name = p.name; there = here }) subset less all.1)
  where
    at : same y.name x.name ≡ same y.name a.name
    at = ap (same y.name) p.name

    by_name : (t : Bool) → same y.name x.name ≡ t → (actor_named ys a.name ≡ Some a → AllBehind (put_actor ys x)) → AllBehind (if t then x ∷ ys else y ∷ put_actor ys x)
    by_name true e others =
        let is : y ≡ a = (there_or y a ys (same y.name a.name) refl p.there).0 (sym at ∙ e) in
        (λ k g given. subst (λ n. Holds (actor_named ys (child_name n k)) g) (ap (λ (z : ActorState). z.name) is ∙ sym p.name) (all.0 k g (subst (λ (z : ActorState). fuel_given z.unjoined k ≡ Some g) (sym is) (subset k g given))), all.1)
    by_name false e others =
        let here = (there_or y a ys (same y.name a.name) refl p.there).1 (sym at ∙ e) in
        (λ k g given. holds_put ys a x (child_name y.name k) g (record { name = p.name; there = here }) less (all.0 k g given), others here)

behind_behind : (actors : List ActorState) (c : ActorState) → c.unjoined ≡ [] → AllBehind actors → AllBehind (actors ++ c ∷ [])
behind_behind [] c none all = (λ k g given. let f : None ≡ Some g = sym (ap (λ cs. fuel_given cs k) none) ∙ given in absurd cc, tt)
behind_behind (y ∷ ys) c none all = (λ k g given. holds_begun ys c (child_name y.name k) g (all.0 k g given), behind_behind ys c none all.1)

-- a child of the doer with one more: it is the new one, or was there
more_children : (cs ds : Children) (j g k f : ℕ) → ds ≡ with_child cs j f → fuel_given ds k ≡ Some g → ((k ≡ j) × (g ≡ f)) ⊎ (fuel_given cs k ≡ Some g)
more_children cs ds j g k f is given = by_number (is_number k j) refl (sym (given_there cs j f k) ∙ (ap (λ es. fuel_given es k) (sym is) ∙ given))
  where
    by_number : (t : Bool) → is_number k j ≡ t → (if t then Some f else fuel_given cs k) ≡ Some g → ((k ≡ j) × (g ≡ f)) ⊎ (fuel_given cs k ≡ Some g)
    by_number true e h = inl (number_is k j e, cc)
    by_number false e h = inr h

pub behind_started : (actors : List ActorState) (a x c : ActorState) (j f : ℕ) → IsPut actors a x → x.unjoined ≡ with_child a.unjoined j f → c.name ≡ child_name a.name j → worth c ≤ f → c.unjoined ≡ [] → worth x ≤ worth a → IsNew c.name actors → AllBehind actors
    → AllBehind (put_actor actors x ++ c ∷ [])
behind_started [] a x c j f p more named small none less new all = absurd (let e = p.there in cc)
behind_started (y ∷ ys) a x c j f p more named small none less new all =
    by_name (same y.name x.name) refl (λ here. behind_started ys a x c j f (record { name = p.name; there = here }) more named small none less new.1 all.1)
  where
    at : same y.name x.name ≡ same y.name a.name
    at = ap (same y.name) p.name

    by_child : (k g : ℕ) → y ≡ a → ((k ≡ j) × (g ≡ f)) ⊎ (fuel_given a.unjoined k ≡ Some g) → Holds (actor_named (ys ++ c ∷ []) (child_name x.name k)) g
    by_child k g is (inl e) =
        let name : child_name x.name k ≡ c.name = ap (λ n. child_name n k) p.name ∙ (ap (child_name a.name) e.0 ∙ sym named) in
        let le : worth c ≤ g = omega (arith, small, e.1) in
        holds_as (Some c) _ g (ap (actor_named (ys ++ c ∷ [])) name ∙ found_behind ys c c.name (new_none ys c.name new.1) (same_self c.name)) le
    by_child k g is (inr given) =
        let was : Holds (actor_named ys (child_name y.name k)) g = all.0 k g (subst (λ (z : ActorState). fuel_given z.unjoined k ≡ Some g) (sym is) given) in
        holds_begun ys c (child_name x.name k) g (subst (λ n. Holds (actor_named ys (child_name n k)) g) (ap (λ (z : ActorState). z.name) is ∙ sym p.name) was)

    by_name : (t : Bool) → same y.name x.name ≡ t → (actor_named ys a.name ≡ Some a → AllBehind (put_actor ys x ++ c ∷ [])) → AllBehind ((if t then x ∷ ys else y ∷ put_actor ys x) ++ c ∷ [])
    by_name true e others =
        let is : y ≡ a = (there_or y a ys (same y.name a.name) refl p.there).0 (sym at ∙ e) in
        (λ k g given. by_child k g is (more_children a.unjoined x.unjoined j g k f more given), behind_behind ys c none all.1)
    by_name false e others =
        let here = (there_or y a ys (same y.name a.name) refl p.there).1 (sym at ∙ e) in
        (λ k g given. holds_begun (put_actor ys x) c (child_name y.name k) g (holds_put ys a x (child_name y.name k) g (record { name = p.name; there = here }) less (all.0 k g given)), others here)

-- a child that is not joined is there, whoever is found first
pub found_apart : (y : ActorState) (ys : List ActorState) (m : List ℕ) (g : ℕ) → IsNew y.name ys → Holds (actor_named ys m) g → same y.name m ≡ false
found_apart y ys m g new h = by_name (same y.name m) refl
  where
    by_name : (t : Bool) → same y.name m ≡ t → same y.name m ≡ false
    by_name false e = e
    by_name true e = absurd (subst (λ o. Holds o g) (ap (actor_named ys) (sym (same_equal y.name m e)) ∙ new_none ys y.name new) h)

pub behind_named : (actors : List ActorState) (a : ActorState) (k g : ℕ) → AreDistinct actors → AllBehind actors → actor_named actors a.name ≡ Some a → fuel_given a.unjoined k ≡ Some g → Holds (actor_named actors (child_name a.name k)) g
behind_named [] a k g distinct all there given = absurd (let e = there in cc)
behind_named (y ∷ ys) a k g distinct all there given = by_name (same y.name a.name) refl there (λ here. behind_named ys a k g distinct.1 all.1 here given)
  where
    first : (m : List ℕ) → same y.name m ≡ false → Holds (actor_named ys m) g → Holds (if same y.name m then Some y else actor_named ys m) g
    first m apart h = holds_as (actor_named ys m) _ g (ap (λ t. if t then Some y else actor_named ys m) apart) h

    by_name : (t : Bool) → same y.name a.name ≡ t → (if t then Some y else actor_named ys a.name) ≡ Some a → (actor_named ys a.name ≡ Some a → Holds (actor_named ys (child_name a.name k)) g)
        → Holds (if same y.name (child_name a.name k) then Some y else actor_named ys (child_name a.name k)) g
    by_name true e h others =
        let is : y ≡ a = cc in
        first (child_name a.name k) (ap (λ (z : ActorState). same z.name (child_name a.name k)) is ∙ child_apart a.name k)
        (subst (λ (z : ActorState). Holds (actor_named ys (child_name z.name k)) g) is (all.0 k g (subst (λ (z : ActorState). fuel_given z.unjoined k ≡ Some g) (sym is) given)))
    by_name false e h others = let holds = others h in first (child_name a.name k) (found_apart y ys (child_name a.name k) g distinct.0 holds) holds

-- ---- who is still to be joined

-- where the doer has the same child of the number in a name, or the name is not of its children
pub unjoined_put : (actors : List ActorState) (a x : ActorState) (m : List ℕ) → IsPut actors a x → (a.name ≡ starter_of m → is_child x.unjoined (number_in m) ≡ is_child a.unjoined (number_in m))
    → is_unjoined (put_actor actors x) m ≡ is_unjoined actors m
unjoined_put actors a x m p as_before = ap (λ t. same m root_name || t) (by_name (same a.name (starter_of m)) refl)
  where
    by_name : (t : Bool) → same a.name (starter_of m) ≡ t → has_child (actor_named (put_actor actors x) (starter_of m)) (number_in m) ≡ has_child (actor_named actors (starter_of m)) (number_in m)
    by_name true e =
        let is = same_equal a.name (starter_of m) e in
        ap (λ o. has_child o (number_in m)) (ap (actor_named (put_actor actors x)) (sym is) ∙ found_put actors a x p) ∙ as_before is
        ∙ sym (ap (λ o. has_child o (number_in m)) (ap (actor_named actors) (sym is) ∙ p.there))
    by_name false e = ap (λ o. has_child o (number_in m)) (found_else actors a x (starter_of m) p e)

pub unjoined_behind : (actors : List ActorState) (c : ActorState) (m : List ℕ) → actor_named actors c.name ≡ None → c.unjoined ≡ [] → is_unjoined (actors ++ c ∷ []) m ≡ is_unjoined actors m
unjoined_behind actors c m new none = ap (λ t. same m root_name || t) (by_name (same c.name (starter_of m)) refl)
  where
    by_name : (t : Bool) → same c.name (starter_of m) ≡ t → has_child (actor_named (actors ++ c ∷ []) (starter_of m)) (number_in m) ≡ has_child (actor_named actors (starter_of m)) (number_in m)
    by_name true e =
        let is = same_equal c.name (starter_of m) e in
        ap (λ o. has_child o (number_in m)) (found_behind actors c (starter_of m) (ap (actor_named actors) (sym is) ∙ new) e) ∙ ap (λ cs. is_child cs (number_in m)) none
        ∙ sym (ap (λ o. has_child o (number_in m)) (ap (actor_named actors) (sym is) ∙ new))
    by_name false e = ap (λ o. has_child o (number_in m)) (found_before actors c (starter_of m) e)

-- a name is that of its number's child of its starter
pub split_name : (x : ℕ) (xs : List ℕ) → child_name (starter_of (x ∷ xs)) (number_in (x ∷ xs)) ≡ x ∷ xs
split_name x [] = refl
split_name x (y ∷ ys) = ap (λ zs. x ∷ zs) (split_name y ys)

-- of the children of the actor of a name, another number is another name
other_number : (n m : List ℕ) (k x : ℕ) (xs : List ℕ) → n ≡ x ∷ xs → n ≡ starter_of m → same m (child_name n k) ≡ false → number_in m ≡ k → ⊥
other_number n [] k x xs named is apart e = let f = sym named ∙ is in cc
other_number n (y ∷ ys) k x xs named is apart e =
    let whole : y ∷ ys ≡ child_name n k = sym (split_name y ys) ∙ (ap (λ l. child_name l (number_in (y ∷ ys))) (sym is) ∙ ap (child_name n) e) in
    true≢false (sym (same_self (y ∷ ys)) ∙ (ap (same (y ∷ ys)) whole ∙ apart))

pub other_child : (actors : List ActorState) → Family actors → (a : ActorState) (m : List ℕ) (k : ℕ) → actor_named actors a.name ≡ Some a → a.name ≡ starter_of m → same m (child_name a.name k) ≡ false → number_in m ≡ k → ⊥
other_child actors f a m k there is apart e = let n = has_name actors f a there in other_number a.name m k n.0 n.1 n.2 is apart e

child_same : (o p : Option ℕ) → o ≡ p → is_some o ≡ is_some p
child_same o p e = ap is_some e

is_more : (cs : Children) (j f k : ℕ) → (k ≡ j → ⊥) → is_child (with_child cs j f) k ≡ is_child cs k
is_more cs j f k apart = ap is_some (given_there cs j f k) ∙ by_number (is_number k j) refl
  where
    by_number : (t : Bool) → is_number k j ≡ t → is_some (if t then Some f else fuel_given cs k) ≡ is_some (fuel_given cs k)
    by_number true e = absurd (apart (number_is k j e))
    by_number false e = refl

pub has_more : (cs : Children) (j f : ℕ) → is_child (with_child cs j f) j ≡ true
has_more cs j f = ap is_some (given_there cs j f j) ∙ ap (λ t. is_some (if t then Some f else fuel_given cs j)) (number_self j)

-- who waits for a run has not joined it
waits_put : (actors : List ActorState) (a x : ActorState) → Family actors → IsPut actors a x → WaitsForOwn x.phase x.unjoined → (m : List ℕ) (y : ActorState) → actor_named (put_actor actors x) m ≡ Some y → WaitsForOwn y.phase y.unjoined
waits_put actors a x f p waits m y found = was (find_put actors a x m y p found)
  where
    was : FoundPut actors a x m y → WaitsForOwn y.phase y.unjoined
    was (IsDoer is e) = subst (λ (z : ActorState). WaitsForOwn z.phase z.unjoined) (sym e) waits
    was (IsOther apart e) = f.waits m y e

waits_behind : (actors : List ActorState) (c : ActorState) → ((m : List ℕ) (y : ActorState) → actor_named actors m ≡ Some y → WaitsForOwn y.phase y.unjoined) → WaitsForOwn c.phase c.unjoined
    → (m : List ℕ) (y : ActorState) → actor_named (actors ++ c ∷ []) m ≡ Some y → WaitsForOwn y.phase y.unjoined
waits_behind actors c h own m y found = was (found_or_last actors c m y found)
  where
    was : (actor_named actors m ≡ Some y) ⊎ (y ≡ c) → WaitsForOwn y.phase y.unjoined
    was (inl e) = h m y e
    was (inr e) = subst (λ (z : ActorState). WaitsForOwn z.phase z.unjoined) (sym e) own

-- ---- the three ways in which actors go on

-- a doer with the same starts and children, and no more fuel
pub family_alone : (actors : List ActorState) (a x : ActorState) → Family actors → IsPut actors a x → has_ended a.phase ≡ false → x.starts ≡ a.starts → x.unjoined ≡ a.unjoined → x.fuel ≤ a.fuel → WaitsForOwn x.phase x.unjoined → Family (put_actor actors x)
family_alone actors a x f p live starts unjoined fuel waits =
    let same_given : all_given x.unjoined ≡ all_given a.unjoined = ap all_given unjoined in
    let unjoined_same : (m : List ℕ) → is_unjoined (put_actor actors x) m ≡ is_unjoined actors m = λ m. unjoined_put actors a x m p (λ _. ap (λ cs. is_child cs (number_in m)) unjoined) in
    record {
      tree = tree_put actors a x p (omega (arith, starts)) f.tree;
      distinct = put_distinct actors x f.distinct;
      behind = behind_put actors a x p (λ k g given. ap (λ cs. fuel_given cs k) (sym unjoined) ∙ given) (omega (arith, same_given, fuel)) f.behind;
      waits = waits_put actors a x f p waits;
      live = λ m y found alive. unjoined_same m ∙ was_live m y alive (find_put actors a x m y p found);
    }
  where
    was_live : (m : List ℕ) (y : ActorState) → has_ended y.phase ≡ false → FoundPut actors a x m y → is_unjoined actors m ≡ true
    was_live m y alive (IsDoer is e) = f.live m a (ap (actor_named actors) is ∙ p.there) live
    was_live m y alive (IsOther apart e) = f.live m y e alive

-- a doer that joined a child, which has ended
pub record JoinsChild (actors : List ActorState) (a x : ActorState) : Type 0 where
  pub number : ℕ
  pub child : ActorState
  pub listed : is_child a.unjoined number ≡ true
  pub there : actor_named actors (child_name a.name number) ≡ Some child
  pub ended : has_ended child.phase ≡ true
  pub starts : x.starts ≡ a.starts
  pub unjoined : x.unjoined ≡ without_child a.unjoined number
  pub fuel : x.fuel ≤ a.fuel + child.fuel

given_is : (cs : Children) (k : ℕ) → is_child cs k ≡ true → (g : ℕ) × (fuel_given cs k ≡ Some g)
given_is cs k e = by_found (fuel_given cs k) refl e
  where
    by_found : (o : Option ℕ) → fuel_given cs k ≡ o → is_some o ≡ true → (g : ℕ) × (fuel_given cs k ≡ Some g)
    by_found None h s = absurd cc
    by_found (Some g) h s = (g, h)

-- what a joined child brings back is at most what it was given
pub brings_back : (actors : List ActorState) (a c : ActorState) (k g : ℕ) → Family actors → actor_named actors a.name ≡ Some a → actor_named actors (child_name a.name k) ≡ Some c → fuel_given a.unjoined k ≡ Some g → worth c ≤ g
brings_back actors a c k g f there named given = subst (λ o. Holds o g) named (behind_named actors a k g f.distinct f.behind there given)

pub joined_others : (actors : List ActorState) (a x : ActorState) → Family actors → IsPut actors a x → (j : JoinsChild actors a x) (m : List ℕ) → same m (child_name a.name j.number) ≡ false → is_unjoined (put_actor actors x) m ≡ is_unjoined actors m
joined_others actors a x f p j m apart =
    unjoined_put actors a x m p
    (λ is. ap (λ cs. is_child cs (number_in m)) j.unjoined ∙ ap is_some (given_elsewhere a.unjoined j.number (number_in m) (other_child actors f a m j.number p.there is apart)))

pub family_joined : (actors : List ActorState) (a x : ActorState) → Family actors → IsPut actors a x → has_ended a.phase ≡ false → JoinsChild actors a x → WaitsForOwn x.phase x.unjoined → Family (put_actor actors x)
family_joined actors a x f p live j waits =
    let given = given_is a.unjoined j.number j.listed in
    let small : worth j.child ≤ given.0 = brings_back actors a j.child j.number given.0 f p.there j.there given.1 in
    let back = taken_back a.unjoined j.number given.0 given.1 in
    let left : all_given x.unjoined ≡ all_given (without_child a.unjoined j.number) = ap all_given j.unjoined in
    record {
      tree = tree_put actors a x p (omega (arith, j.starts)) f.tree;
      distinct = put_distinct actors x f.distinct;
      behind = behind_put actors a x p (λ k g h. was_given k g (ap (λ cs. fuel_given cs k) (sym j.unjoined) ∙ h)) (omega (arith, small, back, left, j.fuel)) f.behind;
      waits = waits_put actors a x f p waits;
      live = λ m y found alive. still m (is_live m y alive (find_put actors a x m y p found)) ∙ was_live m y alive (find_put actors a x m y p found);
    }
  where
    was_given : (k g : ℕ) → fuel_given (without_child a.unjoined j.number) k ≡ Some g → fuel_given a.unjoined k ≡ Some g
    was_given k g h = by_number (is_number k j.number) refl
      where
        by_number : (t : Bool) → is_number k j.number ≡ t → fuel_given a.unjoined k ≡ Some g
        by_number true e =
            let gone : None ≡ Some g = sym (given_gone a.unjoined j.number) ∙ (ap (fuel_given (without_child a.unjoined j.number)) (sym (number_is k j.number e)) ∙ h) in
            absurd cc
        by_number false e = sym (given_elsewhere a.unjoined j.number k (λ is. true≢false (sym (number_self k) ∙ (ap (is_number k) is ∙ e)))) ∙ h

    was_live : (m : List ℕ) (y : ActorState) → has_ended y.phase ≡ false → FoundPut actors a x m y → is_unjoined actors m ≡ true
    was_live m y alive (IsDoer is e) = f.live m a (ap (actor_named actors) is ∙ p.there) live
    was_live m y alive (IsOther apart e) = f.live m y e alive

    -- whoever lives is not the child that was joined
    not_it : (m : List ℕ) (y : ActorState) → actor_named actors m ≡ Some y → has_ended y.phase ≡ false → same m (child_name a.name j.number) ≡ false
    not_it m y there alive = by_name (same m (child_name a.name j.number)) refl
      where
        by_name : (t : Bool) → same m (child_name a.name j.number) ≡ t → same m (child_name a.name j.number) ≡ false
        by_name false e = e
        by_name true e =
            let is : y ≡ j.child = one_actor actors m (child_name a.name j.number) y j.child e there j.there in
            absurd (true≢false (sym j.ended ∙ (ap (λ (z : ActorState). has_ended z.phase) (sym is) ∙ alive)))

    is_live : (m : List ℕ) (y : ActorState) → has_ended y.phase ≡ false → FoundPut actors a x m y → same m (child_name a.name j.number) ≡ false
    is_live m y alive (IsDoer is e) = not_it m a (ap (actor_named actors) is ∙ p.there) live
    is_live m y alive (IsOther apart e) = not_it m y e alive

    still : (m : List ℕ) → same m (child_name a.name j.number) ≡ false → is_unjoined (put_actor actors x) m ≡ is_unjoined actors m
    still m apart = joined_others actors a x f p j m apart

-- a doer that started a child
pub record StartsChild (a x c : ActorState) : Type 0 where
  pub starts : x.starts ≡ a.starts + 1
  pub unjoined : x.unjoined ≡ with_child a.unjoined (a.starts + 1) c.fuel
  pub fuel : x.fuel + c.fuel ≤ a.fuel
  pub name : c.name ≡ child_name a.name (a.starts + 1)
  pub childless : c.unjoined ≡ []

pub started_others : (actors : List ActorState) (a x c : ActorState) → Family actors → IsPut actors a x → (s : StartsChild a x c) (m : List ℕ) → same m c.name ≡ false → is_unjoined (put_actor actors x) m ≡ is_unjoined actors m
started_others actors a x c f p s m apart =
    unjoined_put actors a x m p
    (λ is. ap (λ cs. is_child cs (number_in m)) s.unjoined ∙ is_more a.unjoined (a.starts + 1) c.fuel (number_in m) (other_child actors f a m (a.starts + 1) p.there is (ap (same m) (sym s.name) ∙ apart)))

-- no actor had the name of the child
pub started_new : (actors : List ActorState) (a x c : ActorState) → Family actors → IsPut actors a x → StartsChild a x c → actor_named (put_actor actors x) c.name ≡ None
started_new actors a x c f p s =
    found_else actors a x c.name p (ap (same a.name) s.name ∙ child_apart a.name (a.starts + 1)) ∙ (ap (actor_named actors) s.name ∙ next_is_new actors f a p.there)

-- and the child is among those to be joined
pub started_unjoined : (actors : List ActorState) (a x c : ActorState) → IsPut actors a x → StartsChild a x c → is_unjoined (put_actor actors x) c.name ≡ true
started_unjoined actors a x c p s =
    let who : starter_of c.name ≡ a.name = ap starter_of s.name ∙ starter-child a.name (a.starts + 1) in
    let which : number_in c.name ≡ a.starts + 1 = ap number_in s.name ∙ number-child a.name (a.starts + 1) in
    let has : has_child (actor_named (put_actor actors x) (starter_of c.name)) (number_in c.name) ≡ true =
    ap (λ o. has_child o (number_in c.name)) (ap (actor_named (put_actor actors x)) who ∙ found_put actors a x p)
    ∙ (ap (is_child x.unjoined) which ∙ (ap (λ cs. is_child cs (a.starts + 1)) s.unjoined ∙ has_more a.unjoined (a.starts + 1) c.fuel)) in
    by_root (same c.name root_name) has
  where
    by_root : (t : Bool) {u : Bool} → u ≡ true → (t || u) ≡ true
    by_root true e = refl
    by_root false e = e

pub family_started : (actors : List ActorState) (a x c : ActorState) → Family actors → IsPut actors a x → has_ended a.phase ≡ false → StartsChild a x c → WaitsForOwn x.phase x.unjoined → WaitsForOwn c.phase c.unjoined → Family (put_actor actors x ++ c ∷ [])
family_started actors a x c f p live s waits child_waits =
    let put = put_actor actors x in
    let new = started_new actors a x c f p s in
    let was_new : actor_named actors c.name ≡ None = ap (actor_named actors) s.name ∙ next_is_new actors f a p.there in
    let none : all_given c.unjoined ≡ 0 = ap all_given s.childless in
    let given = given_with a.unjoined (a.starts + 1) c.fuel in
    let more : all_given x.unjoined ≡ all_given (with_child a.unjoined (a.starts + 1) c.fuel) = ap all_given s.unjoined in
    record {
      tree = tree_behind put c (inr (record { starter = a.name; number = a.starts + 1; actor = x; named = s.name; there = found_put actors a x p; counted = omega (arith, s.starts) }))
          (tree_put actors a x p (omega (arith, s.starts)) f.tree);
      distinct = distinct_behind put c (put_distinct actors x f.distinct) (none_new put c.name new);
      behind = behind_started actors a x c (a.starts + 1) c.fuel p s.unjoined s.name (omega (arith, none)) s.childless (omega (arith, given, more, s.fuel)) (none_new actors c.name was_new) f.behind;
      waits = waits_behind put c (waits_put actors a x f p waits) child_waits;
      live = λ m y found alive. unjoined_behind put c m new s.childless ∙ by_name m y (same c.name m) refl found alive;
    }
  where
    was_live : (m : List ℕ) (y : ActorState) → has_ended y.phase ≡ false → FoundPut actors a x m y → is_unjoined actors m ≡ true
    was_live m y alive (IsDoer is e) = f.live m a (ap (actor_named actors) is ∙ p.there) live
    was_live m y alive (IsOther apart e) = f.live m y e alive

    by_name : (m : List ℕ) (y : ActorState) (t : Bool) → same c.name m ≡ t → actor_named (put_actor actors x ++ c ∷ []) m ≡ Some y → has_ended y.phase ≡ false → is_unjoined (put_actor actors x) m ≡ true
    by_name m y true e found alive = subst (λ n. is_unjoined (put_actor actors x) n ≡ true) (same_equal c.name m e) (started_unjoined actors a x c p s)
    by_name m y false e found alive =
        let there : actor_named (put_actor actors x) m ≡ Some y = sym (found_before (put_actor actors x) c m e) ∙ found in
        started_others actors a x c f p s m (apart_too c.name m e) ∙ was_live m y alive (find_put actors a x m y p there)
