-- Names as a tree: a child's name and its starter's; and who is found where an actor was put and another began.
use Rattle.std.proofs.Common.{◌≡◌, ℕ, Bool, true, false, true≢false, List, [], ◌∷◌, ◌++◌, refl, sym, ap, subst, ◌∙◌, inl, inr}
use Rattle.std.proofs.lemmas.Bool.{eq-eqb}
use Rattle.std.specs.Prelude.{Some, None, ◌==◌, ◌&&◌, ◌⊎◌, if◌then◌else◌}
use Rattle.wedge_base.specs.Names.{same, root_name}
use Rattle.machine.specs.Actors.{ActorState}
use Rattle.machine.specs.Children.{child_name}
use Rattle.run_laws.specs.Fuel.{starter_of, number_in}
use Rattle.run_laws.specs.Names.{IsNew, AreDistinct}
use Rattle.machine.specs.Worlds.{actor_named, put_actor}
use Rattle.run_laws.proofs.Named.{same_self, same_equal, named_put, named_put_other}

-- ---- names

pub starter-child : (n : List ℕ) (k : ℕ) → starter_of (child_name n k) ≡ n
starter-child [] k = refl
starter-child (x ∷ []) k = refl
starter-child (x ∷ y ∷ ys) k = ap (λ zs. x ∷ zs) (starter-child (y ∷ ys) k)

pub number-child : (n : List ℕ) (k : ℕ) → number_in (child_name n k) ≡ k
number-child [] k = refl
number-child (x ∷ []) k = refl
number-child (x ∷ y ∷ ys) k = number-child (y ∷ ys) k

pub child_apart : (n : List ℕ) (k : ℕ) → same n (child_name n k) ≡ false
child_apart [] k = refl
child_apart (x ∷ xs) k = ap (λ t. t && same xs (child_name xs k)) (eq-eqb x x refl) ∙ child_apart xs k

-- a name of two parts and more is not the root's
pub not_root : (x : ℕ) (xs : List ℕ) (k : ℕ) → same (child_name (x ∷ xs) k) root_name ≡ false
not_root x [] k = by_test (x == 0)
  where
    by_test : (t : Bool) → (t && false) ≡ false
    by_test true = refl
    by_test false = refl
not_root x (y ∷ ys) k = by_test (x == 0)
  where
    by_test : (t : Bool) → (t && false) ≡ false
    by_test true = refl
    by_test false = refl

-- names that are not the same are not so the other way round
pub apart_too : (xs ys : List ℕ) → same xs ys ≡ false → same ys xs ≡ false
apart_too xs ys h = by_test (same ys xs) refl
  where
    by_test : (t : Bool) → same ys xs ≡ t → same ys xs ≡ false
    by_test false e = e
    by_test true e = absurd (true≢false (sym (same_self xs) ∙ (ap (same xs) (sym (same_equal ys xs e)) ∙ h)))

-- ---- who is found where the actor of a name goes on as x, and o begins

-- the old actor of a name, and what it is now
pub record IsPut (actors : List ActorState) (a x : ActorState) : Type 0 where
  pub name : x.name ≡ a.name
  pub there : actor_named actors a.name ≡ Some a

pub found_put : (actors : List ActorState) (a x : ActorState) → IsPut actors a x → actor_named (put_actor actors x) a.name ≡ Some x
found_put actors a x p = subst (λ m. actor_named (put_actor actors x) m ≡ Some x) p.name (named_put actors x a (ap (actor_named actors) p.name ∙ p.there))

pub found_else : (actors : List ActorState) (a x : ActorState) (m : List ℕ) → IsPut actors a x → same a.name m ≡ false → actor_named (put_actor actors x) m ≡ actor_named actors m
found_else actors a x m p apart = named_put_other actors x m (ap (λ n. same n m) p.name ∙ apart)

-- whoever is found was there before under that name, and is as it was, or is x
pub data FoundPut (actors : List ActorState) (a x : ActorState) (m : List ℕ) (y : ActorState) : Type 0 where
  IsDoer : m ≡ a.name → y ≡ x → FoundPut actors a x m y
  IsOther : same a.name m ≡ false → actor_named actors m ≡ Some y → FoundPut actors a x m y

pub find_put : (actors : List ActorState) (a x : ActorState) (m : List ℕ) (y : ActorState) → IsPut actors a x → actor_named (put_actor actors x) m ≡ Some y → FoundPut actors a x m y
find_put actors a x m y p found = by_name (same a.name m) refl
  where
    by_name : (t : Bool) → same a.name m ≡ t → FoundPut actors a x m y
    by_name true e =
        let is : a.name ≡ m = same_equal a.name m e in
        let both : Some x ≡ Some y = sym (found_put actors a x p) ∙ (ap (actor_named (put_actor actors x)) is ∙ found) in
        let same_actor : x ≡ y = cc in
        IsDoer (sym is) (sym same_actor)
    by_name false e = IsOther e (sym (found_else actors a x m p e) ∙ found)

-- behind the others
pub found_behind : (actors : List ActorState) (c : ActorState) (m : List ℕ) → actor_named actors m ≡ None → same c.name m ≡ true → actor_named (actors ++ c ∷ []) m ≡ Some c
found_behind [] c m none is = ap (λ t. if t then Some c else None) is
found_behind (y ∷ ys) c m none is = by_name (same y.name m) none (λ h. found_behind ys c m h is)
  where
    by_name : (t : Bool) → (if t then Some y else actor_named ys m) ≡ None → (actor_named ys m ≡ None → actor_named (ys ++ c ∷ []) m ≡ Some c) → (if t then Some y else actor_named (ys ++ c ∷ []) m) ≡ Some c
    by_name true h others = absurd cc
    by_name false h others = others h

pub found_before : (actors : List ActorState) (c : ActorState) (m : List ℕ) → same c.name m ≡ false → actor_named (actors ++ c ∷ []) m ≡ actor_named actors m
found_before [] c m apart = ap (λ t. if t then Some c else None) apart
found_before (y ∷ ys) c m apart = ap (λ o. if same y.name m then Some y else o) (found_before ys c m apart)

-- whoever is found is the last, or was found before
pub found_or_last : (actors : List ActorState) (c : ActorState) (m : List ℕ) (y : ActorState) → actor_named (actors ++ c ∷ []) m ≡ Some y → (actor_named actors m ≡ Some y) ⊎ (y ≡ c)
found_or_last [] c m y e = by_name (same c.name m) e
  where
    by_name : (t : Bool) → (if t then Some c else None) ≡ Some y → (None ≡ Some y) ⊎ (y ≡ c)
    by_name true h = inr cc
    by_name false h = absurd cc
found_or_last (z ∷ zs) c m y e = by_name (same z.name m) e (found_or_last zs c m y)
  where
    by_name : (t : Bool) → (if t then Some z else actor_named (zs ++ c ∷ []) m) ≡ Some y → (actor_named (zs ++ c ∷ []) m ≡ Some y → (actor_named zs m ≡ Some y) ⊎ (y ≡ c)) → ((if t then Some z else actor_named zs m) ≡ Some y) ⊎ (y ≡ c)
    by_name true h others = inl h
    by_name false h others = others h

-- ---- new names

pub none_new : (actors : List ActorState) (m : List ℕ) → actor_named actors m ≡ None → IsNew m actors
none_new [] m e = tt
none_new (y ∷ ys) m e = by_name (same y.name m) refl e (none_new ys m)
  where
    by_name : (t : Bool) → same y.name m ≡ t → (if t then Some y else actor_named ys m) ≡ None → (actor_named ys m ≡ None → IsNew m ys) → (same y.name m ≡ false) × IsNew m ys
    by_name true s h others = absurd cc
    by_name false s h others = (s, others h)

pub new_none : (actors : List ActorState) (m : List ℕ) → IsNew m actors → actor_named actors m ≡ None
new_none [] m h = refl
new_none (y ∷ ys) m h = ap (λ t. if t then Some y else actor_named ys m) h.0 ∙ new_none ys m h.1

-- one behind the others, of a new name
new_behind : (m : List ℕ) (actors : List ActorState) (c : ActorState) → IsNew m actors → same c.name m ≡ false → IsNew m (actors ++ c ∷ [])
new_behind m [] c h apart = (apart, tt)
new_behind m (y ∷ ys) c h apart = (h.0, new_behind m ys c h.1 apart)

pub distinct_behind : (actors : List ActorState) (c : ActorState) → AreDistinct actors → IsNew c.name actors → AreDistinct (actors ++ c ∷ [])
distinct_behind [] c all new = (tt, tt)
distinct_behind (y ∷ ys) c all new = (new_behind y.name ys c all.0 (apart_too y.name c.name new.0), distinct_behind ys c all.1 new.1)

-- ---- an actor that is put as it is
put_same_or : (y a : ActorState) (ys others : List ActorState) (t : Bool) → same y.name a.name ≡ t → (if t then Some y else actor_named ys a.name) ≡ Some a → (actor_named ys a.name ≡ Some a → others ≡ ys) → (if t then a ∷ ys else y ∷ others) ≡ y ∷ ys
put_same_or y a ys others true e h same_others = let is : y ≡ a = cc in ap (λ z. z ∷ ys) (sym is)
put_same_or y a ys others false e h same_others = ap (λ zs. y ∷ zs) (same_others h)

pub put_same : (actors : List ActorState) (a : ActorState) → actor_named actors a.name ≡ Some a → put_actor actors a ≡ actors
put_same [] a there = absurd (let e = there in cc)
put_same (y ∷ ys) a there = put_same_or y a ys (put_actor ys a) (same y.name a.name) refl there (put_same ys a)
