-- Actors by name: one put in its place is found there, and each other stays.
use Rattle.std.proofs.Common.{◌≡◌, ℕ, Bool, true, false, List, [], ◌∷◌, refl, sym, ap, subst, ◌∙◌}
use Rattle.std.proofs.lemmas.Bool.{eqb-true, eq-eqb}
use Rattle.std.specs.Prelude.{Option, Some, None, IfSome, ◌++◌, ◌==◌, ◌&&◌, if◌then◌else◌}
use Rattle.wedge_base.specs.Names.{same}
use Rattle.wedge_base.specs.declared.outcome.DenialAt.{DenialAt}
use Rattle.machine.specs.Actors.{ActorState}
use Rattle.machine.specs.Worlds.{actor_named, put_actor, with_begun}
use Rattle.run_laws.specs.Moments.{noted_by}

pub same_self : (xs : List ℕ) → same xs xs ≡ true
same_self [] = refl
same_self (x ∷ xs) = ap (λ b. b && same xs xs) (eq-eqb x x refl) ∙ same_self xs

both : (a b : Bool) → (a && b) ≡ true → (a ≡ true) × (b ≡ true)
both true b e = (refl, e)
both false b e = cc

pub same_equal : (xs ys : List ℕ) → same xs ys ≡ true → xs ≡ ys
same_equal [] [] e = refl
same_equal [] (y ∷ ys) e = cc
same_equal (x ∷ xs) [] e = cc
same_equal (x ∷ xs) (y ∷ ys) e =
    let p = both (x == y) (same xs ys) e in
    let heads : x ≡ y = eqb-true x y p.0 in
    let tails = same_equal xs ys p.1 in
    cc

-- the actor that is found under a name has it
found_or : (y a : ActorState) (ys : List ActorState) (name : List ℕ) (t : Bool) → same y.name name ≡ t → (if t then Some y else actor_named ys name) ≡ Some a → (actor_named ys name ≡ Some a → a.name ≡ name) → a.name ≡ name
found_or y a ys name true s e others = let is : y ≡ a = cc in subst (λ (x : ActorState). x.name ≡ name) is (same_equal y.name name s)
found_or y a ys name false s e others = others e

pub found_name : (ys : List ActorState) (name : List ℕ) (a : ActorState) → actor_named ys name ≡ Some a → a.name ≡ name
found_name [] name a e = cc
found_name (y ∷ ys) name a e = found_or y a ys name _ refl e (found_name ys name a)

-- put there, and put there again
put_again : (y a b : ActorState) (ys : List ActorState) (t : Bool) → same y.name a.name ≡ t → b.name ≡ a.name → put_actor (put_actor ys a) b ≡ put_actor ys b
    → put_actor (if t then a ∷ ys else y ∷ put_actor ys a) b ≡ (if t then b ∷ ys else y ∷ put_actor ys b)
put_again y a b ys true s n h = ap (λ (m : List ℕ). if same a.name m then b ∷ ys else a ∷ put_actor ys b) n ∙ ap (λ u. if u then b ∷ ys else a ∷ put_actor ys b) (same_self a.name)
put_again y a b ys false s n h =
    ap (λ (m : List ℕ). if same y.name m then b ∷ put_actor ys a else y ∷ put_actor (put_actor ys a) b) n
    ∙ ap (λ u. if u then b ∷ put_actor ys a else y ∷ put_actor (put_actor ys a) b) s ∙ ap (λ zs. y ∷ zs) h

pub put_put : (ys : List ActorState) (a b : ActorState) → b.name ≡ a.name → put_actor (put_actor ys a) b ≡ put_actor ys b
put_put [] a b n =
    ap (λ (m : List ℕ). if same a.name m then b ∷ [] else a ∷ b ∷ []) n ∙ ap (λ u. if u then b ∷ [] else a ∷ b ∷ []) (same_self a.name)
put_put (y ∷ ys) a b n =
    put_again y a b ys (same y.name a.name) refl n (put_put ys a b n)
    ∙ ap (λ (m : List ℕ). if same y.name m then b ∷ ys else y ∷ put_actor ys b) (sym n)

-- what was put is found
put_found : (y a b : ActorState) (ys : List ActorState) (t : Bool) → same y.name a.name ≡ t → (if t then Some y else actor_named ys a.name) ≡ Some b
    → (actor_named ys a.name ≡ Some b → actor_named (put_actor ys a) a.name ≡ Some a)
    → actor_named (if t then a ∷ ys else y ∷ put_actor ys a) a.name ≡ Some a
put_found y a b ys true s e others = ap (λ u. if u then Some a else actor_named ys a.name) (same_self a.name)
put_found y a b ys false s e others = ap (λ u. if u then Some y else actor_named (put_actor ys a) a.name) s ∙ others e

pub named_put : (ys : List ActorState) (a b : ActorState) → actor_named ys a.name ≡ Some b → actor_named (put_actor ys a) a.name ≡ Some a
named_put [] a b e = absurd cc
named_put (y ∷ ys) a b e = put_found y a b ys _ refl e (named_put ys a b)

-- two actors of one name with the same denials, put there: every name has the same denials
abbrev noted : List ActorState → List ℕ → List DenialAt
noted ys name = noted_by (actor_named ys name)

first_noted : (a b : ActorState) (xs ys : List ActorState) (name : List ℕ) (t : Bool) → b.denials ≡ a.denials → noted xs name ≡ noted ys name
    → noted_by (if t then Some b else actor_named xs name) ≡ noted_by (if t then Some a else actor_named ys name)
first_noted a b xs ys name true d h = d
first_noted a b xs ys name false d h = h

put_noted : (y a b : ActorState) (ys : List ActorState) (name : List ℕ) (t : Bool) → b.name ≡ a.name → b.denials ≡ a.denials → noted (put_actor ys b) name ≡ noted (put_actor ys a) name
    → noted (if t then b ∷ ys else y ∷ put_actor ys b) name ≡ noted (if t then a ∷ ys else y ∷ put_actor ys a) name
put_noted y a b ys name true n d h = ap (λ (m : List ℕ). noted_by (if same m name then Some b else actor_named ys name)) n ∙ first_noted a b ys ys name (same a.name name) d refl
put_noted y a b ys name false n d h = first_noted y y (put_actor ys b) (put_actor ys a) name (same y.name name) refl h

pub same_noted : (ys : List ActorState) (a b : ActorState) (name : List ℕ) → b.name ≡ a.name → b.denials ≡ a.denials → noted_by (actor_named (put_actor ys b) name) ≡ noted_by (actor_named (put_actor ys a) name)
same_noted [] a b name n d = ap (λ (m : List ℕ). noted_by (if same m name then Some b else None)) n ∙ first_noted a b [] [] name (same a.name name) d refl
same_noted (y ∷ ys) a b name n d =
    ap (λ (m : List ℕ). noted (if same y.name m then b ∷ ys else y ∷ put_actor ys b) name) n
    ∙ put_noted y a b ys name (same y.name a.name) n d (same_noted ys a b name n d)

-- where another is put, it is found as it was
put_other : (y b : ActorState) (ys : List ActorState) (name : List ℕ) (t : Bool) → same y.name b.name ≡ t → same b.name name ≡ false → actor_named (put_actor ys b) name ≡ actor_named ys name
    → actor_named (if t then b ∷ ys else y ∷ put_actor ys b) name ≡ (if same y.name name then Some y else actor_named ys name)
put_other y b ys name true is apart h =
    ap (λ u. if u then Some b else actor_named ys name) apart
    ∙ sym (ap (λ u. if u then Some y else actor_named ys name) (ap (λ n. same n name) (same_equal y.name b.name is) ∙ apart))
put_other y b ys name false is apart h = ap (λ o. if same y.name name then Some y else o) h

pub named_put_other : (ys : List ActorState) (b : ActorState) (name : List ℕ) → same b.name name ≡ false → actor_named (put_actor ys b) name ≡ actor_named ys name
named_put_other [] b name apart = ap (λ u. if u then Some b else None) apart
named_put_other (y ∷ ys) b name apart = put_other y b ys name _ refl apart (named_put_other ys b name apart)

-- ---- an actor that has begun stands behind the others

-- whoever is found is found still
pub named_begun : (ys : List ActorState) (o : Option ActorState) (name : List ℕ) (a : ActorState) → actor_named ys name ≡ Some a → actor_named (with_begun ys o) name ≡ Some a
named_begun ys None name a e = e
named_begun [] (Some c) name a e = absurd cc
named_begun (y ∷ ys) (Some c) name a e = by_name (same y.name name) (named_begun ys (Some c) name a) e
  where
    by_name : (t : Bool) → (actor_named ys name ≡ Some a → actor_named (ys ++ c ∷ []) name ≡ Some a) → (if t then Some y else actor_named ys name) ≡ Some a → (if t then Some y else actor_named (ys ++ c ∷ []) name) ≡ Some a
    by_name true others h = h
    by_name false others h = others h

-- one without denials adds none
pub begun_noted : (ys : List ActorState) (o : Option ActorState) (name : List ℕ) → IfSome o (λ c. c.denials ≡ []) → noted_by (actor_named (with_begun ys o) name) ≡ noted_by (actor_named ys name)
begun_noted ys None name h = refl
begun_noted [] (Some c) name h = by_name (same c.name name)
  where
    by_name : (t : Bool) → noted_by (if t then Some c else None) ≡ []
    by_name true = h
    by_name false = refl
begun_noted (y ∷ ys) (Some c) name h = by_name (same y.name name) (begun_noted ys (Some c) name h)
  where
    by_name : (t : Bool) → noted_by (actor_named (ys ++ c ∷ []) name) ≡ noted_by (actor_named ys name) → noted_by (if t then Some y else actor_named (ys ++ c ∷ []) name) ≡ noted_by (if t then Some y else actor_named ys name)
    by_name true others = refl
    by_name false others = others
