-- The map of actors by name: what it says of a name, and how it goes on.
use Rattle.std.proofs.Common.{◌≡◌, ℕ, zero, suc, ◌+◌, Bool, true, false, cond, List, [], ◌∷◌, ◌++◌, length, refl, sym, ap, subst, ◌∙◌, arith}
use Rattle.std.specs.Prelude.{Option, Some, None, IfSome, IfNone, slice_get, slice_set, option_map, unwrap_or}
use Rattle.std.specs.Global.{Vec}
use Rattle.std.specs.HashMap.{HashMap, UpdatesBy}
use Rattle.std.specs.Map.{lookup, IsKeyTest, AreApart, KeepsOthers}
use Rattle.std.specs.Cmp.Lexicographic.{bytes_decides, nat_list_eq_equiv}
use Rattle.std.proofs.lemmas.Bool.{cases_Bool, cond-true, cond-false}
use Rattle.std.proofs.Common.{⊎_elim}
use Rattle.wedge_base.specs.Names.{same}
use Rattle.machine.specs.Actors.{ActorState}
use Rattle.machine.specs.Worlds.{actor_named}
use Rattle.world_turns.specs.Progress.{IsFirstNamed, IsIndexOf}
use Rattle.world_turns.specs.Indices.{index_in, IsNameMap}

-- ---- the index of a name

found_first : (y : ActorState) (ys : List ActorState) (name : List ℕ) → same y.name name ≡ true → IsFirstNamed (y ∷ ys) name 0 y
found_first y ys name e = record {
  inside = omega arith;
  there = refl;
  named = rw e refl;
  put = λ new named. rw (subst (λ n. same y.name n ≡ true) (sym named) e) refl;
}

found_later : (y : ActorState) (ys : List ActorState) (name : List ℕ) (n : ℕ) (a : ActorState) → same y.name name ≡ false → IsFirstNamed ys name n a → IsFirstNamed (y ∷ ys) name (suc n) a
found_later y ys name n a e f = record {
  inside = let h = f.inside in omega (arith, h);
  there = f.there;
  named = rw e f.named;
  put = λ new named. rw (subst (λ n. same y.name n ≡ false) (sym named) e) (ap (λ zs. y ∷ zs) (f.put new named));
}

index_step : (y : ActorState) (ys : List ActorState) (name : List ℕ) (b : Bool) (o : Option ℕ) → same y.name name ≡ b → IfSome o (IsIndexOf ys name)
    → IfSome (cond b (Some 0) (option_map (λ n. n + 1) o)) (IsIndexOf (y ∷ ys) name)
index_step y ys name true o e h = (y, found_first y ys name e)
index_step y ys name false None e h = tt
index_step y ys name false (Some n) e h = let one : suc n ≡ n + 1 = omega arith in subst (IsIndexOf (y ∷ ys) name) one (h.0, found_later y ys name n h.0 e h.1)

pub index_found : (actors : List ActorState) (name : List ℕ) → IfSome (index_in actors name) (IsIndexOf actors name)
index_found [] name = tt
index_found (y ∷ ys) name = index_step y ys name (same y.name name) (index_in ys name) refl (index_found ys name)

none_step : (y : ActorState) (ys : List ActorState) (name : List ℕ) (b : Bool) (o : Option ℕ) → same y.name name ≡ b → IfNone o (actor_named ys name ≡ None)
    → IfNone (cond b (Some 0) (option_map (λ n. n + 1) o)) (actor_named (y ∷ ys) name ≡ None)
none_step y ys name true o e h = tt
none_step y ys name false (Some n) e h = tt
none_step y ys name false None e h = rw e h

pub index_none : (actors : List ActorState) (name : List ℕ) → IfNone (index_in actors name) (actor_named actors name ≡ None)
index_none [] name = refl
index_none (y ∷ ys) name = none_step y ys name (same y.name name) (index_in ys name) refl (index_none ys name)

-- ---- an actor put back with the name that it had

pub index_put_back : (actors : List ActorState) (index : ℕ) (x new : ActorState) → slice_get actors index ≡ Some x → new.name ≡ x.name
    → (name : List ℕ) → index_in (slice_set actors index new) name ≡ index_in actors name
index_put_back [] index x new there e name = refl
index_put_back (y ∷ ys) zero x new there e name =
    let is : x ≡ y = sym (ap (λ (o : Option ActorState). unwrap_or o y) there) in
    ap (λ (n : List ℕ). cond (same n name) (Some 0) (option_map (λ k. k + 1) (index_in ys name))) (e ∙ ap (λ (z : ActorState). z.name) is)
index_put_back (y ∷ ys) (suc n) x new there e name =
    ap (λ (o : Option ℕ). cond (same y.name name) (Some 0) (option_map (λ k. k + 1) o)) (index_put_back ys n x new there e name)

pub name_map_put_back : {S : Type 0} (by_name : HashMap (Vec ℕ) ℕ S) (actors : List ActorState) (index : ℕ) (x new : ActorState) → slice_get actors index ≡ Some x → new.name ≡ x.name
    → IsNameMap by_name actors → IsNameMap by_name (slice_set actors index new)
name_map_put_back by_name actors index x new there e was = λ name. was name ∙ sym (index_put_back actors index x new there e name)

-- ---- one more actor, of a name that none has

-- what stands after an actor of another name
after_other : (y a : ActorState) (ys : List ActorState) (name : List ℕ) (o : Option ℕ) (b : Bool) → same y.name a.name ≡ false → same a.name name ≡ b
    → cond (same y.name name) (Some 0) (option_map (λ n. n + 1) (cond b (Some (length ys)) o)) ≡ cond b (Some (suc (length ys))) (cond (same y.name name) (Some 0) (option_map (λ n. n + 1) o))
after_other y a ys name o false other e = refl
after_other y a ys name o true other e =
    let is : a.name ≡ name = (bytes_decides a.name name).0 e in
    let not_first : same y.name name ≡ false = subst (λ n. same y.name n ≡ false) is other in
    let one : length ys + 1 ≡ suc (length ys) = omega arith in
    ap (λ (t : Bool). cond t (Some 0) (Some (length ys + 1))) not_first ∙ ap (λ n. Some n) one

-- the first of actors among which none has a name
other_first : {A : Type 0} (y : ActorState) (ys : List ActorState) (name : List ℕ) (b : Bool) → same y.name name ≡ b → actor_named (y ∷ ys) name ≡ None
    → ((same y.name name ≡ false) → actor_named ys name ≡ None → A) → A
other_first y ys name true e none use_ = let first : actor_named (y ∷ ys) name ≡ Some y = rw e refl in absurd cc
other_first y ys name false e none use_ = let rest : actor_named (y ∷ ys) name ≡ actor_named ys name = rw e refl in use_ e (sym rest ∙ none)

pub index_push : (actors : List ActorState) (a : ActorState) (name : List ℕ) → actor_named actors a.name ≡ None
    → index_in (actors ++ a ∷ []) name ≡ cond (same a.name name) (Some (length actors)) (index_in actors name)
index_push [] a name none = refl
index_push (y ∷ ys) a name none = other_first y ys a.name (same y.name a.name) refl none (λ other rest.
    ap (λ (o : Option ℕ). cond (same y.name name) (Some 0) (option_map (λ k. k + 1) o)) (index_push ys a name rest)
    ∙ after_other y a ys name (index_in ys name) (same a.name name) other refl)

-- ---- a map from lists of numbers

other_entries : {K X : Type 0} (eq : K → K → Bool) (test : K → Bool) (old new : List (K × X)) → KeepsOthers eq test old new → (other : K → Bool) → IsKeyTest eq other → AreApart test other
    → lookup other new ≡ lookup other old
unfolding KeepsOthers
other_entries eq test old new h = h

apart : (ps qs ks : List ℕ) → same ps qs ≡ false → same ps ks ≡ true → same qs ks ≡ false
apart ps qs ks n y = nat_list_eq_equiv.symm qs ks ∙ sym (nat_list_eq_equiv.congr ps ks qs y) ∙ n

-- a value put at a key is at the lists that equal the key, and the others keep theirs
pub updates_by_items : {X S : Type 0} (m n : HashMap (Vec ℕ) X S) (key : Vec ℕ) (w : Option X) → UpdatesBy (λ x y. same x.items y.items) (λ k. same key.items k.items) m n w
    → (qs : List ℕ) → lookup (λ k. same qs k.items) n.entries ≡ cond (same key.items qs) w (lookup (λ k. same qs k.items) m.entries)
updates_by_items m n key w h qs =
    ⊎_elim
    (λ y. subst (λ (l : List ℕ). lookup (λ k. same l k.items) n.entries ≡ w) ((bytes_decides key.items qs).0 y) h.1 ∙ sym (cond-true (same key.items qs) w (lookup (λ k. same qs k.items) m.entries) y))
    (λ e. other_entries _ _ _ _ h.3 _ (λ x y. nat_list_eq_equiv.congr qs x.items y.items) (λ k. apart key.items qs k.items e)
    ∙ sym (cond-false (same key.items qs) w (lookup (λ k. same qs k.items) m.entries) e))
    (cases_Bool (same key.items qs))

pub name_map_push : {S : Type 0} (by_name new : HashMap (Vec ℕ) ℕ S) (key : Vec ℕ) (actors : List ActorState) (a : ActorState) (index : ℕ) → IsNameMap by_name actors
    → actor_named actors a.name ≡ None → key.items ≡ a.name → index ≡ length actors → UpdatesBy (λ x y. same x.items y.items) (λ k. same key.items k.items) by_name new (Some index)
    → IsNameMap new (actors ++ a ∷ [])
name_map_push by_name new key actors a index was none is at put = λ name.
    updates_by_items by_name new key (Some index) put name
    ∙ ap (λ (o : Option ℕ). cond (same key.items name) (Some index) o) (was name)
    ∙ ap (λ (ps : List ℕ). cond (same ps name) (Some index) (index_in actors name)) is
    ∙ ap (λ (n : ℕ). cond (same a.name name) (Some n) (index_in actors name)) at
    ∙ sym (index_push actors a name none)
