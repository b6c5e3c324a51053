-- The slots and the tags of every run are as they should be.
use Rattle.std.proofs.Common.{◌≡◌, ℕ, ◌+◌, ◌<◌, ◌==◌, Bool, true, false, true≢false, List, length, refl, sym, ap, subst, ◌∙◌, arith, inl, inr}
use Rattle.std.proofs.lemmas.Bool.{eqb-true, eq-eqb}
use Rattle.std.specs.Prelude.{Option, Some, None, ◌⊎◌, if◌then◌else◌}
use Rattle.wedge_events.specs.Directories.{Directory, Claim, is_claimed}
use Rattle.wedge_base.specs.Names.{same}
use Rattle.machine.specs.Actors.{ActorState}
use Rattle.machine.specs.Cells.{Cells, tag_in}
use Rattle.run_laws.specs.Occupancy.{slot_of_call, tag_of_call, HasIn, AreOccupied}
use Rattle.machine.specs.Worlds.{actor_named, put_actor, with_begun}
use Rattle.run_laws.proofs.Named.{same_self, same_equal, named_begun}
use Rattle.run_laws.proofs.Trees.{IsPut, IsDoer, IsOther, FoundPut, find_put, found_put, found_else, found_or_last}
use Rattle.tag_directory.specs.Laws.{IsClaimed}

-- ---- what a turn makes of cells and of its actor, and what the others still meet

abbrev IsAnother : List ActorState → ActorState → List ℕ → ActorState → Type 0
IsAnother actors a m y = (same a.name m ≡ false) × (actor_named actors m ≡ Some y)

-- a slot is held by the call of an actor other than this one
abbrev AnotherHolds : List ActorState → ActorState → ℕ → Type 0
AnotherHolds actors a slot = (m : List ℕ) × (y : ActorState) × IsAnother actors a m y × (slot_of_call y.phase ≡ Some slot)

pub record Turns (d : Cells) (actors : List ActorState) (a x : ActorState) : Type 0 where
  pub lived : (slot tag : ℕ) → tag_in d slot ≡ Some tag → is_claimed d.places slot ≡ true
  pub numbered : (slot tag : ℕ) → tag_in d slot ≡ Some tag → tag < d.places.number
  pub apart : (s t tag : ℕ) → tag_in d s ≡ Some tag → tag_in d t ≡ Some tag → s ≡ t
  pub called : (slot : ℕ) → slot_of_call x.phase ≡ Some slot → (is_claimed d.places slot ≡ true) × (tag_in d slot ≡ None)
  pub called_others : (m : List ℕ) (y : ActorState) (slot : ℕ) → IsAnother actors a m y → slot_of_call y.phase ≡ Some slot → (is_claimed d.places slot ≡ true) × (tag_in d slot ≡ None)
  pub alone : (m : List ℕ) (y : ActorState) (slot : ℕ) → IsAnother actors a m y → slot_of_call x.phase ≡ Some slot → slot_of_call y.phase ≡ Some slot → ⊥
  pub belongs : (slot : ℕ) → is_claimed d.places slot ≡ true → tag_in d slot ≡ None → (slot_of_call x.phase ≡ Some slot) ⊎ AnotherHolds actors a slot
  pub coming : (tag : ℕ) → tag_of_call x.phase ≡ Some tag → (tag < d.places.number) × ((slot : ℕ) → tag_in d slot ≡ Some tag → ⊥)
  pub coming_others : (m : List ℕ) (y : ActorState) (tag : ℕ) → IsAnother actors a m y → tag_of_call y.phase ≡ Some tag → (tag < d.places.number) × ((slot : ℕ) → tag_in d slot ≡ Some tag → ⊥)
  pub once : (m : List ℕ) (y : ActorState) (tag : ℕ) → IsAnother actors a m y → tag_of_call x.phase ≡ Some tag → tag_of_call y.phase ≡ Some tag → ⊥
  pub held : (tag slot : ℕ) → HasIn x tag slot → (tag < d.places.number) × ((s : ℕ) → tag_in d s ≡ Some tag → s ≡ slot) × (slot < length d.slots)
  pub held_others : (m : List ℕ) (y : ActorState) (tag slot : ℕ) → IsAnother actors a m y → HasIn y tag slot → (tag < d.places.number) × ((s : ℕ) → tag_in d s ≡ Some tag → s ≡ slot) × (slot < length d.slots)
  pub unheld : (tag slot : ℕ) → tag_of_call x.phase ≡ Some tag → HasIn x tag slot → ⊥
  pub unheld_by : (m : List ℕ) (y : ActorState) (tag slot : ℕ) → IsAnother actors a m y → tag_of_call x.phase ≡ Some tag → HasIn y tag slot → ⊥
  pub unheld_of : (m : List ℕ) (y : ActorState) (tag slot : ℕ) → IsAnother actors a m y → tag_of_call y.phase ≡ Some tag → HasIn x tag slot → ⊥

-- an actor that began: it is in no such call, and has nothing that its starter has not
pub record IsPlain (x k : ActorState) : Type 0 where
  pub calls : slot_of_call k.phase ≡ None
  pub opens : tag_of_call k.phase ≡ None
  pub holds : (tag slot : ℕ) → HasIn k tag slot → HasIn x tag slot

-- who is found then
data Found (actors : List ActorState) (a x : ActorState) (o : Option ActorState) (m : List ℕ) (y : ActorState) : Type 0 where
  TheDoer : m ≡ a.name → y ≡ x → Found actors a x o m y
  Another : IsAnother actors a m y → Found actors a x o m y
  Begun : o ≡ Some y → Found actors a x o m y

find : (actors : List ActorState) (a x : ActorState) (o : Option ActorState) (m : List ℕ) (y : ActorState) → IsPut actors a x → actor_named (with_begun (put_actor actors x) o) m ≡ Some y → Found actors a x o m y
find actors a x None m y put found = by_put (find_put actors a x m y put found)
  where
    by_put : FoundPut actors a x m y → Found actors a x None m y
    by_put (IsDoer is same_actor) = TheDoer is same_actor
    by_put (IsOther apart there) = Another (apart, there)
find actors a x (Some c) m y put found = elim (found_or_last (put_actor actors x) c m y found) [
  | inl there ↦ by_put (find_put actors a x m y put there)
  | inr is ↦ Begun (ap Some (sym is))
]
  where
    by_put : FoundPut actors a x m y → Found actors a x (Some c) m y
    by_put (IsDoer is same_actor) = TheDoer is same_actor
    by_put (IsOther apart there) = Another (apart, there)

none_some : {X : Type 0} (o : Option ℕ) (n : ℕ) → o ≡ None → o ≡ Some n → X
none_some o n e f = let g : None ≡ Some n = sym e ∙ f in absurd cc

module _ (c d : Cells) (actors : List ActorState) (a x : ActorState) (o : Option ActorState) (was : AreOccupied c actors) (put : IsPut actors a x) (t : Turns d actors a x) (plain : (k : ActorState) → o ≡ Some k → IsPlain x k) where
  abbrev Now : List ℕ → ActorState → Type 0
  Now m y = actor_named (with_begun (put_actor actors x) o) m ≡ Some y

  now_called : (m : List ℕ) (y : ActorState) (slot : ℕ) → Found actors a x o m y → slot_of_call y.phase ≡ Some slot → (is_claimed d.places slot ≡ true) × (tag_in d slot ≡ None)
  now_called m y slot (TheDoer is same_actor) e = t.called slot (subst (λ (z : ActorState). slot_of_call z.phase ≡ Some slot) same_actor e)
  now_called m y slot (Another other) e = t.called_others m y slot other e
  now_called m y slot (Begun is) e = none_some (slot_of_call y.phase) slot (plain y is).calls e

  now_alone : (m n : List ℕ) (y z : ActorState) (slot : ℕ) → Found actors a x o m y → Found actors a x o n z → slot_of_call y.phase ≡ Some slot → slot_of_call z.phase ≡ Some slot → m ≡ n
  now_alone m n y z slot (TheDoer is same_actor) (TheDoer is2 same_actor2) e f = is ∙ sym is2
  now_alone m n y z slot (TheDoer is same_actor) (Another other) e f = absurd (t.alone n z slot other (subst (λ (q : ActorState). slot_of_call q.phase ≡ Some slot) same_actor e) f)
  now_alone m n y z slot (Another other) (TheDoer is same_actor) e f = absurd (t.alone m y slot other (subst (λ (q : ActorState). slot_of_call q.phase ≡ Some slot) same_actor f) e)
  now_alone m n y z slot (Another p) (Another q) e f = was.alone m n y z slot p.1 q.1 e f
  now_alone m n y z slot (Begun is) g e f = none_some (slot_of_call y.phase) slot (plain y is).calls e
  now_alone m n y z slot g (Begun is) e f = none_some (slot_of_call z.phase) slot (plain z is).calls f

  now_belongs : (slot : ℕ) → (slot_of_call x.phase ≡ Some slot) ⊎ AnotherHolds actors a slot → (m : List ℕ) × (y : ActorState) × (actor_named (with_begun (put_actor actors x) o) m ≡ Some y) × (slot_of_call y.phase ≡ Some slot)
  now_belongs slot (inl own) = (a.name, x, named_begun (put_actor actors x) o a.name x (found_put actors a x put), own)
  now_belongs slot (inr h) = (h.0, h.1, named_begun (put_actor actors x) o h.0 h.1 (found_else actors a x h.0 put h.2.0 ∙ h.2.1), h.3)

  now_coming : (m : List ℕ) (y : ActorState) (tag : ℕ) → Found actors a x o m y → tag_of_call y.phase ≡ Some tag → (tag < d.places.number) × ((slot : ℕ) → tag_in d slot ≡ Some tag → ⊥)
  now_coming m y tag (TheDoer is same_actor) e = t.coming tag (subst (λ (z : ActorState). tag_of_call z.phase ≡ Some tag) same_actor e)
  now_coming m y tag (Another other) e = t.coming_others m y tag other e
  now_coming m y tag (Begun is) e = none_some (tag_of_call y.phase) tag (plain y is).opens e

  now_once : (m n : List ℕ) (y z : ActorState) (tag : ℕ) → Found actors a x o m y → Found actors a x o n z → tag_of_call y.phase ≡ Some tag → tag_of_call z.phase ≡ Some tag → m ≡ n
  now_once m n y z tag (TheDoer is same_actor) (TheDoer is2 same_actor2) e f = is ∙ sym is2
  now_once m n y z tag (TheDoer is same_actor) (Another other) e f = absurd (t.once n z tag other (subst (λ (q : ActorState). tag_of_call q.phase ≡ Some tag) same_actor e) f)
  now_once m n y z tag (Another other) (TheDoer is same_actor) e f = absurd (t.once m y tag other (subst (λ (q : ActorState). tag_of_call q.phase ≡ Some tag) same_actor f) e)
  now_once m n y z tag (Another p) (Another q) e f = was.once m n y z tag p.1 q.1 e f
  now_once m n y z tag (Begun is) g e f = none_some (tag_of_call y.phase) tag (plain y is).opens e
  now_once m n y z tag g (Begun is) e f = none_some (tag_of_call z.phase) tag (plain z is).opens f

  now_held : (m : List ℕ) (y : ActorState) (tag slot : ℕ) → Found actors a x o m y → HasIn y tag slot → (tag < d.places.number) × ((s : ℕ) → tag_in d s ≡ Some tag → s ≡ slot) × (slot < length d.slots)
  now_held m y tag slot (TheDoer is same_actor) e = t.held tag slot (subst (λ (z : ActorState). HasIn z tag slot) same_actor e)
  now_held m y tag slot (Another other) e = t.held_others m y tag slot other e
  now_held m y tag slot (Begun is) e = t.held tag slot ((plain y is).holds tag slot e)

  now_unheld : (m n : List ℕ) (y z : ActorState) (tag slot : ℕ) → Found actors a x o m y → Found actors a x o n z → tag_of_call y.phase ≡ Some tag → HasIn z tag slot → ⊥
  now_unheld m n y z tag slot (TheDoer is s) (TheDoer is2 s2) e f = t.unheld tag slot (subst (λ (q : ActorState). tag_of_call q.phase ≡ Some tag) s e) (subst (λ (q : ActorState). HasIn q tag slot) s2 f)
  now_unheld m n y z tag slot (TheDoer is s) (Another other) e f = t.unheld_by n z tag slot other (subst (λ (q : ActorState). tag_of_call q.phase ≡ Some tag) s e) f
  now_unheld m n y z tag slot (TheDoer is s) (Begun b) e f = t.unheld tag slot (subst (λ (q : ActorState). tag_of_call q.phase ≡ Some tag) s e) ((plain z b).holds tag slot f)
  now_unheld m n y z tag slot (Another other) (TheDoer is s) e f = t.unheld_of m y tag slot other e (subst (λ (q : ActorState). HasIn q tag slot) s f)
  now_unheld m n y z tag slot (Another p) (Another q) e f = was.unheld m n y z tag slot p.1 q.1 e f
  now_unheld m n y z tag slot (Another other) (Begun b) e f = t.unheld_of m y tag slot other e ((plain z b).holds tag slot f)
  now_unheld m n y z tag slot (Begun is) g e f = none_some (tag_of_call y.phase) tag (plain y is).opens e

  pub occupied_after : AreOccupied d (with_begun (put_actor actors x) o)
  occupied_after = record {
    lived = t.lived;
    called = λ m y slot there e. now_called m y slot (find actors a x o m y put there) e;
    alone = λ m n y z slot p q e f. now_alone m n y z slot (find actors a x o m y put p) (find actors a x o n z put q) e f;
    belongs = λ slot e f. now_belongs slot (t.belongs slot e f);
    numbered = t.numbered;
    apart = t.apart;
    coming = λ m y tag there e. now_coming m y tag (find actors a x o m y put there) e;
    once = λ m n y z tag p q e f. now_once m n y z tag (find actors a x o m y put p) (find actors a x o n z put q) e f;
    held = λ m y tag slot there e. now_held m y tag slot (find actors a x o m y put there) e;
    unheld = λ m n y z tag slot p q e f. now_unheld m n y z tag slot (find actors a x o m y put p) (find actors a x o n z put q) e f;
  }

-- ---- the kinds of turns

-- names that a test distinguishes are different
apart_names : (a : ActorState) (m : List ℕ) → same a.name m ≡ false → a.name ≡ m → ⊥
apart_names a m apart is = true≢false (sym (same_self a.name) ∙ (ap (same a.name) is ∙ apart))

tag_moves : (c d : Cells) → ((slot : ℕ) → tag_in d slot ≡ tag_in c slot) → (slot tag : ℕ) → tag_in d slot ≡ Some tag → tag_in c slot ≡ Some tag
tag_moves c d tags slot tag e = sym (tags slot) ∙ e

-- who held a slot before the turn is another, where its actor did not
still_belongs : (c : Cells) (actors : List ActorState) (a : ActorState) (slot : ℕ) → AreOccupied c actors → actor_named actors a.name ≡ Some a → is_claimed c.places slot ≡ true → tag_in c slot ≡ None → (slot_of_call a.phase ≡ Some slot → ⊥)
    → AnotherHolds actors a slot
still_belongs c actors a slot was there taken empty free =
    let h = was.belongs slot taken empty in
    by_name h.0 h.1 (same a.name h.0) refl h.2 h.3
  where
    by_name : (m : List ℕ) (y : ActorState) (t : Bool) → same a.name m ≡ t → actor_named actors m ≡ Some y → slot_of_call y.phase ≡ Some slot → AnotherHolds actors a slot
    by_name m y true is found holds =
        let both : Some a ≡ Some y = sym there ∙ (ap (actor_named actors) (same_equal a.name m is) ∙ found) in
        let same_actor : a ≡ y = cc in
        absurd (free (subst (λ (q : ActorState). slot_of_call q.phase ≡ Some slot) (sym same_actor) holds))
    by_name m y false is found holds = (m, y, (is, found), holds)

-- a call that holds one slot holds no other
apart_slots : (o : Option ℕ) (slot s : ℕ) → o ≡ Some slot → (slot == s) ≡ false → o ≡ Some s → ⊥
apart_slots o slot s is apart e =
    let both : Some slot ≡ Some s = sym is ∙ e in
    let same_slot : slot ≡ s = cc in
    true≢false (sym (eq-eqb slot s same_slot) ∙ apart)

-- the slots and their directory stay, and the actor was in no such call and is in none
pub stays_so : (c d : Cells) (actors : List ActorState) (a x : ActorState) → AreOccupied c actors → length d.slots ≡ length c.slots → actor_named actors a.name ≡ Some a → slot_of_call a.phase ≡ None → d.places ≡ c.places → ((slot : ℕ) → tag_in d slot ≡ tag_in c slot)
    → slot_of_call x.phase ≡ None → tag_of_call x.phase ≡ None → ((tag slot : ℕ) → HasIn x tag slot → HasIn a tag slot) → Turns d actors a x
stays_so c d actors a x was size there free places tags calls opens known = record {
  lived = λ slot tag e. claimed_so slot (was.lived slot tag (moved slot tag e));
  numbered = λ slot tag e. below tag (was.numbered slot tag (moved slot tag e));
  apart = λ s t tag e f. was.apart s t tag (moved s tag e) (moved t tag f);
  called = λ slot e. none_some (slot_of_call x.phase) slot calls e;
  called_others = λ m y slot other e. let h = was.called m y slot other.1 e in (claimed_so slot h.0, tags slot ∙ h.1);
  alone = λ m y slot other e f. none_some (slot_of_call x.phase) slot calls e;
  belongs = λ slot e f. inr (still_belongs c actors a slot was there (was_claimed slot e) (sym (tags slot) ∙ f) (λ g. none_some (slot_of_call a.phase) slot free g));
  coming = λ tag e. none_some (tag_of_call x.phase) tag opens e;
  coming_others = λ m y tag other e. let h = was.coming m y tag other.1 e in (below tag h.0, λ slot f. h.1 slot (moved slot tag f));
  once = λ m y tag other e f. none_some (tag_of_call x.phase) tag opens e;
  held = λ tag slot e. let h = was.held a.name a tag slot there (known tag slot e) in (below tag h.0, λ s f. h.1 s (moved s tag f), inside slot h.2);
  held_others = λ m y tag slot other e. let h = was.held m y tag slot other.1 e in (below tag h.0, λ s f. h.1 s (moved s tag f), inside slot h.2);
  unheld = λ tag slot e f. none_some (tag_of_call x.phase) tag opens e;
  unheld_by = λ m y tag slot other e f. none_some (tag_of_call x.phase) tag opens e;
  unheld_of = λ m y tag slot other e f. was.unheld m a.name y a tag slot other.1 there e (known tag slot f);
}
  where
    inside : (slot : ℕ) → slot < length c.slots → slot < length d.slots
    inside slot h = subst (λ n. slot < n) (sym size) h

    moved : (slot tag : ℕ) → tag_in d slot ≡ Some tag → tag_in c slot ≡ Some tag
    moved = tag_moves c d tags

    claimed_so : (slot : ℕ) → is_claimed c.places slot ≡ true → is_claimed d.places slot ≡ true
    claimed_so slot e = ap (λ p. is_claimed p slot) places ∙ e

    was_claimed : (slot : ℕ) → is_claimed d.places slot ≡ true → is_claimed c.places slot ≡ true
    was_claimed slot e = ap (λ p. is_claimed p slot) (sym places) ∙ e

    below : (tag : ℕ) → tag < c.places.number → tag < d.places.number
    below tag e = subst (λ p. tag < p.number) (sym places) e

-- a slot is claimed for a tag, by an actor that was in no such call
pub claims_so : (c d : Cells) (actors : List ActorState) (a x : ActorState) (k : Claim) → AreOccupied c actors → length d.slots ≡ length c.slots → actor_named actors a.name ≡ Some a → slot_of_call a.phase ≡ None → IsClaimed c.places k → k.left.number ≡ c.places.number + 1
    → d.places ≡ k.left → ((slot : ℕ) → tag_in d slot ≡ tag_in c slot) → slot_of_call x.phase ≡ Some k.place → tag_of_call x.phase ≡ Some c.places.number → ((tag slot : ℕ) → HasIn x tag slot → HasIn a tag slot) → Turns d actors a x
claims_so c d actors a x k was size there free new more places tags calls opens known = record {
  lived = λ slot tag e. claimed_so slot (was.lived slot tag (moved slot tag e));
  numbered = λ slot tag e. below tag (was.numbered slot tag (moved slot tag e));
  apart = λ s t tag e f. was.apart s t tag (moved s tag e) (moved t tag f);
  called = λ slot e. let is = the_slot slot e in (subst (λ n. is_claimed d.places n ≡ true) is (ap (λ p. is_claimed p k.place) places ∙ new.taken), subst (λ n. tag_in d n ≡ None) is (empty (tag_in c k.place) refl));
  called_others = λ m y slot other e. let h = was.called m y slot other.1 e in (claimed_so slot h.0, tags slot ∙ h.1);
  alone = λ m y slot other e f. let is = the_slot slot e in unclaimed (subst (λ n. is_claimed c.places n ≡ true) (sym is) (was.called m y slot other.1 f).0);
  belongs = belongs_so;
  coming = λ tag e. let is = the_tag tag e in (top tag is, λ slot f. over tag is (was.numbered slot tag (moved slot tag f)));
  coming_others = λ m y tag other e. let h = was.coming m y tag other.1 e in (below tag h.0, λ slot f. h.1 slot (moved slot tag f));
  once = λ m y tag other e f. over tag (the_tag tag e) (was.coming m y tag other.1 f).0;
  held = λ tag slot e. let h = was.held a.name a tag slot there (known tag slot e) in (below tag h.0, λ s f. h.1 s (moved s tag f), inside slot h.2);
  held_others = λ m y tag slot other e. let h = was.held m y tag slot other.1 e in (below tag h.0, λ s f. h.1 s (moved s tag f), inside slot h.2);
  unheld = λ tag slot e f. over tag (the_tag tag e) (was.held a.name a tag slot there (known tag slot f)).0;
  unheld_by = λ m y tag slot other e f. over tag (the_tag tag e) (was.held m y tag slot other.1 f).0;
  unheld_of = λ m y tag slot other e f. was.unheld m a.name y a tag slot other.1 there e (known tag slot f);
}
  where
    inside : (slot : ℕ) → slot < length c.slots → slot < length d.slots
    inside slot h = subst (λ n. slot < n) (sym size) h

    moved : (slot tag : ℕ) → tag_in d slot ≡ Some tag → tag_in c slot ≡ Some tag
    moved = tag_moves c d tags

    unclaimed : is_claimed c.places k.place ≡ true → ⊥
    unclaimed e = true≢false (sym e ∙ new.free)

    claimed_so : (slot : ℕ) → is_claimed c.places slot ≡ true → is_claimed d.places slot ≡ true
    claimed_so slot e = by_place (k.place == slot) refl
      where
        by_place : (t : Bool) → (k.place == slot) ≡ t → is_claimed d.places slot ≡ true
        by_place true is = absurd (unclaimed (subst (λ n. is_claimed c.places n ≡ true) (sym (eqb-true k.place slot is)) e))
        by_place false is = ap (λ p. is_claimed p slot) places ∙ (new.others slot is ∙ e)

    next : d.places.number ≡ c.places.number + 1
    next = ap (λ (p : Directory). p.number) places ∙ more

    below : (tag : ℕ) → tag < c.places.number → tag < d.places.number
    below tag e = omega (arith, e, next)

    top : (tag : ℕ) → c.places.number ≡ tag → tag < d.places.number
    top tag is = omega (arith, is, next)

    over : {X : Type 0} (tag : ℕ) → c.places.number ≡ tag → tag < c.places.number → X
    over tag is e = absurd (omega (arith, is, e))

    the_slot : (slot : ℕ) → slot_of_call x.phase ≡ Some slot → k.place ≡ slot
    the_slot slot e = let both : Some k.place ≡ Some slot = sym calls ∙ e in cc

    the_tag : (tag : ℕ) → tag_of_call x.phase ≡ Some tag → c.places.number ≡ tag
    the_tag tag e = let both : Some c.places.number ≡ Some tag = sym opens ∙ e in cc

    empty : (o : Option ℕ) → tag_in c k.place ≡ o → tag_in d k.place ≡ None
    empty None e = tags k.place ∙ e
    empty (Some tag) e = absurd (unclaimed (was.lived k.place tag e))

    belongs_so : (slot : ℕ) → is_claimed d.places slot ≡ true → tag_in d slot ≡ None → (slot_of_call x.phase ≡ Some slot) ⊎ AnotherHolds actors a slot
    belongs_so slot e f = by_place (k.place == slot) refl
      where
        by_place : (t : Bool) → (k.place == slot) ≡ t → (slot_of_call x.phase ≡ Some slot) ⊎ AnotherHolds actors a slot
        by_place true is = inl (calls ∙ ap Some (eqb-true k.place slot is))
        by_place false is =
            let taken : is_claimed c.places slot ≡ true = sym (new.others slot is) ∙ (ap (λ p. is_claimed p slot) (sym places) ∙ e) in
            inr (still_belongs c actors a slot was there taken (sym (tags slot) ∙ f) (λ g. none_some (slot_of_call a.phase) slot free g))

-- the tag of a slot that is claimed for it is opened there
pub opens_so : (c d : Cells) (actors : List ActorState) (a x : ActorState) (slot tag : ℕ) → AreOccupied c actors → length d.slots ≡ length c.slots → slot < length c.slots → actor_named actors a.name ≡ Some a → slot_of_call a.phase ≡ Some slot → tag_of_call a.phase ≡ Some tag
    → d.places ≡ c.places → ((s : ℕ) → tag_in d s ≡ (if slot == s then Some tag else tag_in c s)) → slot_of_call x.phase ≡ None → tag_of_call x.phase ≡ None
    → ((t s : ℕ) → HasIn x t s → ((t ≡ tag) × (s ≡ slot)) ⊎ HasIn a t s) → Turns d actors a x
opens_so c d actors a x slot tag was size there_is there holds opens places tags calls none known = record {
  lived = λ s t e. elim (lives s t e) [ inl is ↦ subst (λ n. is_claimed d.places n ≡ true) is.0 (claimed_so slot (was.called a.name a slot there holds).0) | inr f ↦ claimed_so s (was.lived s t f) ];
  numbered = λ s t e. elim (lives s t e) [ inl is ↦ subst (λ n. n < d.places.number) is.1 (below tag (was.coming a.name a tag there opens).0) | inr f ↦ below t (was.numbered s t f) ];
  apart = λ s u t e f. elim (lives s t e) [
    | inl is ↦ elim (lives u t f) [ inl other ↦ sym is.0 ∙ other.0 | inr g ↦ absurd (nowhere u (subst (λ n. tag_in c u ≡ Some n) (sym is.1) g)) ]
    | inr g ↦ elim (lives u t f) [ inl is ↦ absurd (nowhere s (subst (λ n. tag_in c s ≡ Some n) (sym is.1) g)) | inr h ↦ was.apart s u t g h ]
  ];
  called = λ s e. none_some (slot_of_call x.phase) s calls e;
  called_others = λ m y s other e. let h = was.called m y s other.1 e in (claimed_so s h.0, still_empty m y s other e h.1);
  alone = λ m y s other e f. none_some (slot_of_call x.phase) s calls e;
  belongs = λ s e f. inr (belongs_so s e f);
  coming = λ t e. none_some (tag_of_call x.phase) t none e;
  coming_others = λ m y t other e. let h = was.coming m y t other.1 e in (below t h.0, λ s f. elim (lives s t f) [ inl is ↦ apart_names a m other.0 (was.once a.name m a y tag there other.1 opens (subst (λ n. tag_of_call y.phase ≡ Some n) (sym is.1) e)) | inr g ↦ h.1 s g ]);
  once = λ m y t other e f. none_some (tag_of_call x.phase) t none e;
  held = λ t s e. elim (known t s e) [ inl is ↦ opened t s is | inr old ↦ kept t s old ];
  held_others = λ m y t s other e. let h = was.held m y t s other.1 e in (below t h.0, λ u f. elim (lives u t f) [ inl is ↦ absurd (was.unheld a.name m a y tag s there other.1 opens (subst (λ n. HasIn y n s) (sym is.1) e)) | inr g ↦ h.1 u g ], inside s h.2);
  unheld = λ t s e f. none_some (tag_of_call x.phase) t none e;
  unheld_by = λ m y t s other e f. none_some (tag_of_call x.phase) t none e;
  unheld_of = λ m y t s other e f. elim (known t s f) [
    | inl is ↦ apart_names a m other.0 (was.once a.name m a y tag there other.1 opens (subst (λ n. tag_of_call y.phase ≡ Some n) is.0 e))
    | inr old ↦ was.unheld m a.name y a t s other.1 there e old
  ];
}
  where
    inside : (slot : ℕ) → slot < length c.slots → slot < length d.slots
    inside slot h = subst (λ n. slot < n) (sym size) h

    claimed_so : (s : ℕ) → is_claimed c.places s ≡ true → is_claimed d.places s ≡ true
    claimed_so s e = ap (λ p. is_claimed p s) places ∙ e

    belongs_so : (s : ℕ) → is_claimed d.places s ≡ true → tag_in d s ≡ None → AnotherHolds actors a s
    belongs_so s e f = by_slot (slot == s) refl (sym (tags s) ∙ f)
      where
        by_slot : (b : Bool) → (slot == s) ≡ b → (if b then Some tag else tag_in c s) ≡ None → AnotherHolds actors a s
        by_slot true is g = absurd cc
        by_slot false is g = still_belongs c actors a s was there (ap (λ p. is_claimed p s) (sym places) ∙ e) g (apart_slots (slot_of_call a.phase) slot s holds is)

    below : (t : ℕ) → t < c.places.number → t < d.places.number
    below t e = subst (λ p. t < p.number) (sym places) e

    nowhere : (s : ℕ) → tag_in c s ≡ Some tag → ⊥
    nowhere s e = (was.coming a.name a tag there opens).1 s e

    lives : (s t : ℕ) → tag_in d s ≡ Some t → ((slot ≡ s) × (tag ≡ t)) ⊎ (tag_in c s ≡ Some t)
    lives s t e = by_slot (slot == s) refl (sym (tags s) ∙ e)
      where
        by_slot : (b : Bool) → (slot == s) ≡ b → (if b then Some tag else tag_in c s) ≡ Some t → ((slot ≡ s) × (tag ≡ t)) ⊎ (tag_in c s ≡ Some t)
        by_slot true is f = let the_tag : tag ≡ t = cc in inl (eqb-true slot s is, the_tag)
        by_slot false is f = inr f

    still_empty : (m : List ℕ) (y : ActorState) (s : ℕ) → IsAnother actors a m y → slot_of_call y.phase ≡ Some s → tag_in c s ≡ None → tag_in d s ≡ None
    still_empty m y s other e was_empty = tags s ∙ by_slot (slot == s) refl
      where
        by_slot : (b : Bool) → (slot == s) ≡ b → (if b then Some tag else tag_in c s) ≡ None
        by_slot true is = absurd (apart_names a m other.0 (was.alone a.name m a y s there other.1 (subst (λ n. slot_of_call a.phase ≡ Some n) (eqb-true slot s is) holds) e))
        by_slot false is = was_empty

    opened : (t s : ℕ) → (t ≡ tag) × (s ≡ slot) → (t < d.places.number) × ((u : ℕ) → tag_in d u ≡ Some t → u ≡ s) × (s < length d.slots)
    opened t s is = (
      subst (λ n. n < d.places.number) (sym is.0) (below tag (was.coming a.name a tag there opens).0),
      λ u f. elim (lives u t f) [ inl here ↦ sym here.0 ∙ sym is.1 | inr g ↦ absurd (nowhere u (subst (λ n. tag_in c u ≡ Some n) is.0 g)) ],
      subst (λ n. n < length d.slots) (sym is.1) (inside slot there_is),
    )

    kept : (t s : ℕ) → HasIn a t s → (t < d.places.number) × ((u : ℕ) → tag_in d u ≡ Some t → u ≡ s) × (s < length d.slots)
    kept t s old =
        let h = was.held a.name a t s there old in
        (below t h.0, λ u f. elim (lives u t f) [ inl here ↦ absurd (was.unheld a.name a.name a a tag s there there opens (subst (λ n. HasIn a n s) (sym here.1) old)) | inr g ↦ h.1 u g ], inside s h.2)

-- a tag is closed, by an actor that was in no such call, and its slot is to be released
pub closes_so : (c d : Cells) (actors : List ActorState) (a x : ActorState) (slot tag : ℕ) → AreOccupied c actors → length d.slots ≡ length c.slots → actor_named actors a.name ≡ Some a → slot_of_call a.phase ≡ None → tag_in c slot ≡ Some tag
    → d.places ≡ c.places → ((s : ℕ) → tag_in d s ≡ (if slot == s then None else tag_in c s)) → slot_of_call x.phase ≡ Some slot → tag_of_call x.phase ≡ None → ((t s : ℕ) → HasIn x t s → HasIn a t s) → Turns d actors a x
closes_so c d actors a x slot tag was size there free live places tags calls none known = record {
  lived = λ s t e. claimed_so s (was.lived s t (moved s t e));
  numbered = λ s t e. below t (was.numbered s t (moved s t e));
  apart = λ s u t e f. was.apart s u t (moved s t e) (moved u t f);
  called = λ s e. let is = the_slot s e in (subst (λ n. is_claimed d.places n ≡ true) is (claimed_so slot (was.lived slot tag live)), subst (λ n. tag_in d n ≡ None) is (tags slot ∙ by_self (slot == slot) (eq-eqb slot slot refl)));
  called_others = λ m y s other e. let h = was.called m y s other.1 e in (claimed_so s h.0, tags s ∙ still (slot == s) s h.1);
  alone = λ m y s other e f. let is = the_slot s e in none_some (tag_in c slot) tag (subst (λ n. tag_in c n ≡ None) (sym is) (was.called m y s other.1 f).1) live;
  belongs = belongs_so;
  coming = λ t e. none_some (tag_of_call x.phase) t none e;
  coming_others = λ m y t other e. let h = was.coming m y t other.1 e in (below t h.0, λ s f. h.1 s (moved s t f));
  once = λ m y t other e f. none_some (tag_of_call x.phase) t none e;
  held = λ t s e. let h = was.held a.name a t s there (known t s e) in (below t h.0, λ u f. h.1 u (moved u t f), inside s h.2);
  held_others = λ m y t s other e. let h = was.held m y t s other.1 e in (below t h.0, λ u f. h.1 u (moved u t f), inside s h.2);
  unheld = λ t s e f. none_some (tag_of_call x.phase) t none e;
  unheld_by = λ m y t s other e f. none_some (tag_of_call x.phase) t none e;
  unheld_of = λ m y t s other e f. was.unheld m a.name y a t s other.1 there e (known t s f);
}
  where
    inside : (slot : ℕ) → slot < length c.slots → slot < length d.slots
    inside slot h = subst (λ n. slot < n) (sym size) h

    claimed_so : (s : ℕ) → is_claimed c.places s ≡ true → is_claimed d.places s ≡ true
    claimed_so s e = ap (λ p. is_claimed p s) places ∙ e

    below : (t : ℕ) → t < c.places.number → t < d.places.number
    below t e = subst (λ p. t < p.number) (sym places) e

    moved : (s t : ℕ) → tag_in d s ≡ Some t → tag_in c s ≡ Some t
    moved s t e = by_slot (slot == s) (sym (tags s) ∙ e)
      where
        by_slot : (b : Bool) → (if b then None else tag_in c s) ≡ Some t → tag_in c s ≡ Some t
        by_slot true f = absurd cc
        by_slot false f = f

    the_slot : (s : ℕ) → slot_of_call x.phase ≡ Some s → slot ≡ s
    the_slot s e = let both : Some slot ≡ Some s = sym calls ∙ e in cc

    by_self : (b : Bool) → b ≡ true → (if b then None else tag_in c slot) ≡ None
    by_self true e = refl
    by_self false e = absurd cc

    still : (b : Bool) (s : ℕ) → tag_in c s ≡ None → (if b then None else tag_in c s) ≡ None
    still true s e = refl
    still false s e = e

    belongs_so : (s : ℕ) → is_claimed d.places s ≡ true → tag_in d s ≡ None → (slot_of_call x.phase ≡ Some s) ⊎ AnotherHolds actors a s
    belongs_so s e f = by_slot (slot == s) refl (sym (tags s) ∙ f)
      where
        by_slot : (b : Bool) → (slot == s) ≡ b → (if b then None else tag_in c s) ≡ None → (slot_of_call x.phase ≡ Some s) ⊎ AnotherHolds actors a s
        by_slot true is g = inl (calls ∙ ap Some (eqb-true slot s is))
        by_slot false is g = inr (still_belongs c actors a s was there (ap (λ p. is_claimed p s) (sym places) ∙ e) g (λ h. none_some (slot_of_call a.phase) s free h))

-- the slot of a tag that was closed is released
pub releases_so : (c d : Cells) (actors : List ActorState) (a x : ActorState) (slot : ℕ) → AreOccupied c actors → length d.slots ≡ length c.slots → actor_named actors a.name ≡ Some a → slot_of_call a.phase ≡ Some slot
    → d.places.number ≡ c.places.number → is_claimed d.places slot ≡ false → ((s : ℕ) → (slot == s) ≡ false → is_claimed d.places s ≡ is_claimed c.places s) → ((s : ℕ) → tag_in d s ≡ tag_in c s)
    → slot_of_call x.phase ≡ None → tag_of_call x.phase ≡ None → ((t s : ℕ) → HasIn x t s → HasIn a t s) → Turns d actors a x
releases_so c d actors a x slot was size there holds number given_up places tags calls none known = record {
  lived = λ s t e. claimed_so s (was.lived s t (moved s t e)) (λ is. none_some (tag_in c slot) t (was.called a.name a slot there holds).1 (subst (λ n. tag_in c n ≡ Some t) (sym is) (moved s t e)));
  numbered = λ s t e. below t (was.numbered s t (moved s t e));
  apart = λ s u t e f. was.apart s u t (moved s t e) (moved u t f);
  called = λ s e. none_some (slot_of_call x.phase) s calls e;
  called_others = λ m y s other e.
      let h = was.called m y s other.1 e in
      (claimed_so s h.0 (λ is. apart_names a m other.0 (was.alone a.name m a y s there other.1 (subst (λ n. slot_of_call a.phase ≡ Some n) is holds) e)), tags s ∙ h.1);
  alone = λ m y s other e f. none_some (slot_of_call x.phase) s calls e;
  belongs = λ s e f. inr (belongs_so s e f);
  coming = λ t e. none_some (tag_of_call x.phase) t none e;
  coming_others = λ m y t other e. let h = was.coming m y t other.1 e in (below t h.0, λ s f. h.1 s (moved s t f));
  once = λ m y t other e f. none_some (tag_of_call x.phase) t none e;
  held = λ t s e. let h = was.held a.name a t s there (known t s e) in (below t h.0, λ u f. h.1 u (moved u t f), inside s h.2);
  held_others = λ m y t s other e. let h = was.held m y t s other.1 e in (below t h.0, λ u f. h.1 u (moved u t f), inside s h.2);
  unheld = λ t s e f. none_some (tag_of_call x.phase) t none e;
  unheld_by = λ m y t s other e f. none_some (tag_of_call x.phase) t none e;
  unheld_of = λ m y t s other e f. was.unheld m a.name y a t s other.1 there e (known t s f);
}
  where
    inside : (slot : ℕ) → slot < length c.slots → slot < length d.slots
    inside slot h = subst (λ n. slot < n) (sym size) h

    moved : (s t : ℕ) → tag_in d s ≡ Some t → tag_in c s ≡ Some t
    moved = tag_moves c d tags

    below : (t : ℕ) → t < c.places.number → t < d.places.number
    below t e = omega (arith, e, number)

    claimed_so : (s : ℕ) → is_claimed c.places s ≡ true → (slot ≡ s → ⊥) → is_claimed d.places s ≡ true
    claimed_so s e other = by_slot (slot == s) refl
      where
        by_slot : (b : Bool) → (slot == s) ≡ b → is_claimed d.places s ≡ true
        by_slot true is = absurd (other (eqb-true slot s is))
        by_slot false is = places s is ∙ e

    belongs_so : (s : ℕ) → is_claimed d.places s ≡ true → tag_in d s ≡ None → AnotherHolds actors a s
    belongs_so s e f = by_slot (slot == s) refl
      where
        by_slot : (b : Bool) → (slot == s) ≡ b → AnotherHolds actors a s
        by_slot true is = absurd (true≢false (sym (subst (λ n. is_claimed d.places n ≡ true) (sym (eqb-true slot s is)) e) ∙ given_up))
        by_slot false is = still_belongs c actors a s was there (sym (places s is) ∙ e) (sym (tags s) ∙ f) (apart_slots (slot_of_call a.phase) slot s holds is)
