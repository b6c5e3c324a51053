-- In every run a recycled gate is entered exactly while one run of it lives, and what it keeps has the copies alone that its sheet grants.
use Rattle.std.proofs.Common.{◌≡◌, ℕ, zero, suc, ◌+◌, Bool, true, false, true≢false, List, [], ◌∷◌, ◌++◌, refl, sym, ap, subst, ◌∙◌, inl, inr}
use Rattle.std.specs.List.{list_any}
use Rattle.std.specs.Prelude.{Option, Some, None, map, not, ◌==◌, ◌&&◌, ◌||◌, length, is_none, if◌then◌else◌}
use Rattle.std.specs.FinMap.Entries.{by_order}
use Rattle.std.specs.Ordering.{nat_cmp}
use Rattle.std.specs.declared.cmp.Ordering.{Ordering}
use Rattle.std.specs.declared.cmp.Ordering.TheVariants.{Less, Equal, Greater}
use Rattle.cow_pages.specs.PrivateMemory.{PrivateMemory}
use Rattle.wedge_base.specs.Identities.{same_gate}
use Rattle.wedge_base.specs.Images.{Image}
use Rattle.wedge_base.specs.Maps.{Map, has, with, map_union}
use Rattle.wedge_base.specs.Names.{same}
use Rattle.wedge_base.specs.Sheets.{Sheet, Made, Draft, is_copy, is_lendable, lent_to, tag_granted}
use Rattle.wedge_base.specs.declared.grants.GateId.{GateId}
use Rattle.wedge_base.specs.declared.grants.GateKind.TheVariants as gate_kind
use Rattle.wedge_base.specs.declared.rights.Grant.{Grant}
use Rattle.wedge_base.specs.declared.rights.Right.{Right}
use Rattle.wedge_events.specs.Gates.{Kept}
use Rattle.wedge_events.specs.declared.cells.DirectoryAsk.TheVariants as directory_ask
use Rattle.wedge_events.specs.declared.cells.GateAsk.TheVariants as gate_ask
use Rattle.wedge_events.specs.declared.cells.GateReply.TheVariants as gate_reply
use Rattle.wedge_events.specs.declared.cells.LivesAsk.TheVariants as lives_ask
use Rattle.wedge_events.specs.declared.events.Event.{Event}
use Rattle.wedge_events.specs.declared.events.Event.TheVariants as event
use Rattle.wedge_events.specs.declared.events.SlotWant.TheVariants as slot_want
use Rattle.wedge_events.specs.declared.events.Want.{Want}
use Rattle.wedge_events.specs.declared.events.Want.TheVariants as want
use Rattle.callgate.specs.Gate.{gate_named}
use Rattle.callgate.specs.Lending.{IsRunSheet}
use Rattle.callgate.specs.declared.gate.Gate.{Gate}
use Rattle.machine.specs.Actors.{ActorState, root}
use Rattle.machine.specs.Calls.{a0}
use Rattle.machine.specs.Cells.{Cells, kept_in, cells_after}
use Rattle.machine.specs.Children.{child_name, without_child}
use Rattle.run_laws.specs.CopiesGranted.{AreGranted, AreOwnCopiesGranted, grants_copy}
use Rattle.run_laws.specs.Ends.{is_end_event}
use Rattle.machine.specs.Entering.{sheet_lent, may_lend}
use Rattle.machine.specs.Local.{has_ended, is_running, step, run_local, rest}
use Rattle.run_laws.specs.RecycledGates.{IsInside, IsEntered, IsKeptFor, IsRunOf, AreRunsAlone}
use Rattle.machine.specs.Take.{next_start, takes, actor_begun, child_of, run_by}
use Rattle.machine.specs.Worlds.{WorldState, initial_state, actor_named, put_actor, with_begun, ready, resumed, with_actor}
use Rattle.run_laws.proofs.Between.{event_for, joined_is, entered_is, takes_name}
use Rattle.run_laws.proofs.CellChanging.{gate_changes}
use Rattle.run_laws.proofs.EnteringGates.{run_is}
use Rattle.run_laws.proofs.Families.{IsOfOne, takes_same, takes_sheet}
use Rattle.run_laws.specs.FamilyTrees.{Family}
use Rattle.run_laws.proofs.FamilyKept.{next_is_new}
use Rattle.run_laws.proofs.FamilyRuns.{kept_at_rest, lives, one_begins, request_of_one, resumed_family}
use Rattle.run_laws.proofs.GateMoments.{event_makes_gates}
use Rattle.run_laws.proofs.GateRuns.{held_is, IsEntry, fresh_entry, recycled_entry}
use Rattle.run_laws.proofs.Happening.{AtRecycledEnter, AtRecycledLeave, memory_for, Happens, Requested, Joined, Snaps, GateSnaps, Started, Opens, Releases, Numbers, OpensFile, LastJoined, Ended, EntersGate, LeavesGate, EntersRecycled, LeavesRecycled}
use Rattle.run_laws.proofs.KnownGates.{same_id, itself, named_still, Grows, Keeps, Adds, step_grows, by_phase}
use Rattle.run_laws.proofs.Mediating.{reached}
use Rattle.run_laws.proofs.Meeting.{IsRequest}
use Rattle.run_laws.proofs.Named.{same_self, same_equal, found_name, named_begun, put_put}
use Rattle.machine.proofs.Resting.{rests, rest-name, rest-ended, rest-stays, stays, goes_on}
use Rattle.run_laws.proofs.Settling.{AllReady, turn_happens, turned_there}
use Rattle.run_laws.proofs.Trees.{IsPut, IsDoer, IsOther, child_apart, find_put, found_put, found_else, found_behind, found_or_last}
use Rattle.run_laws.proofs.Turns.{Turned, ready_is, ready_name, ready_ended}

-- ---- what is lent gives no grant of a copy

abbrev NoCopies : Map Grant → Type 0
NoCopies [] = Unit {0}
NoCopies (e ∷ es) = (is_copy e.1.right ≡ false) × NoCopies es

skips : (t u v : Bool) → t ≡ false → ((t && u) || v) ≡ true → v ≡ true
skips true u v none e = absurd cc
skips false u v none e = e

either : (t u v : Bool) → (u ≡ true → v ≡ true) → (t || u) ≡ true → (t || v) ≡ true
either true u v later e = refl
either false u v later e = later e

later_so : (t u : Bool) → u ≡ true → (t || u) ≡ true
later_so true u e = refl
later_so false u e = e

with_back : (gs : Map Grant) (k : ℕ) (v : Grant) (slot : ℕ) → is_copy v.right ≡ false → grants_copy (with gs k v) slot ≡ true → grants_copy gs slot ≡ true
with_back [] k v slot none e = skips (is_copy v.right) (v.slot == slot) false none e
with_back (x ∷ xs) k v slot none e = in_order (nat_cmp k x.0) e (with_back xs k v slot none)
  where
    in_order : (o : Ordering) → grants_copy (by_order o ((k, v) ∷ x ∷ xs) ((x.0, v) ∷ xs) (x ∷ with xs k v)) slot ≡ true → (grants_copy (with xs k v) slot ≡ true → grants_copy xs slot ≡ true) → grants_copy (x ∷ xs) slot ≡ true
    in_order Less h others = skips (is_copy v.right) (v.slot == slot) _ none h
    in_order Equal h others = later_so (is_copy x.1.right && (x.1.slot == slot)) (grants_copy xs slot) (skips (is_copy v.right) (v.slot == slot) _ none h)
    in_order Greater h others = either (is_copy x.1.right && (x.1.slot == slot)) (grants_copy (with xs k v) slot) (grants_copy xs slot) others h

joined_back : (gs es : Map Grant) (slot : ℕ) → NoCopies es → grants_copy (map_union gs es) slot ≡ true → grants_copy gs slot ≡ true
joined_back gs [] slot none e = e
joined_back gs (x ∷ xs) slot none e = by_key (has gs x.0) (joined_back (if has gs x.0 then gs else with gs x.0 x.1) xs slot none.1 e)
  where
    by_key : (t : Bool) → grants_copy (if t then gs else with gs x.0 x.1) slot ≡ true → grants_copy gs slot ≡ true
    by_key true h = h
    by_key false h = with_back gs x.0 x.1 slot none.0 h

no_copies : (s : Sheet) (m : Made) (ts : Map Right) → list_any (λ e. is_copy e.1) ts ≡ false → NoCopies (map (tag_granted s m) ts)
no_copies s m [] e = tt
no_copies s m (t ∷ ts) e = by_right (is_copy t.1) (list_any (λ x. is_copy x.1) ts) refl e (no_copies s m ts)
  where
    by_right : (u v : Bool) → is_copy t.1 ≡ u → (u || v) ≡ false → (v ≡ false → NoCopies (map (tag_granted s m) ts)) → (is_copy t.1 ≡ false) × NoCopies (map (tag_granted s m) ts)
    by_right true v is h others = absurd cc
    by_right false v is h others = (is, others h)

pub lent_back : (g : Sheet) (b : ActorState) (lent : Option Draft) (slot : ℕ) → may_lend lent ≡ true → grants_copy (lent_to g (sheet_lent b lent)).tags slot ≡ true → grants_copy g.tags slot ≡ true
lent_back g b None slot may e = e
lent_back g b (Some d) slot may e = joined_back g.tags (map (tag_granted b.sheet b.made) d.tags) slot (no_copies b.sheet b.made d.tags (by_any (list_any (λ x. is_copy x.1) d.tags) refl)) e
  where
    by_any : (t : Bool) → list_any (λ x. is_copy x.1) d.tags ≡ t → t ≡ false
    by_any false is = refl
    by_any true is =
        let none : is_lendable d ≡ false = ap (λ u. not u && (length d.gates == 0) && is_none d.user && is_none d.root) is in
        absurd (true≢false (sym may ∙ none))

-- ---- the run of a gate as it begins

pub named_id : (gs : List Gate) (id : GateId) (g : Gate) → gate_named gs id ≡ Some g → g.id ≡ id
named_id [] id g e = absurd cc
named_id (x ∷ xs) id g e = by_id (same_gate x.id id) refl e (named_id xs id g)
  where
    by_id : (t : Bool) → same_gate x.id id ≡ t → (if t then Some x else gate_named xs id) ≡ Some g → (gate_named xs id ≡ Some g → g.id ≡ id) → g.id ≡ id
    by_id true is k others = let one : x ≡ g = cc in subst (λ (y : Gate). y.id ≡ id) one (same_id x.id id is)
    by_id false is k others = others k

-- whoever enters a gate knows it under its identity
pub entered_known : (w : WorldState) (b : ActorState) (e : Event) (y : IsEntry w b e) → gate_named b.gates y.entrance.gate.id ≡ Some y.entrance.gate
entered_known w b e y =
    let h = held_is b (a0 b) y.entrance.gate y.may.held in
    ap (gate_named b.gates) (named_id b.gates h.id y.entrance.gate h.known) ∙ h.known

entry_runs : (w : WorldState) (b : ActorState) (e : Event) (y : IsEntry w b e) → IsRunOf y.entrance.gate (run_by b (child_name b.name (next_start b)) y.kept y.entrance)
entry_runs w b e y = record {
  known = entered_known w b e y;
  lent = sheet_lent b y.may.lent;
  sheet = subst (IsRunSheet y.entrance.gate.sheet (sheet_lent b y.may.lent)) (sym y.may.sheet) (run_is y.entrance.gate.sheet (sheet_lent b y.may.lent));
  copies = λ slot there. lent_back y.entrance.gate.sheet b y.may.lent slot y.may.lendable (ap (λ (s : Sheet). grants_copy s.tags slot) (sym y.may.sheet) ∙ there);
}

-- ---- an actor goes on: it is in a gate afterwards if it was before

pub record Follows (a b : ActorState) : Type 0 where
  pub more : (id : GateId) (g : Gate) → gate_named a.gates id ≡ Some g → gate_named b.gates id ≡ Some g
  pub sheet : b.sheet ≡ a.sheet
  pub run_of : b.run_of ≡ a.run_of

-- and so it is where it has not ended by it
pub record FollowsInside (a b : ActorState) : Type 0 where
  pub follows : Follows a b
  pub into : (id : GateId) → IsInside id a → IsInside id b
  pub back : (id : GateId) → IsInside id b → IsInside id a

inside_so : (a b : ActorState) → b.run_of ≡ a.run_of → has_ended b.phase ≡ has_ended a.phase → (id : GateId) → IsInside id a → IsInside id b
inside_so a b run_of ended id h = record { gate = h.gate; own = run_of ∙ h.own; recycled = h.recycled; named = h.named; live = ended ∙ h.live }

pub follows_live : (a b : ActorState) → Follows a b → has_ended b.phase ≡ has_ended a.phase → FollowsInside a b
follows_live a b f ended = record { follows = f; into = inside_so a b f.run_of ended; back = inside_so b a (sym f.run_of) (sym ended) }

still_run : (a b : ActorState) (g : Gate) → Follows a b → IsRunOf g a → IsRunOf g b
still_run a b g f old = record {
  known = f.more g.id g old.known;
  lent = old.lent;
  sheet = subst (IsRunSheet g.sheet old.lent) (sym f.sheet) old.sheet;
  copies = λ slot there. old.copies slot (ap (λ (s : Sheet). grants_copy s.tags slot) (sym f.sheet) ∙ there);
}

module _ (actors : List ActorState) (a b : ActorState) (put : IsPut actors a b) (f : Follows a b) where
  kept_still : (id : GateId) (m : PrivateMemory) → IsKeptFor actors id m → IsKeptFor (put_actor actors b) id m
  kept_still id m k = by_name (same a.name k.name) refl
    where
      by_name : (t : Bool) → same a.name k.name ≡ t → IsKeptFor (put_actor actors b) id m
      by_name true e =
          let two : Some k.actor ≡ Some a = sym k.there ∙ (ap (actor_named actors) (sym (same_equal a.name k.name e)) ∙ put.there) in
          let one : k.actor ≡ a = cc in
          record {
            name = a.name;
            actor = b;
            there = found_put actors a b put;
            gate = k.gate;
            known = f.more id k.gate (ap (λ (x : ActorState). gate_named x.gates id) (sym one) ∙ k.known);
            granted = k.granted;
          }
      by_name false e = record { name = k.name; actor = k.actor; there = found_else actors a b k.name put e ∙ k.there; gate = k.gate; known = k.known; granted = k.granted }

  runs_still : (c : Cells) → AreRunsAlone c actors → (m : List ℕ) (y : ActorState) (g : Gate) → actor_named (put_actor actors b) m ≡ Some y → y.run_of ≡ Some g → IsRunOf g y
  runs_still c h m y g found own = elim (find_put actors a b m y put found) [
    | IsDoer is one ↦ subst (IsRunOf g) (sym one) (still_run a b g f (h.runs a.name a g put.there (sym f.run_of ∙ (ap (λ (x : ActorState). x.run_of) (sym one) ∙ own))))
    | IsOther apart there ↦ h.runs m y g there own
  ]

module _ (actors : List ActorState) (a b : ActorState) (put : IsPut actors a b) (f : FollowsInside a b) where
  -- an actor that is in a gate then was there before
  was_inside : (m : List ℕ) (y : ActorState) (id : GateId) → actor_named (put_actor actors b) m ≡ Some y → IsInside id y → (z : ActorState) × (actor_named actors m ≡ Some z) × IsInside id z
  was_inside m y id found inside = elim (find_put actors a b m y put found) [
    | IsDoer is one ↦ (a, ap (actor_named actors) is ∙ put.there, f.back id (subst (IsInside id) one inside))
    | IsOther apart there ↦ (y, there, inside)
  ]

  entered_still : (id : GateId) → IsEntered actors id → IsEntered (put_actor actors b) id
  entered_still id x = by_name (same a.name x.name) refl
    where
      by_name : (t : Bool) → same a.name x.name ≡ t → IsEntered (put_actor actors b) id
      by_name true e =
          let two : Some x.actor ≡ Some a = sym x.there ∙ (ap (actor_named actors) (sym (same_equal a.name x.name e)) ∙ put.there) in
          let one : x.actor ≡ a = cc in
          record { name = a.name; actor = b; there = found_put actors a b put; inside = f.into id (subst (IsInside id) one x.inside) }
      by_name false e = record { name = x.name; actor = x.actor; there = found_else actors a b x.name put e ∙ x.there; inside = x.inside }

  pub goes_alone : (c : Cells) → AreRunsAlone c actors → AreRunsAlone c (put_actor actors b)
  goes_alone c h = record {
    runs = runs_still actors a b put f.follows c h;
    entered = λ m y id found inside. let x = was_inside m y id found inside in h.entered m x.0 id x.1 x.2;
    alone = λ m n x y id p q i j. let s = was_inside m x id p i in let t = was_inside n y id q j in h.alone m n s.0 t.0 id s.1 t.1 s.2 t.2;
    lived = λ id e. entered_still id (h.lived id e);
    kept = λ id m e. kept_still actors a b put f.follows id m (h.kept id m e);
  }

-- ---- the cells go on, where no gate is concerned
cells_alone : (c d : Cells) (actors : List ActorState) → ((id : GateId) → kept_in d id ≡ kept_in c id) → AreRunsAlone c actors → AreRunsAlone d actors
cells_alone c d actors same_kept h = record {
  runs = h.runs;
  entered = λ m y id p i. ap (λ (k : Kept). k.entered) (same_kept id) ∙ h.entered m y id p i;
  alone = h.alone;
  lived = λ id e. h.lived id (ap (λ (k : Kept). k.entered) (sym (same_kept id)) ∙ e);
  kept = λ id m e. h.kept id m (ap (λ (k : Kept). k.kept) (sym (same_kept id)) ∙ e);
}

-- ---- an actor begins

-- one that is in no gate
pub record IsOutside (r : ActorState) : Type 0 where
  pub none : (id : GateId) → IsInside id r → ⊥
  pub runs : (g : Gate) → r.run_of ≡ Some g → IsRunOf g r

behind_kept : (actors : List ActorState) (r : ActorState) (id : GateId) (m : PrivateMemory) → IsKeptFor actors id m → IsKeptFor (actors ++ r ∷ []) id m
behind_kept actors r id m k = record { name = k.name; actor = k.actor; there = named_begun actors (Some r) k.name k.actor k.there; gate = k.gate; known = k.known; granted = k.granted }

behind_entered : (actors : List ActorState) (r : ActorState) (id : GateId) → IsEntered actors id → IsEntered (actors ++ r ∷ []) id
behind_entered actors r id x = record { name = x.name; actor = x.actor; there = named_begun actors (Some r) x.name x.actor x.there; inside = x.inside }

begins_outside : (c : Cells) (actors : List ActorState) (r : ActorState) → AreRunsAlone c actors → IsOutside r → AreRunsAlone c (actors ++ r ∷ [])
begins_outside c actors r h out = record {
  runs = λ m y g found own. elim (found_or_last actors r m y found) [
    | inl there ↦ h.runs m y g there own
    | inr is ↦ subst (IsRunOf g) (sym is) (out.runs g (ap (λ (x : ActorState). x.run_of) (sym is) ∙ own))
  ];
  entered = λ m y id found i. h.entered m y id (was m y id found i) i;
  alone = λ m n x y id p q i j. h.alone m n x y id (was m x id p i) (was n y id q j) i j;
  lived = λ id e. behind_entered actors r id (h.lived id e);
  kept = λ id m e. behind_kept actors r id m (h.kept id m e);
}
  where
    was : (m : List ℕ) (y : ActorState) (id : GateId) → actor_named (actors ++ r ∷ []) m ≡ Some y → IsInside id y → actor_named actors m ≡ Some y
    was m y id found i = elim (found_or_last actors r m y found) [
      | inl there ↦ there
      | inr is ↦ absurd (out.none id (subst (IsInside id) is i))
    ]

-- the run of a recycled gate, which was free
record Enters (c d : Cells) (actors : List ActorState) (r : ActorState) (g : Gate) : Type 0 where
  new : actor_named actors r.name ≡ None
  free : (kept_in c g.id).entered ≡ false
  after : (id : GateId) → kept_in d id ≡ (if same_gate g.id id then record { entered = true; kept = None } else kept_in c id)
  own : r.run_of ≡ Some g
  recycled : g.kind ≡ gate_kind.Recycled
  live : has_ended r.phase ≡ false
  run : IsRunOf g r

begins_inside : (c d : Cells) (actors : List ActorState) (r : ActorState) (g : Gate) → AreRunsAlone c actors → Enters c d actors r g → AreRunsAlone d (actors ++ r ∷ [])
begins_inside c d actors r g h x = record {
  runs = λ m y k found own. elim (found_or_last actors r m y found) [
    | inl there ↦ h.runs m y k there own
    | inr is ↦ subst (IsRunOf k) (sym is) (own_run k (ap (λ (z : ActorState). z.run_of) (sym is) ∙ own))
  ];
  entered = λ m y id found i. ap (λ (k : Kept). k.entered) (x.after id) ∙ elim (found_or_last actors r m y found) [
    | inl there ↦ either_way (same_gate g.id id) (kept_in c id) (h.entered m y id there i)
    | inr is ↦ ap (λ t. (if t then record { entered = true; kept = None } else kept_in c id).entered) (is_its id (subst (IsInside id) is i))
  ];
  alone = λ m n y z id p q i j. elim (found_or_last actors r m y p) [
    | inl first ↦ elim (found_or_last actors r n z q) [
      | inl second ↦ h.alone m n y z id first second i j
      | inr is ↦ absurd (not_yet m y id first i (subst (IsInside id) is j))
    ]
    | inr is ↦ elim (found_or_last actors r n z q) [
      | inl second ↦ absurd (not_yet n z id second j (subst (IsInside id) is i))
      | inr also ↦ sym (found_name (actors ++ r ∷ []) m y p) ∙ (ap (λ (v : ActorState). v.name) is ∙ (ap (λ (v : ActorState). v.name) (sym also) ∙ found_name (actors ++ r ∷ []) n z q))
    ]
  ];
  lived = λ id e. lives_so id (same_gate g.id id) refl (ap (λ (k : Kept). k.entered) (sym (x.after id)) ∙ e);
  kept = λ id m e. keeps_so id m (same_gate g.id id) (ap (λ (k : Kept). k.kept) (sym (x.after id)) ∙ e);
}
  where
    own_run : (k : Gate) → r.run_of ≡ Some k → IsRunOf k r
    own_run k e = let two : Some g ≡ Some k = sym x.own ∙ e in let one : g ≡ k = cc in subst (λ y. IsRunOf y r) one x.run

    its : (id : GateId) → IsInside id r → g.id ≡ id
    its id i = let two : Some i.gate ≡ Some g = sym i.own ∙ x.own in let one : i.gate ≡ g = cc in ap (λ (y : Gate). y.id) (sym one) ∙ i.named

    is_its : (id : GateId) → IsInside id r → same_gate g.id id ≡ true
    is_its id i = subst (λ y. same_gate g.id y ≡ true) (its id i) (itself g.id)

    not_yet : (m : List ℕ) (y : ActorState) (id : GateId) → actor_named actors m ≡ Some y → IsInside id y → IsInside id r → ⊥
    not_yet m y id there i j = true≢false (sym (h.entered m y id there i) ∙ (ap (λ z. (kept_in c z).entered) (sym (its id j)) ∙ x.free))

    either_way : (t : Bool) (k : Kept) → k.entered ≡ true → (if t then record { entered = true; kept = None } else k).entered ≡ true
    either_way true k e = refl
    either_way false k e = e

    lives_so : (id : GateId) (t : Bool) → same_gate g.id id ≡ t → (if t then record { entered = true; kept = None } else kept_in c id).entered ≡ true → IsEntered (actors ++ r ∷ []) id
    lives_so id true is e = record {
      name = r.name;
      actor = r;
      there = found_behind actors r r.name x.new (same_self r.name);
      inside = record { gate = g; own = x.own; recycled = x.recycled; named = same_id g.id id is; live = x.live };
    }
    lives_so id false is e = behind_entered actors r id (h.lived id e)

    keeps_so : (id : GateId) (m : PrivateMemory) (t : Bool) → (if t then record { entered = true; kept = None } else kept_in c id).kept ≡ Some m → IsKeptFor (actors ++ r ∷ []) id m
    keeps_so id m true e = absurd cc
    keeps_so id m false e = behind_kept actors r id m (h.kept id m e)

-- ---- a run leaves its recycled gate, which keeps its memory
record Leaves (c d : Cells) (actors : List ActorState) (b x : ActorState) (g : Gate) (m : PrivateMemory) : Type 0 where
  put : IsPut actors b x
  follows : Follows b x
  own : b.run_of ≡ Some g
  recycled : g.kind ≡ gate_kind.Recycled
  live : has_ended b.phase ≡ false
  ended : has_ended x.phase ≡ true
  after : (id : GateId) → kept_in d id ≡ (if same_gate g.id id then record { entered = false; kept = Some m } else kept_in c id)
  granted : AreGranted g.sheet.tags m.copies

leaves_alone : (c d : Cells) (actors : List ActorState) (b x : ActorState) (g : Gate) (m : PrivateMemory) → AreRunsAlone c actors → Leaves c d actors b x g m → AreRunsAlone d (put_actor actors x)
leaves_alone c d actors b x g m h l = record {
  runs = runs_still actors b x l.put l.follows c h;
  entered = λ n y id found i.
      let there = other n y id found i in
      ap (λ (k : Kept). k.entered) (l.after id) ∙ entered_so n y id (same_gate g.id id) refl there.0 there.1 i;
  alone = λ n o y z id p q i j. h.alone n o y z id (other n y id p i).1 (other o z id q j).1 i j;
  lived = λ id e. lives_so id (same_gate g.id id) refl (ap (λ (k : Kept). k.entered) (sym (l.after id)) ∙ e);
  kept = λ id n e. keeps_so id n (same_gate g.id id) refl (ap (λ (k : Kept). k.kept) (sym (l.after id)) ∙ e);
}
  where
    within : IsInside g.id b
    within = record { gate = g; own = l.own; recycled = l.recycled; named = refl; live = l.live }

    other : (n : List ℕ) (y : ActorState) (id : GateId) → actor_named (put_actor actors x) n ≡ Some y → IsInside id y → (same b.name n ≡ false) × (actor_named actors n ≡ Some y)
    other n y id found i = elim (find_put actors b x n y l.put found) [
      | IsDoer is one ↦ absurd (true≢false (sym l.ended ∙ (ap (λ (z : ActorState). has_ended z.phase) (sym one) ∙ i.live)))
      | IsOther apart there ↦ (apart, there)
    ]

    entered_so : (n : List ℕ) (y : ActorState) (id : GateId) (t : Bool) → same_gate g.id id ≡ t → same b.name n ≡ false → actor_named actors n ≡ Some y → IsInside id y
        → (if t then record { entered = false; kept = Some m } else kept_in c id).entered ≡ true
    entered_so n y id true is apart there i =
        let one : b.name ≡ n = h.alone b.name n b y id l.put.there there (subst (λ z. IsInside z b) (same_id g.id id is) within) i in
        absurd (true≢false (sym (same_self b.name) ∙ (ap (same b.name) one ∙ apart)))
    entered_so n y id false is apart there i = h.entered n y id there i

    lives_so : (id : GateId) (t : Bool) → same_gate g.id id ≡ t → (if t then record { entered = false; kept = Some m } else kept_in c id).entered ≡ true → IsEntered (put_actor actors x) id
    lives_so id true is e = absurd cc
    lives_so id false is e = by_name (h.lived id e) (same b.name (h.lived id e).name) refl
      where
        by_name : (v : IsEntered actors id) (t : Bool) → same b.name v.name ≡ t → IsEntered (put_actor actors x) id
        by_name v true s =
            let two : Some v.actor ≡ Some b = sym v.there ∙ (ap (actor_named actors) (sym (same_equal b.name v.name s)) ∙ l.put.there) in
            let one : v.actor ≡ b = cc in
            let i = subst (IsInside id) one v.inside in
            let gates : Some i.gate ≡ Some g = sym i.own ∙ l.own in
            let gate : i.gate ≡ g = cc in
            let same_one : g.id ≡ id = ap (λ (y : Gate). y.id) (sym gate) ∙ i.named in
            absurd (true≢false (sym (subst (λ y. same_gate g.id y ≡ true) same_one (itself g.id)) ∙ is))
        by_name v false s = record { name = v.name; actor = v.actor; there = found_else actors b x v.name l.put s ∙ v.there; inside = v.inside }

    keeps_so : (id : GateId) (n : PrivateMemory) (t : Bool) → same_gate g.id id ≡ t → (if t then record { entered = false; kept = Some m } else kept_in c id).kept ≡ Some n → IsKeptFor (put_actor actors x) id n
    keeps_so id n true is e =
        let one : m ≡ n = cc in
        record {
          name = b.name;
          actor = x;
          there = found_put actors b x l.put;
          gate = g;
          known = subst (λ y. gate_named x.gates y ≡ Some g) (same_id g.id id is) (l.follows.more g.id g (h.runs b.name b g l.put.there l.own).known);
          granted = subst (λ (y : PrivateMemory). AreGranted g.sheet.tags y.copies) one l.granted;
        }
    keeps_so id n false is e = kept_still actors b x l.put l.follows id n (h.kept id n e)

-- ---- what an event is to the gates

pub data GateStep (w : WorldState) (b : ActorState) (e : Event) : Type 0 where
  Passes : ((id : GateId) → kept_in (cells_after w.cells e) id ≡ kept_in w.cells id) → is_end_event (Some e) ≡ false → ((r : ActorState) → actor_begun w.image b e ≡ Some r → IsOutside r) → GateStep w b e
  Ends : ((id : GateId) → kept_in (cells_after w.cells e) id ≡ kept_in w.cells id) → is_end_event (Some e) ≡ true → actor_begun w.image b e ≡ None → ((id : GateId) → IsInside id b → ⊥) → GateStep w b e
  EntersIt : AtRecycledEnter w b e → GateStep w b e
  LeavesIt : AtRecycledLeave b e → GateStep w b e

pub request_passes : (N : ℕ → Type 0) (c : Cells) (b : ActorState) (q : Want) → IsRequest N b q → ((id : GateId) → kept_in (cells_after c (event_for c b q)) id ≡ kept_in c id) × (is_end_event (Some (event_for c b q)) ≡ false)
request_passes N c b (want.Slots directory_ask.Claim) own = (λ id. refl, refl)
request_passes N c b (want.Slot slot (slot_want.Close tag)) own = (λ id. refl, refl)
request_passes N c b (want.Slot slot (slot_want.Smalloc tag size)) own = (λ id. refl, refl)
request_passes N c b (want.Slot slot (slot_want.Sfree offset)) own = (λ id. refl, refl)
request_passes N c b (want.Slot slot (slot_want.Load offset width)) own = (λ id. refl, refl)
request_passes N c b (want.Slot slot (slot_want.Store offset width value)) own = (λ id. refl, refl)
request_passes N c b (want.Fd fd q) own = (λ id. refl, refl)
request_passes N c b (want.Lives lives_ask.Claim) own = (λ id. refl, refl)
request_passes N c b q own = absurd own

-- an event of one actor, of no gate
passes_one : (w : WorldState) (b : ActorState) {e : Event} (f : Event) → e ≡ f → IsOfOne f → ((id : GateId) → kept_in (cells_after w.cells f) id ≡ kept_in w.cells id) → is_end_event (Some f) ≡ false → GateStep w b e
passes_one w b f is one same_kept goes =
    subst (GateStep w b) (sym is) (Passes same_kept goes (λ r begins. let none : None ≡ Some r = sym (one_begins w.image b f one) ∙ begins in absurd cc))

child_outside : (w : WorldState) (b : ActorState) (name : List ℕ) → IsOutside (child_of w.image b name)
child_outside w b name = record { none = λ id i. let e : None ≡ Some i.gate = i.own in absurd cc; runs = λ g e. absurd cc }

fresh_outside : (w : WorldState) (b : ActorState) (e : Event) (y : IsEntry w b e) → y.entrance.gate.kind ≡ gate_kind.Fresh → IsOutside (run_by b (child_name b.name (next_start b)) y.kept y.entrance)
fresh_outside w b e y fresh = record {
  none = λ id i.
      let gates : Some y.entrance.gate ≡ Some i.gate = i.own in
      let one : y.entrance.gate ≡ i.gate = cc in
      let kinds : gate_kind.Fresh ≡ gate_kind.Recycled = sym fresh ∙ (ap (λ (g : Gate). g.kind) one ∙ i.recycled) in
      absurd cc;
  runs = λ g own. let one : y.entrance.gate ≡ g = cc in subst (λ x. IsRunOf x (run_by b (child_name b.name (next_start b)) y.kept y.entrance)) one (entry_runs w b e y);
}

pub gate_step : (w : WorldState) (b : ActorState) (e : Event) → Happens w b e → GateStep w b e
unfolding fresh_entry
gate_step w b e (Requested r) = let p = request_passes _ w.cells b r.want r.own in passes_one w b (event_for w.cells b r.want) r.is (request_of_one _ w.cells b r.want r.own) p.0 p.1
gate_step w b e (Joined j) = subst (GateStep w b) (sym j.join.is) (Passes (λ id. refl) refl (λ r begins. absurd cc))
gate_step w b e (Snaps s) = passes_one w b _ s.is tt (λ id. refl) refl
gate_step w b e (GateSnaps s) = passes_one w b _ s.is tt (λ id. refl) refl
gate_step w b e (Started s) =
    subst (GateStep w b) (sym s.is) (Passes (λ id. refl) refl (λ r begins. let one : child_of w.image b (child_name b.name (next_start b)) ≡ r = cc in subst IsOutside one (child_outside w b (child_name b.name (next_start b)))))
gate_step w b e (Opens o) = passes_one w b _ o.is tt (λ id. refl) refl
gate_step w b e (Releases r) = passes_one w b _ r.is tt (λ id. refl) refl
gate_step w b e (Numbers n) = passes_one w b _ n.is tt (λ id. refl) refl
gate_step w b e (OpensFile f) = passes_one w b _ f.is tt (λ id. refl) refl
gate_step w b e (LastJoined j) = subst (GateStep w b) (sym j.join.is) (Passes (λ id. refl) refl (λ r begins. absurd cc))
gate_step w b e (Ended f) =
    subst (GateStep w b) (sym f.is) (Ends (λ id. refl) refl refl (λ id i. let none : None ≡ Some i.gate = sym f.own ∙ i.own in absurd cc))
gate_step w b e (EntersGate x) =
    let y = fresh_entry w b e x in
    Passes (λ id. ap (λ z. kept_in (cells_after w.cells z) id) x.is) (ap (λ z. is_end_event (Some z)) x.is)
    (λ r begins.
    let both : Some (run_by b (child_name b.name (next_start b)) y.kept y.entrance) ≡ Some r = sym y.begins ∙ begins in
    let one : run_by b (child_name b.name (next_start b)) y.kept y.entrance ≡ r = cc in
    subst IsOutside one (fresh_outside w b e y x.fresh))
gate_step w b e (LeavesGate l) =
    subst (GateStep w b) (sym l.is)
    (Ends (λ id. refl) refl refl
    (λ id i.
    let gates : Some l.gate ≡ Some i.gate = sym l.own ∙ i.own in
    let one : l.gate ≡ i.gate = cc in
    let kinds : gate_kind.Fresh ≡ gate_kind.Recycled = sym l.fresh ∙ (ap (λ (g : Gate). g.kind) one ∙ i.recycled) in
    absurd cc))
gate_step w b e (EntersRecycled x) = EntersIt x
gate_step w b e (LeavesRecycled l) = LeavesIt l

-- ---- turns

pub takes_run_of : (i : Image) (b : ActorState) (e : Event) → (takes i b e).run_of ≡ b.run_of
unfolding takes
takes_run_of i b (event.Start child) = refl
takes_run_of i b (event.Join k x fuel) = joined_is (λ y. y.run_of ≡ b.run_of) (record b { fuel = b.fuel + fuel; unjoined = without_child b.unjoined k }) b.phase x refl refl
takes_run_of i b (event.Slots q r) = (takes_same i b (event.Slots q r) tt).run_of
takes_run_of i b (event.Slot slot q r) = (takes_same i b (event.Slot slot q r) tt).run_of
takes_run_of i b (event.Fds q r) = (takes_same i b (event.Fds q r) tt).run_of
takes_run_of i b (event.Fd fd q r) = (takes_same i b (event.Fd fd q r) tt).run_of
takes_run_of i b (event.Lives q r) = (takes_same i b (event.Lives q r) tt).run_of
takes_run_of i b (event.Gate id (gate_ask.Enter run first) (gate_reply.Entered memory)) = entered_is (λ y. y.run_of ≡ b.run_of) b b.phase refl (λ x. refl)
takes_run_of i b (event.Gate id (gate_ask.Enter run first) gate_reply.Left) = refl
takes_run_of i b (event.Gate id (gate_ask.Leave x left) r) = refl
takes_run_of i b (event.Enter run) = entered_is (λ y. y.run_of ≡ b.run_of) b b.phase refl (λ x. refl)
takes_run_of i b (event.Leave end) = (takes_same i b (event.Leave end) tt).run_of

-- a gate that an actor knew it knows still
abbrev More : ActorState → ActorState → Type 0
More a b = (id : GateId) (g : Gate) → gate_named a.gates id ≡ Some g → gate_named b.gates id ≡ Some g

grown : (a b : ActorState) → Grows a b → More a b
grown a b (Keeps known held count) id g e = ap (λ gs. gate_named gs id) known ∙ e
grown a b (Adds x is within known held count) id g e = ap (λ gs. gate_named gs id) known ∙ named_still a.gates x id g e

run_more : (w : WorldState) (n : ℕ) (a : ActorState) (t : Bool) → is_running a.phase ≡ t → More a (run_local w.image n a)
run_more w n a false e = subst (More a) (sym (stays w.image n a e)) (λ id g k. k)
run_more w zero a true e = unfold run_local in (λ id g k. k)
run_more w (suc n) a true e =
    let b = step w.image a in
    let first = grown a b (step_grows w a e) in
    let later = run_more w n b _ refl in
    subst (More a) (sym (goes_on w.image n a e)) (λ id g k. later id g (first id g k))

rest_more : (w : WorldState) (a : ActorState) → More a (rest w.image a)
unfolding rest
rest_more w a = run_more w (a.fuel + 1) a _ refl

rest_follows : (w : WorldState) (a : ActorState) → Follows a (rest w.image a)
rest_follows w a = by_run (is_running a.phase) refl
  where
    by_run : (t : Bool) → is_running a.phase ≡ t → Follows a (rest w.image a)
    by_run true e = let r = rests w.image a e in record { more = rest_more w a; sheet = r.sheet; run_of = r.run_of }
    by_run false e = subst (Follows a) (sym (rest-stays w.image a e)) (record { more = λ id g k. k; sheet = refl; run_of = refl })

-- an actor that goes on
pub resumed_alone : (w : WorldState) (a : ActorState) → actor_named w.actors a.name ≡ Some a → AreRunsAlone w.cells w.actors → AreRunsAlone w.cells (resumed w a).actors
resumed_alone w a there h =
    let b = ready w.actors a in
    let f : Follows a b = ready_is (Follows a) w.actors a (record { more = λ id g k. k; sheet = refl; run_of = refl }) (λ k e fuel. record { more = λ id g k. k; sheet = refl; run_of = refl }) in
    goes_alone w.actors a b (record { name = ready_name w.actors a; there = there }) (follows_live a b f (ready_ended w.actors a)) w.cells h

-- and comes to rest
pub rested_alone : (w : WorldState) (a : ActorState) → actor_named w.actors a.name ≡ Some a → AreRunsAlone w.cells w.actors → AreRunsAlone w.cells (put_actor w.actors (rest w.image a))
rested_alone w a there h =
    let b = rest w.image a in
    goes_alone w.actors a b (record { name = rest-name w.image a; there = there }) (follows_live a b (rest_follows w a) (rest-ended w.image a)) w.cells h

-- the event of an actor at rest, which is new_name's starter
event_alone : (v : WorldState) (actors : List ActorState) (b : ActorState) (e : Event) → Happens v b e → IsPut actors b (takes v.image b e) → Follows b (takes v.image b e) → actor_named (put_actor actors (takes v.image b e)) (child_name b.name (next_start b)) ≡ None
    → AreOwnCopiesGranted b → AreRunsAlone v.cells actors → AreRunsAlone (cells_after v.cells e) (with_begun (put_actor actors (takes v.image b e)) (actor_begun v.image b e))
unfolding recycled_entry
event_alone v actors b e happens put f fresh own h = by_step (gate_step v b e happens)
  where
    x : ActorState
    x = takes v.image b e

    live : has_ended b.phase ≡ false
    live = lives v b e happens

    by_begun : (o : Option ActorState) → AreRunsAlone (cells_after v.cells e) (put_actor actors x) → ((r : ActorState) → o ≡ Some r → IsOutside r) → AreRunsAlone (cells_after v.cells e) (with_begun (put_actor actors x) o)
    by_begun None k out = k
    by_begun (Some r) k out = begins_outside (cells_after v.cells e) (put_actor actors x) r k (out r refl)

    by_step : GateStep v b e → AreRunsAlone (cells_after v.cells e) (with_begun (put_actor actors x) (actor_begun v.image b e))
    by_step (Passes same_kept goes out) =
        let k = goes_alone actors b x put (follows_live b x f (reached v.image b e ∙ (goes ∙ sym live))) v.cells h in
        by_begun (actor_begun v.image b e) (cells_alone v.cells (cells_after v.cells e) (put_actor actors x) same_kept k) out
    by_step (Ends same_kept ends none out) =
        let over : has_ended x.phase ≡ true = reached v.image b e ∙ ends in
        let g : FollowsInside b x = record { follows = f; into = λ id i. absurd (out id i); back = λ id i. absurd (true≢false (sym over ∙ i.live)) } in
        let k = goes_alone actors b x put g v.cells h in
        by_begun (actor_begun v.image b e) (cells_alone v.cells (cells_after v.cells e) (put_actor actors x) same_kept k) (λ r begins. let n : None ≡ Some r = sym none ∙ begins in absurd cc)
    by_step (EntersIt y) =
        let entry = recycled_entry v b e y in
        let r = run_by b (child_name b.name (next_start b)) entry.kept entry.entrance in
        let k = goes_alone actors b x put (follows_live b x f (ap (λ (z : ActorState). has_ended z.phase) entry.takes_so ∙ sym live)) v.cells h in
        let changes = gate_changes v.cells y.entrance.gate.id (gate_ask.Enter (child_name b.name (next_start b)) y.entrance.gate.memory) (gate_reply.Entered (memory_for v.cells y.entrance.gate)) in
        let enters : Enters v.cells (cells_after v.cells e) (put_actor actors x) r y.entrance.gate = record {
          new = fresh;
          free = y.free;
          after = λ id. ap (λ z. kept_in (cells_after v.cells z) id) y.is ∙ changes.gates id;
          own = refl;
          recycled = y.recycled;
          live = refl;
          run = entry_runs v b e entry;
        } in
        subst (λ o. AreRunsAlone (cells_after v.cells e) (with_begun (put_actor actors x) o)) (sym entry.begins)
        (begins_inside v.cells (cells_after v.cells e) (put_actor actors x) r y.entrance.gate k enters)
    by_step (LeavesIt l) =
        let run = h.runs b.name b l.gate put.there l.own in
        let changes = gate_changes v.cells l.gate.id (gate_ask.Leave l.end_ b.memory) gate_reply.Left in
        let leaves : Leaves v.cells (cells_after v.cells e) actors b x l.gate b.memory = record {
          put = put;
          follows = f;
          own = l.own;
          recycled = l.recycled;
          live = live;
          ended = reached v.image b e ∙ ap (λ z. is_end_event (Some z)) l.is;
          after = λ id. ap (λ z. kept_in (cells_after v.cells z) id) l.is ∙ changes.gates id;
          granted = λ slot there. run.copies slot (own slot there);
        } in
        subst (λ o. AreRunsAlone (cells_after v.cells e) (with_begun (put_actor actors x) o)) (sym (ap (actor_begun v.image b) l.is))
        (leaves_alone v.cells (cells_after v.cells e) actors b x l.gate b.memory h leaves)

-- a turn of an actor whose copies are granted at rest
pub turn_alone : (w : WorldState) (name : List ℕ) (e : Event) (new : WorldState) → AllReady w → Family w.actors → (p : Turned w name e new) → AreOwnCopiesGranted (rest w.image p.parts.actor) → AreRunsAlone w.cells w.actors
    → AreRunsAlone new.cells new.actors
turn_alone w name e new all family p own h =
    let v = resumed w p.actor in
    let a = p.parts.actor in
    let b = rest w.image a in
    let x = takes w.image b e in
    let happens = turn_happens w name e new all p in
    let there = turned_there v name a p.parts.named in
    let goes = resumed_family w name p.actor family p.named in
    let at_rest = rested_alone v a there (resumed_alone w p.actor (turned_there w name p.actor p.named) h) in
    let rested : IsPut v.actors a b = record { name = rest-name w.image a; there = there } in
    let found : actor_named (put_actor v.actors b) b.name ≡ Some b = ap (actor_named (put_actor v.actors b)) (rest-name w.image a) ∙ found_put v.actors a b rested in
    let put : IsPut (put_actor v.actors b) b x = record { name = takes_name w.image b e; there = found } in
    let follows : Follows b x = record {
      more = grown b x (by_phase (with_actor v b) b x b.phase e (event_makes_gates v b e happens));
      sheet = takes_sheet w.image b e;
      run_of = takes_run_of w.image b e;
    } in
    let kept = kept_at_rest w.image a _ refl in
    let next : child_name b.name (next_start b) ≡ child_name a.name (a.starts + 1) = ap (λ n. child_name n (next_start b)) (rest-name w.image a) ∙ ap (λ n. child_name a.name (n + 1)) kept.starts in
    let apart : same a.name (child_name b.name (next_start b)) ≡ false = ap (same a.name) next ∙ child_apart a.name (a.starts + 1) in
    let apart_too : same b.name (child_name b.name (next_start b)) ≡ false = child_apart b.name (next_start b) in
    let fresh : actor_named (put_actor (put_actor v.actors b) x) (child_name b.name (next_start b)) ≡ None =
    found_else (put_actor v.actors b) b x (child_name b.name (next_start b)) put apart_too
    ∙ (found_else v.actors a b (child_name b.name (next_start b)) rested apart ∙ (ap (actor_named v.actors) next ∙ next_is_new v.actors goes a there)) in
    let after = event_alone v (put_actor v.actors b) b e happens put follows fresh own at_rest in
    subst (λ (z : WorldState). AreRunsAlone z.cells z.actors) (sym p.parts.new_is)
    (subst (λ as_. AreRunsAlone (cells_after v.cells e) (with_begun as_ (actor_begun v.image b e))) (put_put v.actors b x (takes_name w.image b e)) after)

pub opening_alone : (i : Image) → AreRunsAlone (initial_state i).cells (initial_state i).actors
unfolding root
opening_alone i = record {
  runs = λ m a g found own. let none : None ≡ Some g = of_root m a found ∙ own in absurd cc;
  entered = λ m a id found inside. let none : None ≡ Some inside.gate = of_root m a found ∙ inside.own in absurd cc;
  alone = λ m n a b id p q j k. let none : None ≡ Some j.gate = of_root m a p ∙ j.own in absurd cc;
  lived = λ id e. absurd cc;
  kept = λ id m e. absurd cc;
}
  where
    by_name : (a : ActorState) (t : Bool) → (if t then Some (root i) else None) ≡ Some a → None ≡ a.run_of
    by_name a true e = let one : root i ≡ a = cc in ap (λ (x : ActorState). x.run_of) one
    by_name a false e = absurd cc

    of_root : (m : List ℕ) (a : ActorState) → actor_named (initial_state i).actors m ≡ Some a → None ≡ a.run_of
    of_root m a found = by_name a (same (root i).name m) found
