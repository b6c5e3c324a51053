-- In every run whoever holds a gate knows it, the sheet of a gate names only gates made before it, and a gate is what its maker made.
use Rattle.std.proofs.Common.{◌≡◌, ◌⊎◌, inl, inr, ℕ, zero, suc, ◌+◌, ◌≤◌, Bool, true, false, List, [], ◌∷◌, ◌++◌, refl, sym, ap, subst, ◌∙◌, arith}
use Rattle.std.proofs.lemmas.Bool.{eqb-true, eq-eqb}
use Rattle.std.specs.Prelude.{Option, Some, None, is_some, ◌==◌, ◌&&◌, if◌then◌else◌}
use Rattle.std.specs.Option.{option_or}
use Rattle.wedge_base.specs.Identities.{same_gate}
use Rattle.wedge_base.specs.Images.{Image}
use Rattle.wedge_base.specs.Maps.{at, with}
use Rattle.wedge_base.specs.Names.{same}
use Rattle.wedge_base.specs.Sheets.{Sheet, Draft, gate_at}
use Rattle.wedge_base.specs.declared.grants.GateId.{GateId}
use Rattle.wedge_base.specs.declared.rights.Denial.{Denial}
use Rattle.wedge_events.specs.declared.events.Event.{Event}
use Rattle.wedge_events.specs.declared.events.Event.TheVariants as event
use Rattle.wedge_events.specs.declared.events.Turn.{Turn}
use Rattle.callgate.specs.Gate.{gate_named}
use Rattle.callgate.specs.declared.gate.Gate.{Gate}
use Rattle.grant_sheet.specs.Granting.{IsWithin}
use Rattle.machine.specs.declared.copy_grant.CopyGrant.{CopyGrant}
use Rattle.machine.specs.declared.phase.Phase.{Phase}
use Rattle.machine.specs.declared.phase.Phase.TheVariants as phase
use Rattle.machine.specs.Actors.{ActorState, root}
use Rattle.machine.specs.Calls.{a0}
use Rattle.machine.specs.Children.{child_name}
use Rattle.machine.specs.Preparation.{Preparation}
use Rattle.run_laws.specs.GateCalls.{KeepsGates, MakesWith, PreparesGate, BeginsUnless, GatesByRequest, InstrMakesGates, SnapsForGate, EventMakesGates}
use Rattle.run_laws.specs.KnownGates.{AreAmong, IsMadeAfter, AreInOrder, KnowsItsGates, IsOfItsMaker}
use Rattle.run_laws.specs.Laws.{GatesAreKept}
use Rattle.machine.specs.Local.{is_running, step, run_local, rest}
use Rattle.run_laws.specs.Requests.{Request, Loads, Stores, Reads, Appends, Closes, Opens, Creates, Makes, Enters as EntersAt, Deletes, Allots, Frees, request_at}
use Rattle.machine.specs.Take.{next_start, takes, child_of, run_by, actor_begun}
use Rattle.machine.specs.Worlds.{WorldState, initial_state, actor_named, put_actor, with_begun, turn_of, ready, resumed, Runs, with_actor}
use Rattle.run_laws.proofs.Between.{takes_name}
use Rattle.run_laws.proofs.Bounding.{with_same, with_other}
use Rattle.run_laws.proofs.Families.{takes_sheet, child_begins, run_begins}
use Rattle.run_laws.proofs.FamilyRuns.{Acts, ActsAlone, Starts, Enters, Joins, acts, one_begins}
use Rattle.run_laws.proofs.Turns.{ready_is, ready_name, ready_sheet, turn_from}
use Rattle.run_laws.proofs.GateRuns.{held_is, IsEntry}
use Rattle.run_laws.proofs.GateMoments.{step_makes_gates, event_makes_gates}
use Rattle.run_laws.proofs.Happening.{AtStart}
use Rattle.run_laws.proofs.Named.{same_self, same_equal, put_put, named_begun}
use Rattle.machine.proofs.Resting.{steps_step, stays, goes_on, running_is, rest-name}
use Rattle.run_laws.proofs.Settling.{AllReady, turn_happens, turn_ready, opening_ready, turned_there}
use Rattle.run_laws.proofs.Trees.{IsPut, IsDoer, IsOther, find_put, found_put, found_else, found_or_last}

-- ---- gates by their identities

both : (a b : Bool) → (a && b) ≡ true → (a ≡ true) × (b ≡ true)
both true b e = (refl, e)
both false b e = absurd cc

pub same_id : (x y : GateId) → same_gate x y ≡ true → x ≡ y
same_id x y e =
    let p = both (same x.maker y.maker) (x.number == y.number) e in
    let makers : x.maker ≡ y.maker = same_equal x.maker y.maker p.0 in
    let numbers : x.number ≡ y.number = eqb-true x.number y.number p.1 in
    ap (λ m. record { maker = m; number = x.number }) makers ∙ ap (λ n. record { maker = y.maker; number = n }) numbers

pub itself : (x : GateId) → same_gate x x ≡ true
itself x = ap (λ t. t && (x.number == x.number)) (same_self x.maker) ∙ eq-eqb x.number x.number refl

some_of : {X : Type 0} (o : Option X) → is_some o ≡ true → (x : X) × (o ≡ Some x)
some_of None e = absurd cc
some_of (Some x) e = (x, refl)

-- whoever is found is found still with a gate behind the others
pub named_still : (gs : List Gate) (g : Gate) (id : GateId) (h : Gate) → gate_named gs id ≡ Some h → gate_named (gs ++ g ∷ []) id ≡ Some h
named_still [] g id h e = absurd cc
named_still (x ∷ xs) g id h e = by_id (same_gate x.id id) (named_still xs g id h) e
  where
    by_id : (t : Bool) → (gate_named xs id ≡ Some h → gate_named (xs ++ g ∷ []) id ≡ Some h) → (if t then Some x else gate_named xs id) ≡ Some h → (if t then Some x else gate_named (xs ++ g ∷ []) id) ≡ Some h
    by_id true others k = k
    by_id false others k = others k

-- the one behind the others is found where none of them has its identity
named_last : (gs : List Gate) (g : Gate) → gate_named gs g.id ≡ None → gate_named (gs ++ g ∷ []) g.id ≡ Some g
named_last [] g e = ap (λ t. if t then Some g else None) (itself g.id)
named_last (x ∷ xs) g e = by_id (same_gate x.id g.id) (named_last xs g) e
  where
    by_id : (t : Bool) → (gate_named xs g.id ≡ None → gate_named (xs ++ g ∷ []) g.id ≡ Some g) → (if t then Some x else gate_named xs g.id) ≡ None → (if t then Some x else gate_named (xs ++ g ∷ []) g.id) ≡ Some g
    by_id true others k = absurd cc
    by_id false others k = others k

pub named_or_last : (gs : List Gate) (g : Gate) (id : GateId) (h : Gate) → gate_named (gs ++ g ∷ []) id ≡ Some h → (gate_named gs id ≡ Some h) ⊎ ((h ≡ g) × (g.id ≡ id))
named_or_last [] g id h e = by_id (same_gate g.id id) refl e
  where
    by_id : (t : Bool) → same_gate g.id id ≡ t → (if t then Some g else None) ≡ Some h → (None ≡ Some h) ⊎ ((h ≡ g) × (g.id ≡ id))
    by_id true is k = inr (cc, same_id g.id id is)
    by_id false is k = absurd cc
named_or_last (x ∷ xs) g id h e = by_id (same_gate x.id id) (named_or_last xs g id h) e
  where
    by_id : (t : Bool) → (gate_named (xs ++ g ∷ []) id ≡ Some h → (gate_named xs id ≡ Some h) ⊎ ((h ≡ g) × (g.id ≡ id))) → (if t then Some x else gate_named (xs ++ g ∷ []) id) ≡ Some h
        → ((if t then Some x else gate_named xs id) ≡ Some h) ⊎ ((h ≡ g) × (g.id ≡ id))
    by_id true others k = inl k
    by_id false others k = others k

among_still : (gs : List Gate) (g : Gate) (id : GateId) → is_some (gate_named gs id) ≡ true → is_some (gate_named (gs ++ g ∷ []) id) ≡ true
among_still gs g id e = let h = some_of (gate_named gs id) e in ap is_some (named_still gs g id h.0 h.1)

-- ---- in the order in which they were made

without_more : (xs : List Gate) → xs ++ [] ≡ xs
without_more [] = refl
without_more (x ∷ xs) = ap (λ ys. x ∷ ys) (without_more xs)

one_by_one : (xs : List Gate) (y : Gate) (ys : List Gate) → (xs ++ y ∷ []) ++ ys ≡ xs ++ y ∷ ys
one_by_one [] y ys = refl
one_by_one (x ∷ xs) y ys = ap (λ zs. x ∷ zs) (one_by_one xs y ys)

order_with : (before gs : List Gate) (g : Gate) → AreInOrder before gs → IsMadeAfter (before ++ gs) g → AreInOrder before (gs ++ g ∷ [])
order_with before [] g order after = (subst (λ xs. IsMadeAfter xs g) (without_more before) after, tt)
order_with before (x ∷ xs) g order after =
    (order.0, order_with (before ++ x ∷ []) xs g order.1 (subst (λ ys. IsMadeAfter ys g) (sym (one_by_one before x xs)) after))

-- a gate of a list names none but those before it
named_more : (xs ys : List Gate) (id : GateId) → is_some (gate_named xs id) ≡ true → is_some (gate_named (xs ++ ys) id) ≡ true
named_more [] ys id e = absurd cc
named_more (x ∷ xs) ys id e = by_id (same_gate x.id id) (named_more xs ys id) e
  where
    by_id : (t : Bool) → (is_some (gate_named xs id) ≡ true → is_some (gate_named (xs ++ ys) id) ≡ true) → is_some (if t then Some x else gate_named xs id) ≡ true → is_some (if t then Some x else gate_named (xs ++ ys) id) ≡ true
    by_id true others k = refl
    by_id false others k = others k

pub order_known : (before gs : List Gate) (id : GateId) (g : Gate) → AreInOrder before gs → gate_named gs id ≡ Some g → AreAmong (before ++ gs) g.sheet.gates
order_known before [] id g order e = absurd cc
order_known before (x ∷ xs) id g order e = by_id (same_gate x.id id) e (order_known (before ++ x ∷ []) xs id g order.1)
  where
    by_id : (t : Bool) → (if t then Some x else gate_named xs id) ≡ Some g → (gate_named xs id ≡ Some g → AreAmong ((before ++ x ∷ []) ++ xs) g.sheet.gates) → AreAmong (before ++ x ∷ xs) g.sheet.gates
    by_id true k others =
        let is : x ≡ g = cc in
        subst (λ (y : Gate). AreAmong (before ++ x ∷ xs) y.sheet.gates) is (λ entry y there. named_more before (x ∷ xs) y (order.0.older entry y there))
    by_id false k others = subst (λ ys. AreAmong ys g.sheet.gates) (one_by_one before x xs) (others k)

-- ---- what a moment makes of an actor's gates: nothing, or one gate more

pub data Grows (a b : ActorState) : Type 0 where
  Keeps : b.gates ≡ a.gates → b.made.gates ≡ a.made.gates → b.made.count ≡ a.made.count → Grows a b
  Adds : (g : Gate) → g.id ≡ record { maker = a.name; number = a.made.count + 1 } → IsWithin a.sheet a.made g.sheet
      → b.gates ≡ a.gates ++ g ∷ [] → b.made.gates ≡ with a.made.gates g.entry g.id → b.made.count ≡ a.made.count + 1 → Grows a b

keeping : (a b : ActorState) → KeepsGates a b → Grows a b
keeping a b k = Keeps k.known k.held k.count

by_left : (a b : ActorState) (d : Draft) (p : Preparation) (gs : List CopyGrant) → MakesWith a d p gs b → Grows a b
by_left a b d p [] (g, of, memory, is) =
    Adds g of.id of.within (ap (λ (x : ActorState). x.gates) is) (ap (λ (x : ActorState). x.made.gates) is) (ap (λ (x : ActorState). x.made.count) is)
by_left a b d p (x ∷ xs) is = Keeps (ap (λ (y : ActorState). y.gates) is) (ap (λ (y : ActorState). y.made.gates) is) (ap (λ (y : ActorState). y.made.count) is)

preparing : (a b : ActorState) (d : Draft) {m : _} (gs : List CopyGrant) → PreparesGate a d m gs b → Grows a b
preparing a b d gs p = by_left a b d p.preparation p.preparation.left p.after

beginning : (i : Image) (a b : ActorState) (d : Draft) (o : Option Denial) → BeginsUnless i a d o b → Grows a b
beginning i a b d None h = preparing a b d _ h
beginning i a b d (Some x) h = keeping a b h

by_request : (i : Image) (a b : ActorState) (r : Option Request) → GatesByRequest i a r b → Grows a b
by_request i a b None h = keeping a b h
by_request i a b (Some (Makes d)) h = beginning i a b d _ h
by_request i a b (Some (Loads y rd s)) h = keeping a b h
by_request i a b (Some (Stores y value)) h = keeping a b h
by_request i a b (Some (Reads fd s n)) h = keeping a b h
by_request i a b (Some (Appends fd s bytes)) h = keeping a b h
by_request i a b (Some (Closes fd s)) h = keeping a b h
by_request i a b (Some (Opens path f bits)) h = keeping a b h
by_request i a b (Some (Creates d)) h = keeping a b h
by_request i a b (Some (EntersAt entry lent)) h = keeping a b h
by_request i a b (Some (Deletes tag)) h = keeping a b h
by_request i a b (Some (Allots tag size)) h = keeping a b h
by_request i a b (Some (Frees p g)) h = keeping a b h

unpaid : (a b : ActorState) (n : ℕ) → Grows (record a { fuel = n }) b → Grows a b
unpaid a b n (Keeps known held count) = Keeps known held count
unpaid a b n (Adds g id within known held count) = Adds g id within known held count

by_fuel : (w : WorldState) (a b : ActorState) (n : ℕ) → InstrMakesGates w a n b → Grows a b
by_fuel w a b zero h = keeping a b h
by_fuel w a b (suc n) h = unpaid a b n (by_request w.image (record a { fuel = n }) b (request_at w.image w.cells (record a { fuel = n })) h)

pub step_grows : (w : WorldState) (a : ActorState) → is_running a.phase ≡ true → Grows a (step w.image a)
step_grows w a e = by_fuel w a (step w.image a) a.fuel (step_makes_gates w a (running_is a.phase e))

by_snap : (w : WorldState) (a b : ActorState) (p : Preparation) (gs : List CopyGrant) (e : Event) → SnapsForGate w a p gs e b → Grows a b
by_snap w a b p [] e h = keeping a b h
by_snap w a b p (g ∷ gs) e h = preparing a b _ gs h.1

pub by_phase : (w : WorldState) (a b : ActorState) (p : Phase) (e : Event) → EventMakesGates w a p e b → Grows a b
by_phase w a b phase.Running e h = keeping a b h
by_phase w a b (phase.Within q) e h = keeping a b h
by_phase w a b (phase.Starting p) e h = keeping a b h
by_phase w a b (phase.MakingGate p) e h = by_snap w a b p p.left e h
by_phase w a b (phase.Opening slot tag) e h = keeping a b h
by_phase w a b (phase.Releasing slot) e h = keeping a b h
by_phase w a b (phase.Entering entrance) e h = keeping a b h
by_phase w a b (phase.Waiting number) e h = keeping a b h
by_phase w a b (phase.OpeningFile o) e h = keeping a b h
by_phase w a b (phase.Ending x) e h = keeping a b h
by_phase w a b (phase.Ended x) e h = keeping a b h

-- ---- the actors of a world

pub record AreHeld (actors : List ActorState) : Type 0 where
  pub each : (name : List ℕ) (a : ActorState) → actor_named actors name ≡ Some a → KnowsItsGates a
  pub makers : (name : List ℕ) (a : ActorState) (id : GateId) (g : Gate) → actor_named actors name ≡ Some a → gate_named a.gates id ≡ Some g → IsOfItsMaker actors id g

-- a gate that an actor holds is among those that it knows
held_known : (a : ActorState) → KnowsItsGates a → (entry : ℕ) (id : GateId) → gate_at a.sheet a.made entry ≡ Some id → is_some (gate_named a.gates id) ≡ true
held_known a knows entry id e = by_made (at a.made.gates entry) refl e
  where
    by_made : (o : Option GateId) → at a.made.gates entry ≡ o → option_or o (at a.sheet.gates entry) ≡ Some id → is_some (gate_named a.gates id) ≡ true
    by_made None is k = knows.given entry id k
    by_made (Some x) is k = let same_one : x ≡ id = cc in knows.made entry id (is ∙ ap (λ y. Some y) same_one)

within_known : (a : ActorState) (s : Sheet) → KnowsItsGates a → IsWithin a.sheet a.made s → AreAmong a.gates s.gates
within_known a s knows within entry id e = held_known a knows entry id (within.gates entry id e)

-- a new gate has a number that none of its maker's has
number_new : (actors : List ActorState) (a : ActorState) (id : GateId) → actor_named actors a.name ≡ Some a → AreHeld actors → id ≡ record { maker = a.name; number = a.made.count + 1 } → gate_named a.gates id ≡ None
number_new actors a id there h is = by_found (gate_named a.gates id) refl
  where
    by_found : (o : Option Gate) → gate_named a.gates id ≡ o → o ≡ None
    by_found None e = refl
    by_found (Some g) e =
        let of = h.makers a.name a id g there e in
        let found : actor_named actors a.name ≡ Some of.maker = ap (λ (x : GateId). actor_named actors x.maker) (sym is) ∙ of.there in
        let two : Some of.maker ≡ Some a = sym found ∙ there in
        let maker : of.maker ≡ a = cc in
        let count : of.maker.made.count ≡ a.made.count = ap (λ (x : ActorState). x.made.count) maker in
        let number : id.number ≡ a.made.count + 1 = ap (λ (x : GateId). x.number) is in
        let most = of.numbered in
        absurd (omega (arith, count, number, most))

-- ---- an actor goes on

module _ (actors : List ActorState) (a b : ActorState) (put : IsPut actors a b) (sheet : b.sheet ≡ a.sheet) (h : AreHeld actors) where
  knows : KnowsItsGates a
  knows = h.each a.name a put.there

  knows_after : Grows a b → KnowsItsGates b
  knows_after (Keeps known held count) = record {
    given = subst (λ gs. AreAmong gs b.sheet.gates) (sym known) (subst (λ (s : Sheet). AreAmong a.gates s.gates) (sym sheet) knows.given);
    made = subst (λ gs. AreAmong gs b.made.gates) (sym known) (subst (AreAmong a.gates) (sym held) knows.made);
    order = subst (AreInOrder []) (sym known) knows.order;
  }
  knows_after (Adds g id within known held count) =
      let new = number_new actors a g.id put.there h id in
      let after : IsMadeAfter a.gates g = record { older = within_known a g.sheet knows within; new = new } in
      record {
        given = subst (λ gs. AreAmong gs b.sheet.gates) (sym known)
            (subst (λ (s : Sheet). AreAmong (a.gates ++ g ∷ []) s.gates) (sym sheet) (λ entry x e. among_still a.gates g x (knows.given entry x e)));
        made = subst (λ gs. AreAmong gs b.made.gates) (sym known) (subst (AreAmong (a.gates ++ g ∷ [])) (sym held) (made_known g new));
        order = subst (AreInOrder []) (sym known) (order_with [] a.gates g knows.order after);
      }
    where
      made_known : (g : Gate) → gate_named a.gates g.id ≡ None → AreAmong (a.gates ++ g ∷ []) (with a.made.gates g.entry g.id)
      made_known g new entry x e = by_entry (entry == g.entry) refl
        where
          by_entry : (t : Bool) → (entry == g.entry) ≡ t → is_some (gate_named (a.gates ++ g ∷ []) x) ≡ true
          by_entry true is =
              let two : Some g.id ≡ Some x = sym (with_same a.made.gates g.entry g.id) ∙ (ap (at (with a.made.gates g.entry g.id)) (sym (eqb-true entry g.entry is)) ∙ e) in
              let one : g.id ≡ x = cc in
              ap (λ y. is_some (gate_named (a.gates ++ g ∷ []) y)) (sym one) ∙ ap is_some (named_last a.gates g new)
          by_entry false is =
              let apart : entry ≡ g.entry → ⊥ = λ k. let f : true ≡ false = sym (eq-eqb entry g.entry k) ∙ is in absurd cc in
              among_still a.gates g x (knows.made entry x (sym (with_other a.made.gates g.entry g.id entry apart) ∙ e))

  -- a gate that the actor knew it knows still, and it has made as many
  known_still : Grows a b → (id : GateId) (x : Gate) → gate_named a.gates id ≡ Some x → gate_named b.gates id ≡ Some x
  known_still (Keeps known held count) id x e = ap (λ gs. gate_named gs id) known ∙ e
  known_still (Adds g is within known held count) id x e = ap (λ gs. gate_named gs id) known ∙ named_still a.gates g id x e

  count_still : Grows a b → a.made.count ≤ b.made.count
  count_still (Keeps known held count) = omega (arith, count)
  count_still (Adds g is within known held count) = omega (arith, count)

  -- whoever made a gate has made it still
  maker_still : Grows a b → (id : GateId) (x : Gate) → IsOfItsMaker actors id x → IsOfItsMaker (put_actor actors b) id x
  maker_still grows id x of = by_name (same a.name id.maker) refl
    where
      by_name : (t : Bool) → same a.name id.maker ≡ t → IsOfItsMaker (put_actor actors b) id x
      by_name true e =
          let is : a.name ≡ id.maker = same_equal a.name id.maker e in
          let two : Some of.maker ≡ Some a = sym of.there ∙ (ap (actor_named actors) (sym is) ∙ put.there) in
          let maker : of.maker ≡ a = cc in
          let count : of.maker.made.count ≡ a.made.count = ap (λ (y : ActorState). y.made.count) maker in
          let more = count_still grows in
          let most = of.numbered in
          record {
            maker = b;
            there = ap (actor_named (put_actor actors b)) (sym is) ∙ found_put actors a b put;
            known = known_still grows id x (ap (λ (y : ActorState). gate_named y.gates id) (sym maker) ∙ of.known);
            numbered = omega (arith, count, more, most);
          }
      by_name false e = record { maker = of.maker; there = found_else actors a b id.maker put e ∙ of.there; known = of.known; numbered = of.numbered }

  -- the gates that it knows then have makers, itself among them
  maker_after : Grows a b → (id : GateId) (x : Gate) → gate_named b.gates id ≡ Some x → IsOfItsMaker (put_actor actors b) id x
  maker_after (Keeps known held count) id x e =
      maker_still (Keeps known held count) id x (h.makers a.name a id x put.there (ap (λ gs. gate_named gs id) (sym known) ∙ e))
  maker_after (Adds g is within known held count) id x e = elim (named_or_last a.gates g id x (ap (λ gs. gate_named gs id) (sym known) ∙ e)) [
    | inl old ↦ maker_still (Adds g is within known held count) id x (h.makers a.name a id x put.there old)
    | inr last ↦ own_gate last.1
  ]
    where
      own_gate : g.id ≡ id → IsOfItsMaker (put_actor actors b) id x
      own_gate own =
          let so : id ≡ record { maker = a.name; number = a.made.count + 1 } = sym own ∙ is in
          let number : id.number ≡ a.made.count + 1 = ap (λ (y : GateId). y.number) so in
          record {
            maker = b;
            there = ap (λ (y : GateId). actor_named (put_actor actors b) y.maker) so ∙ found_put actors a b put;
            known = e;
            numbered = omega (arith, number, count);
          }

  goes : Grows a b → AreHeld (put_actor actors b)
  goes grows = record {
    each = λ m y found. elim (find_put actors a b m y put found) [
      | IsDoer is same_one ↦ subst KnowsItsGates (sym same_one) (knows_after grows)
      | IsOther apart there ↦ h.each m y there
    ];
    makers = λ m y id x found known. elim (find_put actors a b m y put found) [
      | IsDoer is same_one ↦ maker_after grows id x (ap (λ (z : ActorState). gate_named z.gates id) (sym same_one) ∙ known)
      | IsOther apart there ↦ maker_still grows id x (h.makers m y id x there known)
    ];
  }

-- ---- an actor begins

begins : (actors : List ActorState) (c : ActorState) → AreHeld actors → KnowsItsGates c → ((id : GateId) (g : Gate) → gate_named c.gates id ≡ Some g → IsOfItsMaker actors id g) → AreHeld (actors ++ c ∷ [])
begins actors c h knows makers = record {
  each = λ m y found. elim (found_or_last actors c m y found) [
    | inl there ↦ h.each m y there
    | inr is ↦ subst KnowsItsGates (sym is) knows
  ];
  makers = λ m y id g found known. elim (found_or_last actors c m y found) [
    | inl there ↦ with_more id g (h.makers m y id g there known)
    | inr is ↦ with_more id g (makers id g (ap (λ (z : ActorState). gate_named z.gates id) (sym is) ∙ known))
  ];
}
  where
    with_more : (id : GateId) (g : Gate) → IsOfItsMaker actors id g → IsOfItsMaker (actors ++ c ∷ []) id g
    with_more id g of = record { maker = of.maker; there = named_begun actors (Some c) id.maker of.maker of.there; known = of.known; numbered = of.numbered }

-- ---- turns

run_name : (i : Image) (n : ℕ) (a : ActorState) (t : Bool) → is_running a.phase ≡ t → (run_local i n a).name ≡ a.name
run_name i n a false e = ap (λ (x : ActorState). x.name) (stays i n a e)
run_name i zero a true e = unfold run_local in refl
run_name i (suc n) a true e = ap (λ (x : ActorState). x.name) (goes_on i n a e) ∙ (run_name i n (step i a) _ refl ∙ (steps_step i a).name)

run_held : (w : WorldState) (n : ℕ) (actors : List ActorState) (a : ActorState) (t : Bool) → is_running a.phase ≡ t → actor_named actors a.name ≡ Some a → AreHeld actors → AreHeld (put_actor actors (run_local w.image n a))
run_held w n actors a false e there h =
    subst (λ x. AreHeld (put_actor actors x)) (sym (stays w.image n a e)) (goes actors a a (record { name = refl; there = there }) refl h (Keeps refl refl refl))
run_held w zero actors a true e there h = unfold run_local in goes actors a a (record { name = refl; there = there }) refl h (Keeps refl refl refl)
run_held w (suc n) actors a true e there h =
    let b = step w.image a in
    let s = steps_step w.image a in
    let put : IsPut actors a b = record { name = s.name; there = there } in
    let first = goes actors a b put s.sheet h (step_grows w a e) in
    let found : actor_named (put_actor actors b) b.name ≡ Some b = ap (actor_named (put_actor actors b)) s.name ∙ found_put actors a b put in
    let later = run_held w n (put_actor actors b) b _ refl found first in
    subst (λ x. AreHeld (put_actor actors x)) (sym (goes_on w.image n a e))
    (subst AreHeld (put_put actors b (run_local w.image n b) (run_name w.image n b _ refl)) later)

pub rest_held : (w : WorldState) (a : ActorState) → actor_named w.actors a.name ≡ Some a → AreHeld w.actors → AreHeld (put_actor w.actors (rest w.image a))
unfolding rest
rest_held w a there h = run_held w (a.fuel + 1) w.actors a _ refl there h

-- a child knows what its starter knows
started_gates : (i : Image) (b : ActorState) (name : List ℕ) → (takes i b (event.Start name)).gates ≡ b.gates
unfolding takes
started_gates i b name = refl

child_held : (w : WorldState) (b : ActorState) (e : Event) (s : AtStart b e) → AreHeld (put_actor w.actors (takes w.image b e))
    → actor_named (put_actor w.actors (takes w.image b e)) (takes w.image b e).name ≡ Some (takes w.image b e) → KnowsItsGates b
    → AreHeld (put_actor w.actors (takes w.image b e) ++ child_of w.image b (child_name b.name (next_start b)) ∷ [])
child_held w b e s done doer knows =
    let x = takes w.image b e in
    let c = child_of w.image b (child_name b.name (next_start b)) in
    let child = child_begins w.image b s.preparation s.at s.complete s.ready in
    let same_gates : x.gates ≡ b.gates = ap (λ y. (takes w.image b y).gates) s.is ∙ started_gates w.image b (child_name b.name (next_start b)) in
    begins (put_actor w.actors x) c done
    (record {
      given = λ entry id k. held_known b knows entry id (child.within.gates entry id k);
      made = λ entry id k. absurd cc;
      order = knows.order;
    })
    (λ id g k. done.makers x.name x id g doer (ap (λ gs. gate_named gs id) same_gates ∙ k))

-- the run of a gate knows what its caller knows, and so the gates of its own
run_given : (w : WorldState) (b : ActorState) (e : Event) (y : IsEntry w b e) → KnowsItsGates b → AreAmong b.gates y.entrance.sheet.gates
run_given w b e y knows =
    let run = run_begins b y.kept y.entrance y.at y.may in
    let h = held_is b (a0 b) run.entrance.gate run.held in
    subst (AreAmong b.gates) (sym run.sheet.gates) (order_known [] b.gates h.id run.entrance.gate knows.order h.known)

run_begins_held : (w : WorldState) (b : ActorState) (e : Event) (y : IsEntry w b e) → AreHeld (put_actor w.actors (takes w.image b e))
    → actor_named (put_actor w.actors (takes w.image b e)) (takes w.image b e).name ≡ Some (takes w.image b e) → KnowsItsGates b
    → AreHeld (put_actor w.actors (takes w.image b e) ++ run_by b (child_name b.name (next_start b)) y.kept y.entrance ∷ [])
run_begins_held w b e y done doer knows =
    let x = takes w.image b e in
    let name = child_name b.name (next_start b) in
    let same_gates : x.gates ≡ b.gates = ap (λ (z : ActorState). z.gates) y.takes_so in
    begins (put_actor w.actors x) (run_by b name y.kept y.entrance) done
    (record { given = run_given w b e y knows; made = λ entry id k. absurd cc; order = knows.order })
    (λ id g k. done.makers x.name x id g doer (ap (λ gs. gate_named gs id) same_gates ∙ k))

-- an actor that goes on has the gates that it had
pub resumed_held : (w : WorldState) (a : ActorState) → actor_named w.actors a.name ≡ Some a → AreHeld w.actors → AreHeld (resumed w a).actors
resumed_held w a there h =
    goes w.actors a (ready w.actors a) (record { name = ready_name w.actors a; there = there }) (ready_sheet w.actors a) h
    (ready_is (Grows a) w.actors a (Keeps refl refl refl) (λ k e fuel. Keeps refl refl refl))

pub turn_held : (w : WorldState) (name : List ℕ) (e : Event) (new : WorldState) → AllReady w → AreHeld w.actors → turn_of w name ≡ Some (record { event = e; world = new }) → AreHeld new.actors
turn_held w name e new all_ready h t =
    let p = turn_from w name e new t in
    let v = resumed w p.actor in
    let a = p.parts.actor in
    let b = rest w.image a in
    let x = takes w.image b e in
    let happens = turn_happens w name e new all_ready p in
    let there = turned_there v name a p.parts.named in
    let rests : IsPut v.actors a b = record { name = rest-name w.image a; there = there } in
    let at_rest = rest_held v a there (resumed_held w p.actor (turned_there w name p.actor p.named) h) in
    let found : actor_named (put_actor v.actors b) b.name ≡ Some b = ap (actor_named (put_actor v.actors b)) (rest-name w.image a) ∙ found_put v.actors a b rests in
    let put : IsPut (put_actor v.actors b) b x = record { name = takes_name w.image b e; there = found } in
    let grows = by_phase (with_actor v b) b x b.phase e (event_makes_gates v b e happens) in
    let after = goes (put_actor v.actors b) b x put (takes_sheet w.image b e) at_rest grows in
    let done = subst AreHeld (put_put v.actors b x (takes_name w.image b e)) after in
    let doer : actor_named (put_actor v.actors x) x.name ≡ Some x =
    ap (λ (y : List ActorState). actor_named y x.name) (sym (put_put v.actors b x (takes_name w.image b e)))
    ∙ (ap (actor_named (put_actor (put_actor v.actors b) x)) (takes_name w.image b e) ∙ found_put (put_actor v.actors b) b x put) in
    subst (λ (y : WorldState). AreHeld y.actors) (sym p.parts.new_is) (by_begun v (acts v b e happens) done doer at_rest found)
  where
    by_begun : (v : WorldState) {b : ActorState} → Acts v b e → AreHeld (put_actor v.actors (takes v.image b e)) → actor_named (put_actor v.actors (takes v.image b e)) (takes v.image b e).name ≡ Some (takes v.image b e)
        → AreHeld (put_actor v.actors b) → actor_named (put_actor v.actors b) b.name ≡ Some b → AreHeld (with_begun (put_actor v.actors (takes v.image b e)) (actor_begun v.image b e))
    by_begun v {b} (ActsAlone one) done doer at_rest found = subst (λ o. AreHeld (with_begun (put_actor v.actors (takes v.image b e)) o)) (sym (one_begins v.image b e one)) done
    by_begun v {b} (Starts s) done doer at_rest found =
        subst (λ o. AreHeld (with_begun (put_actor v.actors (takes v.image b e)) o)) (sym (ap (actor_begun v.image b) s.is))
        (child_held v b e s done doer (at_rest.each b.name b found))
    by_begun v {b} (Enters y) done doer at_rest found =
        subst (λ o. AreHeld (with_begun (put_actor v.actors (takes v.image b e)) o)) (sym y.begins)
        (run_begins_held v b e y done doer (at_rest.each b.name b found))
    by_begun v {b} (Joins k listed j) done doer at_rest found = subst (λ o. AreHeld (with_begun (put_actor v.actors (takes v.image b e)) o)) (sym (ap (actor_begun v.image b) j.is)) done

-- ---- the root

root_knows : (i : Image) → KnowsItsGates (root i)
unfolding root
root_knows i = record { given = λ entry id e. absurd cc; made = λ entry id e. absurd cc; order = tt }

root_none : (i : Image) (id : GateId) (g : Gate) → gate_named (root i).gates id ≡ Some g → ⊥
unfolding root
root_none i id g e = cc

is_root : (i : Image) (m : List ℕ) (a : ActorState) → actor_named (initial_state i).actors m ≡ Some a → root i ≡ a
is_root i m a found = by_name (same (root i).name m) found
  where
    by_name : (t : Bool) → (if t then Some (root i) else None) ≡ Some a → root i ≡ a
    by_name true e = cc
    by_name false e = absurd cc

pub opening_held : (i : Image) → AreHeld (initial_state i).actors
opening_held i = record {
  each = λ m a found. subst KnowsItsGates (is_root i m a found) (root_knows i);
  makers = λ m a id g found known. absurd (root_none i id g (ap (λ (x : ActorState). gate_named x.gates id) (is_root i m a found) ∙ known));
}

runs_held : (old : WorldState) (turns : List Turn) (new : WorldState) → AllReady old → AreHeld old.actors → Runs old turns new → AreHeld new.actors
runs_held old [] new all_ready h run = subst (λ (w : WorldState). AreHeld w.actors) (sym run) h
runs_held old (t ∷ ts) new all_ready h run = runs_held run.0 ts new (turn_ready old t.actor t.event run.0 all_ready run.1) (turn_held old t.actor t.event run.0 all_ready h run.1) run.2

pub one_gate : (actors : List ActorState) → AreHeld actors → (m n : List ℕ) (a b : ActorState) (id : GateId) (g h : Gate) → actor_named actors m ≡ Some a → actor_named actors n ≡ Some b
    → gate_named a.gates id ≡ Some g → gate_named b.gates id ≡ Some h → g ≡ h
one_gate actors all m n a b id g h there here first second =
    let x = all.makers m a id g there first in
    let y = all.makers n b id h here second in
    let makers : Some x.maker ≡ Some y.maker = sym x.there ∙ y.there in
    let maker : x.maker ≡ y.maker = cc in
    let gates : Some g ≡ Some h = sym x.known ∙ (ap (λ (z : ActorState). gate_named z.gates id) maker ∙ y.known) in
    cc

pub gates_kept : GatesAreKept
gates_kept i turns new run =
    let h = runs_held (initial_state i) turns new (opening_ready i) (opening_held i) run in
    record { each = h.each; makers = h.makers; one = one_gate new.actors h }
