-- In which slots an actor has tags: the gates that it makes, and those that begin by it, have them in no others.
use Rattle.std.proofs.Common.{◌≡◌, ℕ, zero, suc, ◌+◌, Bool, true, false, List, [], ◌∷◌, ◌++◌, refl, sym, ap, subst, ◌∙◌, inl, inr}
use Rattle.std.specs.Option.{option_or}
use Rattle.std.specs.Prelude.{Option, Some, None, option_map, IfSome, ◌⊎◌, if◌then◌else◌}
use Rattle.wedge_base.specs.Identities.{same_gate}
use Rattle.wedge_base.specs.Images.{Image}
use Rattle.wedge_base.specs.Maps.{Map, at}
use Rattle.wedge_base.specs.Sheets.{Sheet, Made, slot_on, nothing_made}
use Rattle.wedge_base.specs.declared.grants.GateId.{GateId}
use Rattle.wedge_base.specs.declared.rights.Grant.{Grant}
use Rattle.callgate.specs.Gate.{gate_named}
use Rattle.callgate.specs.Lending.{tag_lent}
use Rattle.callgate.specs.declared.gate.Gate.{Gate}
use Rattle.grant_sheet.specs.Granting.{IsWithin}
use Rattle.rv_hart.specs.Local.{reg}
use Rattle.machine.specs.Actors.{ActorState}
use Rattle.run_laws.specs.Families.{IsChild, IsRun}
use Rattle.machine.specs.Entering.{sheet_lent}
use Rattle.machine.specs.Local.{is_running, step, run_local, rest}
use Rattle.run_laws.specs.Occupancy.{slot_known, GateHasIn, HasIn}
use Rattle.machine.specs.Worlds.{initial_state}
use Rattle.run_laws.proofs.GateRuns.{held_is}
use Rattle.run_laws.proofs.KnownGates.{Grows, Keeps, Adds, step_grows}
use Rattle.machine.proofs.Resting.{steps_step, stays, goes_on}

-- ---- sheets

-- the grant by which a sheet alone has a tag in a slot
sheet_grant : (s : Sheet) (tag slot : ℕ) → slot_on s nothing_made tag ≡ Some slot → (g : Grant) × (at s.tags tag ≡ Some g) × (g.slot ≡ slot)
sheet_grant s tag slot e = by_grant (at s.tags tag) refl e
  where
    by_grant : (o : Option Grant) → at s.tags tag ≡ o → option_map (λ g. g.slot) o ≡ Some slot → (g : Grant) × (at s.tags tag ≡ Some g) × (g.slot ≡ slot)
    by_grant None there f = absurd cc
    by_grant (Some g) there f = (g, there, cc)

-- a sheet that is within what an actor holds has its tags in the actor's slots
within_known : (a : ActorState) (s : Sheet) → IsWithin a.sheet a.made s → (tag slot : ℕ) → slot_on s nothing_made tag ≡ Some slot → slot_known a tag ≡ Some slot
within_known a s within tag slot e = let g = sheet_grant s tag slot e in within.slots tag g.0 g.1 ∙ ap (λ n. Some n) g.2

-- the same sheet, and the same tags made
same_known : (a b : ActorState) → b.sheet ≡ a.sheet → b.made.tags ≡ a.made.tags → (tag : ℕ) → slot_known b tag ≡ slot_known a tag
same_known a b sheet tags tag =
    ap (λ (s : Sheet). slot_on s b.made tag) sheet ∙ ap (λ (m : Map ℕ). option_or (at m tag) (option_map (λ g. g.slot) (at a.sheet.tags tag))) tags

-- ---- gates that an actor knows

-- a gate that is found among them
named_has : (gates : List Gate) (id : GateId) (g : Gate) (tag slot : ℕ) → gate_named gates id ≡ Some g → slot_on g.sheet nothing_made tag ≡ Some slot → GateHasIn gates tag slot
named_has [] id g tag slot e own = absurd cc
named_has (x ∷ xs) id g tag slot e own = by_id (same_gate x.id id) e (λ k. named_has xs id g tag slot k own)
  where
    by_id : (t : Bool) → (if t then Some x else gate_named xs id) ≡ Some g → (gate_named xs id ≡ Some g → GateHasIn xs tag slot) → GateHasIn (x ∷ xs) tag slot
    by_id true k others = let is : x ≡ g = cc in inl (subst (λ (y : Gate). slot_on y.sheet nothing_made tag ≡ Some slot) (sym is) own)
    by_id false k others = inr (others k)

one_more : (gates : List Gate) (g : Gate) (tag slot : ℕ) → GateHasIn (gates ++ g ∷ []) tag slot → GateHasIn gates tag slot ⊎ (slot_on g.sheet nothing_made tag ≡ Some slot)
one_more [] g tag slot (inl own) = inr own
one_more [] g tag slot (inr none) = absurd none
one_more (x ∷ xs) g tag slot (inl own) = inl (inl own)
one_more (x ∷ xs) g tag slot (inr others) = elim (one_more xs g tag slot others) [ inl k ↦ inl (inr k) | inr k ↦ inr k ]

-- ---- an actor goes on

-- the gates that it makes are within what it holds
gates_has : (a b : ActorState) → Grows a b → (tag slot : ℕ) → GateHasIn b.gates tag slot → HasIn a tag slot
gates_has a b (Keeps known held count) tag slot gate = inr (subst (λ gs. GateHasIn gs tag slot) known gate)
gates_has a b (Adds g id within known held count) tag slot gate = elim (one_more a.gates g tag slot (subst (λ gs. GateHasIn gs tag slot) known gate)) [
  | inl old ↦ inr old
  | inr new ↦ inl (within_known a g.sheet within tag slot new)
]

-- where it makes no tag, it has them as before
pub grown_has : (a b : ActorState) → b.sheet ≡ a.sheet → b.made.tags ≡ a.made.tags → Grows a b → (tag slot : ℕ) → HasIn b tag slot → HasIn a tag slot
grown_has a b sheet tags grows tag slot (inl own) = inl (sym (same_known a b sheet tags tag) ∙ own)
grown_has a b sheet tags grows tag slot (inr gate) = gates_has a b grows tag slot gate

run_has : (i : Image) (n : ℕ) (a : ActorState) (t : Bool) → is_running a.phase ≡ t → (tag slot : ℕ) → HasIn (run_local i n a) tag slot → HasIn a tag slot
run_has i n a false e tag slot h = subst (λ (x : ActorState). HasIn x tag slot) (stays i n a e) h
run_has i zero a true e tag slot h = unfold run_local in h
run_has i (suc n) a true e tag slot h =
    let b = step i a in
    let s = steps_step i a in
    let later = run_has i n b _ refl tag slot (subst (λ (x : ActorState). HasIn x tag slot) (goes_on i n a e) h) in
    grown_has a b s.sheet (ap (λ (m : Made). m.tags) s.made) (step_grows (initial_state i) a e) tag slot later

pub rest_has : (i : Image) (a : ActorState) (tag slot : ℕ) → HasIn (rest i a) tag slot → HasIn a tag slot
unfolding rest
rest_has i a tag slot h = run_has i (a.fuel + 1) a _ refl tag slot h

-- whoever has the same has it there too
pub same_has : (a b : ActorState) → b.sheet ≡ a.sheet → b.made.tags ≡ a.made.tags → b.gates ≡ a.gates → (tag slot : ℕ) → HasIn a tag slot → HasIn b tag slot
same_has a b sheet tags gates tag slot (inl own) = inl (same_known a b sheet tags tag ∙ own)
same_has a b sheet tags gates tag slot (inr gate) = inr (subst (λ gs. GateHasIn gs tag slot) (sym gates) gate)

-- ---- who begins

-- a child has tags where its starter has them
pub child_has : (a c : ActorState) → IsChild a c → (tag slot : ℕ) → HasIn c tag slot → HasIn a tag slot
child_has a c child tag slot (inl own) = inl (within_known a c.sheet child.within tag slot (ap (λ (m : Made). slot_on c.sheet m tag) (sym child.fresh.0) ∙ own))
child_has a c child tag slot (inr gate) = inr (subst (λ gs. GateHasIn gs tag slot) child.gates gate)

-- the run of a gate has them where the gate has them, which its caller knows, or where its caller has those that it lends
pub run_of_has : (a c : ActorState) → IsRun a c → (tag slot : ℕ) → HasIn c tag slot → HasIn a tag slot
run_of_has a c run tag slot (inr gate) = inr (subst (λ gs. GateHasIn gs tag slot) run.gates gate)
run_of_has a c run tag slot (inl own) =
    let g = sheet_grant c.sheet tag slot (ap (λ (m : Made). slot_on c.sheet m tag) (sym run.fresh.0) ∙ own) in
    by_gate g.0 g.2 (at run.entrance.gate.sheet.tags tag) refl (sym (run.sheet.tags tag) ∙ g.1)
  where
    by_lent : (g : Grant) → g.slot ≡ slot → (o : Option Sheet) → IfSome o (IsWithin a.sheet a.made) → tag_lent o tag ≡ Some g → HasIn a tag slot
    by_lent g is None within e = absurd cc
    by_lent g is (Some s) within e = inl (within.slots tag g e ∙ ap (λ n. Some n) is)

    by_gate : (g : Grant) → g.slot ≡ slot → (o : Option Grant) → at run.entrance.gate.sheet.tags tag ≡ o → option_or o (tag_lent (sheet_lent a run.lent) tag) ≡ Some g → HasIn a tag slot
    by_gate g is None there e = by_lent g is (sheet_lent a run.lent) run.within e
    by_gate g is (Some x) there e =
        let same : x ≡ g = cc in
        let h = held_is a (reg a.hart.regs 10) run.entrance.gate run.held in
        inr (named_has a.gates h.id run.entrance.gate tag slot h.known (ap (option_map (λ (y : Grant). y.slot)) there ∙ ap (λ n. Some n) (ap (λ (y : Grant). y.slot) same ∙ is)))
