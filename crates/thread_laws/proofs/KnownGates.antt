-- An actor's list of gates grows at its end only, and an actor that is about to enter a gate knows it.
use Rattle.std.proofs.Common.{◌≡◌, ℕ, zero, suc, ◌+◌, Bool, true, false, List, [], ◌∷◌, ◌++◌, refl, sym, ap, subst, ◌∙◌}
use Rattle.std.proofs.lemmas.List.{append_assoc, append-nil}
use Rattle.std.specs.Prelude.{Option, Some, None, option_and_then}
use Rattle.cow_pages.specs.Listed.{bytes_listed}
use Rattle.wedge_base.specs.Images.{Image, fetch}
use Rattle.wedge_base.specs.Sheets.{Draft}
use Rattle.wedge_base.specs.declared.grants.GateId.{GateId}
use Rattle.wedge_base.specs.declared.rights.Denial.{Denial}
use Rattle.wedge_events.specs.declared.cells.DirectoryAsk.TheVariants as directory_ask
use Rattle.wedge_events.specs.declared.cells.DirectoryReply.TheVariants as directory_reply
use Rattle.wedge_events.specs.declared.cells.GateAsk.TheVariants as gate_ask
use Rattle.wedge_events.specs.declared.cells.GateReply.TheVariants as gate_reply
use Rattle.wedge_events.specs.declared.cells.LivesAsk.TheVariants as lives_ask
use Rattle.wedge_events.specs.declared.cells.LivesReply.TheVariants as lives_reply
use Rattle.wedge_events.specs.declared.cells.SlotAsk.TheVariants as slot_ask
use Rattle.wedge_events.specs.declared.cells.SlotReply.TheVariants as slot_reply
use Rattle.wedge_events.specs.declared.cells.StreamReply.TheVariants as stream_reply
use Rattle.wedge_events.specs.declared.events.Event.{Event}
use Rattle.wedge_events.specs.declared.events.Event.TheVariants as event
use Rattle.callgate.specs.Gate.{gate_named}
use Rattle.callgate.specs.declared.gate.Gate.{Gate}
use Rattle.rv_isa.specs.Table.{decode}
use Rattle.rv_isa.specs.declared.Instr.{Instr}
use Rattle.rv_hart.specs.Local.{local}
use Rattle.rv_hart.specs.declared.Need.{Need}
use Rattle.rv_hart.specs.declared.Need.TheVariants as need
use Rattle.machine.specs.declared.phase.Phase.TheVariants as phase
use Rattle.machine.specs.declared.copy_grant.CopyGrant.{CopyGrant}
use Rattle.machine.specs.Actors.{ActorState}
use Rattle.machine.specs.Children.{without_child}
use Rattle.machine.specs.Entrance.{Entrance}
use Rattle.machine.specs.Local.{rest, is_running, step, run_local}
use Rattle.machine.specs.Preparation.{Preparation}
use Rattle.machine.specs.Take.{runs, takes, has_joined, loads_at, loads_by, answered_end}
use Rattle.machine.specs.Worlds.{WorldState, initial_state}
use Rattle.machine.proofs.Resting.{stays, goes_on, running_is, rest-stays}
use Rattle.run_laws.specs.Allowed.{lacks}
use Rattle.run_laws.specs.GateCalls.{MakesWith, BeginsUnless, GatesByRequest, InstrMakesGates}
use Rattle.run_laws.specs.Requests.{Request, Makes, request_at}
use Rattle.run_laws.proofs.Between.{Leaves, takes_between, joined_is, numbered_is, opened_is, snapped_is, entered_is}
use Rattle.run_laws.proofs.EnteringGates.{IsEnterable}
use Rattle.run_laws.proofs.GateMoments.{step_makes_gates}
use Rattle.run_laws.proofs.Meeting.{ReadsAs, rest_reads}
use Rattle.thread_laws.specs.declared.gathered.ActorEnd.{ActorEnd}
use Rattle.thread_laws.specs.ActorProgresses.{ActorProgress, CreatedActor, IsProgress, begun, rests, does, starts, learns, joins, resumes}

-- a list with more behind it
pub record IsMore (xs ys : List Gate) : Type 0 where
  pub more : List Gate
  pub is : ys ≡ xs ++ more

none_more : (xs : List Gate) → IsMore xs xs
none_more xs = record { more = []; is = sym (append-nil xs) }

same_more : (xs ys : List Gate) → ys ≡ xs → IsMore xs ys
same_more xs ys e = record { more = []; is = e ∙ sym (append-nil xs) }

more_after : (xs ys zs : List Gate) → IsMore xs ys → IsMore ys zs → IsMore xs zs
more_after xs ys zs h k = record { more = h.more ++ k.more; is = k.is ∙ (ap (λ (gs : List Gate). gs ++ k.more) h.is ∙ append_assoc xs h.more k.more) }

-- ---- instructions

makes_more : (a b : ActorState) (d : Draft) (p : Preparation) (gs : List CopyGrant) → MakesWith a d p gs b → IsMore a.gates b.gates
makes_more a b d p [] h = record { more = h.0 ∷ []; is = ap (λ (x : ActorState). x.gates) h.3 }
makes_more a b d p (g ∷ gs) h = same_more a.gates b.gates (ap (λ (x : ActorState). x.gates) h)

request_more : (i : Image) (a b : ActorState) (r : Option Request) → GatesByRequest i a r b → IsMore a.gates b.gates
request_more i a b (Some (Makes d)) h = by_lack (lacks a (Makes d)) h
  where
    by_lack : (o : Option Denial) → BeginsUnless i a d o b → IsMore a.gates b.gates
    by_lack None k = makes_more a b d k.preparation k.preparation.left k.after
    by_lack (Some x) k = same_more a.gates b.gates k.known
request_more i a b r h = same_more a.gates b.gates h.known

instr_more : (w : WorldState) (a b : ActorState) (n : ℕ) → InstrMakesGates w a n b → IsMore a.gates b.gates
instr_more w a b zero h = same_more a.gates b.gates h.known
instr_more w a b (suc n) h = request_more w.image (record a { fuel = n }) b (request_at w.image w.cells (record a { fuel = n })) h

step_more : (i : Image) (a : ActorState) → a.phase ≡ phase.Running → IsMore a.gates (step i a).gates
step_more i a run = instr_more (initial_state i) a (step i a) a.fuel (step_makes_gates (initial_state i) a run)

local_more : (i : Image) (n : ℕ) (a : ActorState) (b : Bool) → is_running a.phase ≡ b → IsMore a.gates (run_local i n a).gates
local_more i n a false e = rw (stays i n a e) (none_more a.gates)
local_more i zero a true e = unfold run_local in none_more a.gates
local_more i (suc n) a true e =
    rw (goes_on i n a e) (more_after a.gates (step i a).gates (run_local i n (step i a)).gates (step_more i a (running_is a.phase e)) (local_more i n (step i a) _ refl))

pub rest_more : (i : Image) (a : ActorState) → IsMore a.gates (rest i a).gates
unfolding rest
rest_more i a = local_more i (a.fuel + 1) a _ refl

-- ---- events

loaded_gates : (ins : Instr) (n : Need) (a : ActorState) (value : ℕ) → (loads_by ins n a value).gates ≡ a.gates
loaded_gates ins need.Done a value = refl
loaded_gates ins (need.Load address width s) a value = refl
loaded_gates ins (need.Store address width v) a value = refl
loaded_gates ins need.Call a value = refl
loaded_gates ins need.Break a value = refl
loaded_gates ins need.JumpMisaligned a value = refl

loads_gates : (a : ActorState) (ins : Option Instr) (value : ℕ) → (loads_at a ins value).gates ≡ a.gates
loads_gates a None value = refl
loads_gates a (Some ins) value = loaded_gates ins (local ins a.hart).need a value

pub takes_more : (i : Image) (b : ActorState) (e : Event) → IsMore b.gates (takes i b e).gates
unfolding takes
takes_more i b (event.Slot slot q (slot_reply.Loaded value)) = same_more b.gates _ (loads_gates (runs b) (option_and_then decode (fetch i b.hart.pc)) value)
takes_more i b (event.Slots (directory_ask.Release place) r) = none_more b.gates
takes_more i b (event.Slots directory_ask.Claim (directory_reply.Claimed place number)) = none_more b.gates
takes_more i b (event.Slots directory_ask.Claim directory_reply.Full) = none_more b.gates
takes_more i b (event.Slots directory_ask.Claim directory_reply.Released) = none_more b.gates
takes_more i b (event.Slot slot q (slot_reply.Snapped pages)) = snapped_is (λ x. IsMore b.gates x.gates) b b.phase slot (Some (bytes_listed pages)) (none_more b.gates) (λ x. none_more b.gates) (λ x. none_more b.gates) (λ g. record { more = g ∷ []; is = refl })
takes_more i b (event.Slot slot q slot_reply.Gone) = snapped_is (λ x. IsMore b.gates x.gates) b b.phase slot None (none_more b.gates) (λ x. none_more b.gates) (λ x. none_more b.gates) (λ g. record { more = g ∷ []; is = refl })
takes_more i b (event.Slot slot (slot_ask.Sfree offset live) (slot_reply.Denied tag wants)) = none_more b.gates
takes_more i b (event.Slot slot (slot_ask.Open tag pages) slot_reply.Opened) = none_more b.gates
takes_more i b (event.Slot slot q r) = none_more b.gates
takes_more i b (event.Fds (directory_ask.Release place) r) = none_more b.gates
takes_more i b (event.Fds directory_ask.Claim (directory_reply.Claimed fd number)) = numbered_is (λ x. IsMore b.gates x.gates) b b.phase fd (none_more b.gates) (λ o. none_more b.gates)
takes_more i b (event.Fds directory_ask.Claim directory_reply.Full) = none_more b.gates
takes_more i b (event.Fds directory_ask.Claim directory_reply.Released) = none_more b.gates
takes_more i b (event.Fd fd q stream_reply.Opened) = opened_is (λ x. IsMore b.gates x.gates) b b.phase fd (none_more b.gates) (λ o. none_more b.gates)
takes_more i b (event.Fd fd q (stream_reply.Given bytes)) = none_more b.gates
takes_more i b (event.Fd fd q stream_reply.Appended) = none_more b.gates
takes_more i b (event.Fd fd q stream_reply.Closed) = none_more b.gates
takes_more i b (event.Fd fd q stream_reply.NoSuch) = none_more b.gates
takes_more i b (event.Fd fd q (stream_reply.Denied wants)) = none_more b.gates
takes_more i b (event.Fd fd q stream_reply.Bad) = none_more b.gates
takes_more i b (event.Lives lives_ask.Claim lives_reply.Claimed) = none_more b.gates
takes_more i b (event.Lives lives_ask.Claim lives_reply.Full) = none_more b.gates
takes_more i b (event.Lives lives_ask.Claim lives_reply.Released) = none_more b.gates
takes_more i b (event.Lives (lives_ask.Release e) r) = none_more b.gates
takes_more i b (event.Join k e fuel) = joined_is (λ x. IsMore b.gates x.gates) (record b { fuel = b.fuel + fuel; unjoined = without_child b.unjoined k }) b.phase e (none_more b.gates) (none_more b.gates)
takes_more i b (event.Enter run) = entered_is (λ x. IsMore b.gates x.gates) b b.phase (none_more b.gates) (λ x. none_more b.gates)
takes_more i b (event.Gate id (gate_ask.Enter run first) (gate_reply.Entered memory)) = entered_is (λ x. IsMore b.gates x.gates) b b.phase (none_more b.gates) (λ x. none_more b.gates)
takes_more i b e = none_more b.gates

-- ---- a gate that is about to be entered

-- no event leaves an actor so
enters_after : (e : Event) (x : Entrance) → Leaves e (phase.Entering x) → ⊥
enters_after (event.Slots directory_ask.Claim (directory_reply.Claimed place number)) x h = absurd cc
enters_after (event.Slots directory_ask.Claim directory_reply.Full) x h = h
enters_after (event.Slots directory_ask.Claim directory_reply.Released) x h = h
enters_after (event.Slots (directory_ask.Release place) r) x h = h
enters_after (event.Fds directory_ask.Claim (directory_reply.Claimed fd number)) x h = h
enters_after (event.Fds directory_ask.Claim directory_reply.Full) x h = h
enters_after (event.Fds directory_ask.Claim directory_reply.Released) x h = h
enters_after (event.Fds (directory_ask.Release place) r) x h = h
enters_after (event.Slot slot q slot_reply.Closed) x h = absurd cc
enters_after (event.Slot slot q (slot_reply.Snapped pages)) x h = h
enters_after (event.Slot slot q slot_reply.Gone) x h = h
enters_after (event.Slot slot q r) x h = h
enters_after (event.Fd fd q r) x h = h
enters_after (event.Lives lives_ask.Claim lives_reply.Claimed) x h = h
enters_after (event.Lives lives_ask.Claim lives_reply.Full) x h = h
enters_after (event.Lives lives_ask.Claim lives_reply.Released) x h = h
enters_after (event.Lives (lives_ask.Release e) r) x h = h
enters_after (event.Start child) x h = h
enters_after (event.Join k e fuel) x h = h
enters_after (event.Enter run) x h = h
enters_after (event.Leave e) x h = h
enters_after (event.Gate id (gate_ask.Enter run first) (gate_reply.Entered memory)) x h = h
enters_after (event.Gate id (gate_ask.Enter run first) gate_reply.Left) x h = h
enters_after (event.Gate id (gate_ask.Leave e memory) r) x h = h

enters_not : (i : Image) (b : ActorState) (e : Event) (x : Entrance) → (takes i b e).phase ≡ phase.Entering x → ⊥
enters_not i b e x is = enters_after e x (subst (Leaves e) is (takes_between i b e))

-- the gate is among those that the actor knows, under some identity
pub record IsKnown (gates : List Gate) (g : Gate) : Type 0 where
  pub id : GateId
  pub named : gate_named gates id ≡ Some g

held_known : (gates : List Gate) (o : Option GateId) (g : Gate) → option_and_then (gate_named gates) o ≡ Some g → IsKnown gates g
held_known gates None g e = absurd cc
held_known gates (Some id) g e = record { id = id; named = e }

rest_known : (i : Image) (a : ActorState) (x : Entrance) → (rest i a).phase ≡ phase.Entering x → (a.phase ≡ phase.Entering x → IsKnown a.gates x.gate) → IsKnown (rest i a).gates x.gate
rest_known i a x is was = by_running (is_running a.phase) refl
  where
    by_running : (t : Bool) → is_running a.phase ≡ t → IsKnown (rest i a).gates x.gate
    by_running true e =
        let reads : ReadsAs i a a.phase = subst (ReadsAs i a) (sym (running_is a.phase e)) tt in
        let may : IsEnterable (rest i a) x = subst (ReadsAs i (rest i a)) is (rest_reads i a reads) in
        held_known (rest i a).gates _ x.gate may.held
    by_running false e =
        let same = rest-stays i a e in
        subst (λ (y : ActorState). IsKnown y.gates x.gate) (sym same) (was (ap (λ (y : ActorState). y.phase) (sym same) ∙ is))

pub entered_known : (i : Image) (r : ActorProgress) (created : List CreatedActor) → r.began.phase ≡ phase.Running → IsProgress i r created
    → (x : Entrance) → r.state.phase ≡ phase.Entering x → IsKnown r.state.gates x.gate
entered_known i r created running (begun a low new ks is none) x enters =
    let state_is : r.state ≡ r.began = ap (λ (y : ActorProgress). y.state) is ∙ sym (ap (λ (y : ActorProgress). y.began) is) in
    let f : phase.Running ≡ phase.Entering x = sym running ∙ (ap (λ (y : ActorState). y.phase) (sym state_is) ∙ enters) in
    absurd cc
entered_known i r created running (rests old new ks c is) x enters =
    let began_is : r.began ≡ old.began = ap (λ (y : ActorProgress). y.began) is in
    let state_is : r.state ≡ rest i old.state = ap (λ (y : ActorProgress). y.state) is in
    subst (λ (y : ActorState). IsKnown y.gates x.gate) (sym state_is)
    (rest_known i old.state x (ap (λ (y : ActorState). y.phase) (sym state_is) ∙ enters) (entered_known i old ks (ap (λ (y : ActorState). y.phase) (sym began_is) ∙ running) c x))
entered_known i r created running (does old new ks e c own stamped none lone is) x enters =
    absurd (enters_not i old.state e.event x (ap (λ (y : ActorProgress). y.state.phase) (sym is) ∙ enters))
entered_known i r created running (starts old new ks more k e c own stamped begins_so next enough stamp unlearned is grown) x enters =
    absurd (enters_not i old.state e.event x (ap (λ (y : ActorProgress). y.state.phase) (sym is) ∙ enters))
entered_known i r created running (learns way ks more index k t c at learned within grown) x enters = entered_known i way ks running c x enters
entered_known i r created running (joins old new ks e index k t c own at learned listed event_is stamp_is is) x enters =
    absurd (enters_not i old.state e.event x (ap (λ (y : ActorProgress). y.state.phase) (sym is) ∙ enters))
entered_known i r created running (resumes old new ks index k t c was at learned listed le is) x enters =
    let b = record old.state { fuel = old.state.fuel + t.fuel; unjoined = without_child old.state.unjoined (index + 1) } in
    let now_ : (has_joined old.state (index + 1) t.how t.fuel).phase ≡ phase.Entering x = ap (λ (y : ActorProgress). y.state.phase) (sym is) ∙ enters in
    let back : (answered_end b (phase.Waiting (index + 1)) t.how).phase ≡ phase.Entering x = subst (λ p. (answered_end b p t.how).phase ≡ phase.Entering x) was now_ in
    absurd cc

pub joined_more : (a : ActorState) (k : ℕ) (t : ActorEnd) → IsMore a.gates (has_joined a k t.how t.fuel).gates
joined_more a k t = joined_is (λ x. IsMore a.gates x.gates) (record a { fuel = a.fuel + t.fuel; unjoined = without_child a.unjoined k }) a.phase t.how (none_more a.gates) (none_more a.gates)
