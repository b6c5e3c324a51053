-- An actor that waits for the run of a gate has created that run at its last stamp; and clocks never fall.
use Rattle.std.proofs.Common.{◌≡◌, ℕ, zero, suc, ◌+◌, ◌≤◌, Bool, true, false, List, [], ◌∷◌, ◌++◌, length, refl, sym, ap, subst, ◌∙◌, arith}
use Rattle.std.proofs.lemmas.Bool.Decides.{nat_tests}
use Rattle.std.specs.Prelude.{Option, Some, None, slice_get, slice_set, nat_lt, if◌then◌else◌}
use Rattle.journal_cell.specs.Histories.{greater}
use Rattle.cow_pages.specs.PrivateMemory.{PrivateMemory}
use Rattle.wedge_base.specs.Images.{Image}
use Rattle.wedge_events.specs.declared.cells.DirectoryAsk.TheVariants as directory_ask
use Rattle.wedge_events.specs.declared.cells.DirectoryReply.TheVariants as directory_reply
use Rattle.wedge_events.specs.declared.cells.GateAsk.TheVariants as gate_ask
use Rattle.wedge_events.specs.declared.cells.GateReply.TheVariants as gate_reply
use Rattle.wedge_events.specs.declared.cells.LivesAsk.TheVariants as lives_ask
use Rattle.wedge_events.specs.declared.cells.LivesReply.TheVariants as lives_reply
use Rattle.wedge_events.specs.declared.cells.SlotReply.TheVariants as slot_reply
use Rattle.wedge_events.specs.declared.events.Event.{Event}
use Rattle.wedge_events.specs.declared.events.Event.TheVariants as event
use Rattle.machine.specs.declared.phase.Phase.{Phase}
use Rattle.machine.specs.declared.phase.Phase.TheVariants as phase
use Rattle.machine.specs.Actors.{ActorState}
use Rattle.machine.specs.Children.{without_child}
use Rattle.machine.specs.Take.{next_start, takes, has_joined, has_entered, actor_begun, run_at, answered_end}
use Rattle.machine.proofs.Resting.{rest-uncalm}
use Rattle.run_laws.proofs.Between.{Leaves, takes_between}
use Rattle.thread_laws.specs.declared.gathered.ActorEnd.{ActorEnd}
use Rattle.thread_laws.specs.ActorProgresses.{ActorProgress, CreatedActor, IsProgress, begun, rests, does, starts, learns, joins, resumes}
use Rattle.thread_laws.specs.Executions.{name_begun}
use Rattle.thread_laws.proofs.Families.{progress_knows}

-- ---- clocks

above_own : (a b s : ℕ) → s ≡ greater a b + 1 → a ≤ s
above_own a b s = by_order (nat_lt a b) refl
  where
    by_order : (t : Bool) → nat_lt a b ≡ t → s ≡ (if t then b else a) + 1 → a ≤ s
    by_order true order is = grind (arith, nat_tests, order, is)
    by_order false order is = omega (arith, is)

pub clocks_rise : (i : Image) (r : ActorProgress) (created : List CreatedActor) → IsProgress i r created → r.low ≤ r.clock
clocks_rise i r created (begun a low new ks is none) = subst (λ (x : ActorProgress). x.low ≤ x.clock) (sym is) (omega arith)
clocks_rise i r created (rests old new ks c is) = subst (λ (x : ActorProgress). x.low ≤ x.clock) (sym is) (clocks_rise i old ks c)
clocks_rise i r created (does old new ks e c own stamped none lone is) =
    let h = clocks_rise i old ks c in
    let above = own.above in
    subst (λ (x : ActorProgress). x.low ≤ x.clock) (sym is) (omega (arith, h, above))
clocks_rise i r created (starts old new ks more k e c own stamped begins_so next enough stamp unlearned is grown) =
    let h = clocks_rise i old ks c in
    let above = own.above in
    subst (λ (x : ActorProgress). x.low ≤ x.clock) (sym is) (omega (arith, h, above))
clocks_rise i r created (learns way ks more index k t c at learned within grown) = clocks_rise i way ks c
clocks_rise i r created (joins old new ks e index k t c own at learned listed event_is stamp_is is) =
    let h = clocks_rise i old ks c in
    let above = own.above in
    subst (λ (x : ActorProgress). x.low ≤ x.clock) (sym is) (omega (arith, h, above))
clocks_rise i r created (resumes old new ks index k t c waits at learned listed le is) =
    let h = clocks_rise i old ks c in
    subst (λ (x : ActorProgress). x.low ≤ x.clock) (sym is) (omega (arith, h, le))

-- ---- which events leave an actor waiting

abbrev MayAwait : Event → Type 0
MayAwait (event.Enter run) = Unit {0}
MayAwait (event.Gate id (gate_ask.Enter run first) (gate_reply.Entered memory)) = Unit {0}
MayAwait e = ⊥

awaits_after : (e : Event) (n : ℕ) → Leaves e (phase.Waiting n) → MayAwait e
awaits_after (event.Slots directory_ask.Claim (directory_reply.Claimed place number)) n h = absurd cc
awaits_after (event.Slots directory_ask.Claim directory_reply.Full) n h = absurd h
awaits_after (event.Slots directory_ask.Claim directory_reply.Released) n h = absurd h
awaits_after (event.Slots (directory_ask.Release place) r) n h = absurd h
awaits_after (event.Fds directory_ask.Claim (directory_reply.Claimed fd number)) n h = absurd h
awaits_after (event.Fds directory_ask.Claim directory_reply.Full) n h = absurd h
awaits_after (event.Fds directory_ask.Claim directory_reply.Released) n h = absurd h
awaits_after (event.Fds (directory_ask.Release place) r) n h = absurd h
awaits_after (event.Slot slot q slot_reply.Closed) n h = absurd cc
awaits_after (event.Slot slot q (slot_reply.Snapped pages)) n h = absurd h
awaits_after (event.Slot slot q slot_reply.Gone) n h = absurd h
awaits_after (event.Slot slot q r) n h = absurd h
awaits_after (event.Fd fd q r) n h = absurd h
awaits_after (event.Lives lives_ask.Claim lives_reply.Claimed) n h = absurd h
awaits_after (event.Lives lives_ask.Claim lives_reply.Full) n h = absurd h
awaits_after (event.Lives lives_ask.Claim lives_reply.Released) n h = absurd h
awaits_after (event.Lives (lives_ask.Release e) r) n h = absurd h
awaits_after (event.Start child) n h = absurd h
awaits_after (event.Join k e fuel) n h = absurd h
awaits_after (event.Enter run) n h = tt
awaits_after (event.Leave e) n h = absurd h
awaits_after (event.Gate id (gate_ask.Enter run first) (gate_reply.Entered memory)) n h = tt
awaits_after (event.Gate id (gate_ask.Enter run first) gate_reply.Left) n h = absurd h
awaits_after (event.Gate id (gate_ask.Leave e memory) r) n h = absurd h

awaits_of : (i : Image) (b : ActorState) (e : Event) (n : ℕ) → (takes i b e).phase ≡ phase.Waiting n → MayAwait e
awaits_of i b e n is = awaits_after e n (subst (Leaves e) is (takes_between i b e))

names_one : (e : Event) → MayAwait e → name_begun e ≡ None → ⊥
names_one (event.Enter run) h none = absurd cc
names_one (event.Gate id (gate_ask.Enter run first) (gate_reply.Entered memory)) h none = absurd cc
names_one e h none = absurd h

-- ---- the run for which an actor waits

-- one of those that an actor created has this number, and was created at the actor's clock
pub record IsAwaited (r : ActorProgress) (created : List CreatedActor) (number : ℕ) : Type 0 where
  pub index : ℕ
  pub number_ : number ≡ index + 1
  pub one : CreatedActor
  pub there : slice_get created index ≡ Some one
  pub stamp_ : one.stamp ≡ r.clock

entered_waits : (b : ActorState) (run : List ℕ) (kept : Option PrivateMemory) (p : Phase) (c : ActorState) → run_at b run kept p ≡ Some c → (has_entered b p).phase ≡ phase.Waiting (next_start b)
entered_waits b run kept (phase.Entering x) c is = refl
entered_waits b run kept p c is = absurd cc

begins_waiting : (i : Image) (b : ActorState) (e : Event) (c : ActorState) → actor_begun i b e ≡ Some c → MayAwait e → (takes i b e).phase ≡ phase.Waiting (next_start b)
unfolding takes
begins_waiting i b (event.Enter run) c is h = entered_waits b run None b.phase c is
begins_waiting i b (event.Gate id (gate_ask.Enter run first) (gate_reply.Entered memory)) c is h = entered_waits b run (Some memory) b.phase c is
begins_waiting i b e c is h = absurd h

there_last : (ks : List CreatedActor) (k : CreatedActor) → slice_get (ks ++ k ∷ []) (length ks) ≡ Some k
there_last [] k = refl
there_last (x ∷ ks) k = there_last ks k

there_set : (ks : List CreatedActor) (m n : ℕ) (k x : CreatedActor) (t : ActorEnd) → slice_get ks m ≡ Some k → slice_get ks n ≡ Some x → (y : CreatedActor) × (slice_get (slice_set ks m (record k { learned = Some t })) n ≡ Some y) × (y.stamp ≡ x.stamp)
there_set [] m n k x t at e = absurd cc
there_set (z ∷ ks) zero zero k x t at e = let one : z ≡ k = cc in let two : z ≡ x = cc in (record k { learned = Some t }, refl, ap (λ (y : CreatedActor). y.stamp) (sym one ∙ two))
there_set (z ∷ ks) zero (suc n) k x t at e = (x, e, refl)
there_set (z ∷ ks) (suc m) zero k x t at e = (x, e, refl)
there_set (z ∷ ks) (suc m) (suc n) k x t at e = there_set ks m n k x t at e

-- an actor that began with no start, and running, waits only for a run that it created at its last stamp
pub awaited : (i : Image) (r : ActorProgress) (created : List CreatedActor) → r.began.starts ≡ 0 → r.began.phase ≡ phase.Running → IsProgress i r created
    → (n : ℕ) → r.state.phase ≡ phase.Waiting n → IsAwaited r created n
awaited i r created fresh running (begun a low new ks is none) n waits =
    let state_is : r.state ≡ r.began = ap (λ (x : ActorProgress). x.state) is ∙ sym (ap (λ (x : ActorProgress). x.began) is) in
    let f : phase.Running ≡ phase.Waiting n = sym running ∙ (ap (λ (x : ActorState). x.phase) (sym state_is) ∙ waits) in
    absurd cc
awaited i r created fresh running (rests old new ks c is) n waits =
    let began_is : r.began ≡ old.began = ap (λ (x : ActorProgress). x.began) is in
    let was = rest-uncalm i old.state (phase.Waiting n) (λ h. h) (ap (λ (x : ActorProgress). x.state.phase) (sym is) ∙ waits) in
    let h = awaited i old ks (ap (λ (x : ActorState). x.starts) (sym began_is) ∙ fresh) (ap (λ (x : ActorState). x.phase) (sym began_is) ∙ running) c n was in
    record { index = h.index; number_ = h.number_; one = h.one; there = h.there; stamp_ = h.stamp_ ∙ ap (λ (x : ActorProgress). x.clock) (sym is) }
awaited i r created fresh running (does old new ks e c own stamped none lone is) n waits =
    absurd (names_one e.event (awaits_of i old.state e.event n (ap (λ (x : ActorProgress). x.state.phase) (sym is) ∙ waits)) none)
awaited i r created fresh running (starts old new ks more k e c own stamped begins_so next enough stamp unlearned is grown) n waits =
    let began_is : r.began ≡ old.began = ap (λ (x : ActorProgress). x.began) is in
    let count = (progress_knows i old ks c).starts_ in
    let zero_ : old.began.starts ≡ 0 = ap (λ (x : ActorState). x.starts) (sym began_is) ∙ fresh in
    let now_ : (takes i old.state e.event).phase ≡ phase.Waiting n = ap (λ (x : ActorProgress). x.state.phase) (sym is) ∙ waits in
    let number : phase.Waiting (next_start old.state) ≡ phase.Waiting n = sym (begins_waiting i old.state e.event k.began begins_so (awaits_of i old.state e.event n now_)) ∙ now_ in
    let same : next_start old.state ≡ n = cc in
    record {
      index = length ks;
      number_ = omega (arith, same, count, zero_);
      one = k;
      there = ap (λ xs. slice_get xs (length ks)) grown ∙ there_last ks k;
      stamp_ = stamp ∙ ap (λ (x : ActorProgress). x.clock) (sym is);
    }
awaited i r created fresh running (learns way ks more index k t c at learned within grown) n waits =
    let h = awaited i way ks fresh running c n waits in
    let y = there_set ks index h.index k h.one t at h.there in
    record { index = h.index; number_ = h.number_; one = y.0; there = ap (λ xs. slice_get xs h.index) grown ∙ y.1; stamp_ = y.2 ∙ h.stamp_ }
awaited i r created fresh running (joins old new ks e index k t c own at learned listed event_is stamp_is is) n waits =
    absurd (subst MayAwait event_is (awaits_of i old.state e.event n (ap (λ (x : ActorProgress). x.state.phase) (sym is) ∙ waits)))
awaited i r created fresh running (resumes old new ks index k t c was at learned listed le is) n waits =
    let b = record old.state { fuel = old.state.fuel + t.fuel; unjoined = without_child old.state.unjoined (index + 1) } in
    let now_ : (has_joined old.state (index + 1) t.how t.fuel).phase ≡ phase.Waiting n = ap (λ (x : ActorProgress). x.state.phase) (sym is) ∙ waits in
    let back : (answered_end b (phase.Waiting (index + 1)) t.how).phase ≡ phase.Waiting n = subst (λ p. (answered_end b p t.how).phase ≡ phase.Waiting n) was now_ in
    absurd cc
