-- Each moment of a run: each request is mediated, and each end has its cause.
use Rattle.std.proofs.Common.{length, ◌≡◌, ◌+◌, ℕ, zero, suc, Bool, true, false, List, [], ◌∷◌, refl, sym, ap, subst, ◌∙◌, inl, inr}
use Rattle.wedge_events.specs.Lives.{most_lives, lives_next}
use Rattle.std.specs.Prelude.{Option, Some, None, nat_lt, IsSomeAnd, option_map, not, ◌+◌, slice_get, slice_set, slice_range, option_and_then, if◌then◌else◌, ◌++◌}
use Rattle.cow_pages.specs.PrivateMemory.{PrivateMemory}
use Rattle.run_laws.proofs.GateRuns.{IsEntry, fresh_entry, recycled_entry, entered_actors}
use Rattle.wedge_base.specs.declared.grants.GateId.{GateId}
use Rattle.wedge_events.specs.declared.cells.GateReply.TheVariants as gate_reply
use Rattle.wedge_events.specs.declared.cells.GateAsk.TheVariants as gate_ask
use Rattle.wedge_base.specs.Bytes.{number_of}
use Rattle.wedge_base.specs.Images.{Image, fetch}
use Rattle.wedge_events.specs.Slots.{Segment, slot_reply as slot_reply_of, slot_after}
use Rattle.wedge_base.specs.declared.rights.Denial.{Denial}
use Rattle.wedge_base.specs.declared.rights.Denial.TheVariants as denial
use Rattle.wedge_base.specs.declared.rights.End.TheVariants as end_
use Rattle.wedge_base.specs.declared.rights.Code.TheVariants as code
use Rattle.wedge_base.specs.declared.rights.Right.TheVariants as right
use Rattle.wedge_events.specs.declared.events.SlotWant.TheVariants as slot_want
use Rattle.wedge_events.specs.declared.events.Want.{Want}
use Rattle.wedge_events.specs.declared.events.Want.TheVariants as want
use Rattle.wedge_events.specs.declared.events.Event.{Event}
use Rattle.wedge_events.specs.declared.events.Event.TheVariants as event
use Rattle.wedge_events.specs.declared.events.Turn.{Turn}
use Rattle.wedge_events.specs.Directories.{Directory, Claim, claim, claim_reply}
use Rattle.wedge_events.specs.declared.cells.DirectoryAsk.TheVariants as directory_ask
use Rattle.wedge_events.specs.declared.cells.DirectoryReply.TheVariants as directory_reply
use Rattle.wedge_events.specs.declared.cells.Live.{Live}
use Rattle.wedge_events.specs.declared.cells.LivesAsk.TheVariants as lives_ask
use Rattle.wedge_events.specs.declared.cells.LivesReply.TheVariants as lives_reply
use Rattle.wedge_base.specs.declared.rights.End.{End}
use Rattle.wedge_base.specs.Sheets.{Draft, first_excess}
use Rattle.wedge_events.specs.declared.cells.SlotAsk.{SlotAsk}
use Rattle.wedge_events.specs.declared.cells.SlotAsk.TheVariants as slot_ask
use Rattle.wedge_events.specs.declared.cells.SlotReply.{SlotReply}
use Rattle.wedge_events.specs.declared.cells.SlotReply.TheVariants as slot_reply
use Rattle.wedge_events.specs.declared.cells.StreamAsk.{StreamAsk}
use Rattle.wedge_events.specs.declared.cells.StreamAsk.TheVariants as stream_ask
use Rattle.wedge_events.specs.declared.cells.StreamReply.{StreamReply}
use Rattle.wedge_events.specs.declared.cells.StreamReply.TheVariants as reply
use Rattle.rv_isa.specs.declared.Instr.{Instr}
use Rattle.rv_isa.specs.Table.{decode}
use Rattle.rv_hart.specs.declared.Need.{Need}
use Rattle.rv_hart.specs.declared.Need.TheVariants as need
use Rattle.rv_hart.specs.Local.{local, put, extended}
use Rattle.machine.specs.declared.phase.Phase.{Phase}
use Rattle.machine.specs.declared.phase.Phase.TheVariants as phase
use Rattle.machine.specs.Actors.{ActorState, ends, refuses}
use Rattle.machine.specs.Calls.{a0, draft_at}
use Rattle.machine.specs.Accesses.{has_stored}
use Rattle.machine.specs.Local.{step, rest, has_ended, is_running, run_local}
use Rattle.machine.specs.Children.{child_name, without_child}
use Rattle.cow_pages.specs.Listed.{bytes_listed}
use Rattle.run_laws.specs.ChildCopies.{NotPreparing, PreparesBy}
use Rattle.machine.specs.Preparation.{Preparation}
use Rattle.run_laws.proofs.Preparing.{step_unprepared, event_prepares}
use Rattle.machine.specs.Take.{next_start, pair, runs, loads_by, loads_at, has_snapped, answered_end, has_started, takes_lives, takes, child_of, actor_begun, copied_on, has_entered, run_by, current_want, wanted_at}
use Rattle.machine.specs.Cells.{Cells, held, slot_in, stream_in, cells_after}
use Rattle.machine.specs.Worlds.{WorldState, initial_state, actor_named, put_actor, with_begun, turn_of, Runs, with_actor, ready, resumed}
use Rattle.run_laws.specs.Requests.{Access, Request, Loads, Stores, Reads, Appends, Closes, Opens, Creates, Deletes, Allots, Frees, request_at, in_tag, Makes, Enters}
use Rattle.run_laws.specs.Allowed.{may_use, lacks, is_refused, next_word, IsDone, denied, comes_to, HasBegunGate, IsAboutToEnter}
use Rattle.run_laws.specs.Moments.{EachMoment, EachInstructionOf, TurnHas, is_use, slot_used, NothingDenied, IsChecked, ComesToEvent, IsMet, IsAnswered, Misses, MeetsWith, AnswersAt, GoesOnAs, EachMomentOf}
use Rattle.run_laws.specs.Ends.{GoesTo, is_end_event, end_of, end_at, end_by, reply_end}
use Rattle.run_laws.specs.Refusals.{full, RefusesIn, RefusesAfter, slot_refuses, is_refusal, refused}
use Rattle.run_laws.specs.Remembering.{WordRemembers, EventRemembers}
use Rattle.run_laws.specs.TagCalls.{MakesAt}
use Rattle.run_laws.specs.Laws.{IsLawful, MomentsAreLawful, InstructionsAreLawful}
use Rattle.run_laws.proofs.Checking.{kept, put_there, checked_denied, checked_allowed, after, stayed, same_slots, pair_on, slot_world}
use Rattle.run_laws.proofs.AllowedOpening.{event_opens}
use Rattle.run_laws.proofs.Asking.{step_comes_with, event_asks}
use Rattle.run_laws.proofs.TagMoments.{claim_unused, close_answered, place_answered, free_answered, opened_denials, released_denials, claim_slot_next, close_next, place_next, free_next, opened_next, released_next, slots_told, claim_slot_refused, close_refused, place_refused, free_refused, claim_slot_passed, close_passed, place_passed, free_passed, want_makes, open_makes, release_makes}
use Rattle.run_laws.proofs.StreamMoments.{stream_answered, stream_next, stream_refused, stream_passed}
use Rattle.run_laws.proofs.FileMoments.{number_denials, file_denials, number_end, file_end, number_next, file_next, number_refuses, file_refuses, claims_number, opens_file}
use Rattle.run_laws.proofs.Named.{found_name, put_put, named_begun, begun_noted}
use Rattle.run_laws.proofs.Keeping.{step_remembers, event_remembers}
use Rattle.run_laws.proofs.Settling.{AllReady, turn_happens, turn_ready, opening_ready}
use Rattle.run_laws.proofs.Meeting.{phase_for, request_for, refusal_for, IsRequest, IsStartable, IsCheckedNow, MetBy, InstrLoads, NeedLoads, LoadsAt, stuck, step_comes, DoneNow}
use Rattle.run_laws.specs.Paying.{cost_at, cost_by, given_by, brought_by}
use Rattle.run_laws.proofs.Paying.{step_pays, event_pays}
use Rattle.run_laws.specs.Drafting.{drafts_after}
use Rattle.run_laws.proofs.DraftAnswers.{step_answers}
use Rattle.run_laws.proofs.Snapping.{event_copies}
use Rattle.run_laws.proofs.DraftEdits.{step_edits, event_edits}
use Rattle.run_laws.proofs.Going.{IsNext, step_goes}
use Rattle.machine.proofs.Resting.{steps_step, stays, goes_on, running_is, rest-stops, rest-stays}
use Rattle.run_laws.proofs.Between.{event_for, IsJoin, joined_is, opened_is, snapped_is, takes_name, loaded_runs, made_is, entered_is, entered_by, TurnParts}
use Rattle.run_laws.proofs.Happening.{Happens, snap_cases, Requested, Joined, Snaps, GateSnaps, Started, Opens as OpensTag, Releases, Numbers, OpensFile, LastJoined, Ended, joined_at, EntersGate, LeavesGate, EntersRecycled, LeavesRecycled}
use Rattle.run_laws.proofs.Families.{step_family, event_family, ended_so}
use Rattle.run_laws.specs.GateCalls.{InstrMakesGates, EventMakesGates}
use Rattle.run_laws.proofs.GateMoments.{step_makes_gates, event_makes_gates}
use Rattle.run_laws.proofs.MakingGates.{longer}
use Rattle.run_laws.proofs.TagSlots.{made_slot, used_slot, at_slot, of_slot}
use Rattle.machine.specs.Entrance.{Entrance}
use Rattle.run_laws.specs.Families.{after_join}
use Rattle.run_laws.proofs.Turns.{Readies, Stays, Back, readies, turn_from}

-- ---- an instruction

-- a request that is checked at once
checked_now : (w : WorldState) (b p x a : ActorState) (r : Request) → actor_named w.actors b.name ≡ Some a → p.name ≡ b.name → p.denials ≡ b.denials → x.name ≡ b.name → p.phase ≡ phase.Running
    → ((o : Option ActorState) → IsDone p r None o → o ≡ Some (record p { phase = phase_for p r })) → (lacks p r ≡ None → (o : Option ActorState) → o ≡ Some (record p { phase = phase_for p r }) → IsDone p r None o)
    → (phase_for p r ≡ phase.Running → ⊥) → ((y : Denial) → (denied p r y).phase ≡ phase.Running) → ((y : Denial) → (denied p r y).name ≡ p.name) → (DoneNow p r x → x ≡ record p { phase = phase_for p r }) → IsCheckedNow p r x
    → IsChecked (with_actor w b) p r None (with_actor w x)
checked_now w b p x a r named pn pd xn run from to moves runs_on same_name out now = by_denial (lacks p r) refl (is_refused p r) refl
  where
    found : actor_named (put_actor w.actors x) p.name ≡ Some x
    found = subst (λ m. actor_named (put_actor w.actors x) m ≡ Some x) (sym pn) (put_there w b x a named xn)

    put_again_at : (y : ActorState) → y.name ≡ b.name → x ≡ y → with_actor w x ≡ with_actor (with_actor w b) y
    put_again_at y yn is = ap (with_actor w) is ∙ ap (λ (as_ : List ActorState). record w { actors = as_ }) (sym (put_put w.actors b y yn))

    not_within : x.phase ≡ phase.Running → Some x ≡ Some (record p { phase = phase_for p r }) → ⊥
    not_within runs e = let same : x ≡ record p { phase = phase_for p r } = cc in moves (sym (sym runs ∙ ap (λ (y : ActorState). y.phase) same))

    denied_runs : (y : Denial) → x ≡ denied p r y → x.phase ≡ phase.Running
    denied_runs y is = ap (λ (z : ActorState). z.phase) is ∙ runs_on y

    by_denial : (o : Option Denial) → lacks p r ≡ o → (t : Bool) → is_refused p r ≡ t → IsChecked (with_actor w b) p r None (with_actor w x)
    by_denial (Some y) lack t refused =
        checked_denied (with_actor w b) p r None (with_actor w x) y lack (λ e. not_within (denied_runs y (now.denied y lack)) (sym found ∙ from _ e)) (put_again_at (denied p r y) (same_name y ∙ pn) (now.denied y lack))
    by_denial None lack false refused =
        let is = out (now.done lack refused) in
        checked_allowed (with_actor w b) p r None (with_actor w x) false lack refused (λ e. refl, λ e. to lack _ (found ∙ ap Some is)) (kept w w.cells b x xn (ap (λ (z : ActorState). z.denials) is ∙ pd)) (λ z. absurd cc)
    by_denial None lack true refused =
        let is = now.refused lack refused in
        checked_allowed (with_actor w b) p r None (with_actor w x) true lack refused (λ e. absurd (not_within is.0 (sym found ∙ from _ e)), λ e. absurd cc) (kept w w.cells b x xn (is.1 ∙ pd)) (λ z. refl)

-- the call that makes a gate
begun_quiet : (p x : ActorState) (d : Draft) → HasBegunGate p d x → x.denials ≡ p.denials
begun_quiet p x d (inl (g, of, is)) = ap (λ (y : ActorState). y.denials) is
begun_quiet p x d (inr (q, is)) = ap (λ (y : ActorState). y.denials) is

checked_make : (w : WorldState) (b p x a : ActorState) (d : Draft) → actor_named w.actors b.name ≡ Some a → p.name ≡ b.name → p.denials ≡ b.denials → x.name ≡ b.name → IsCheckedNow p (Makes d) x
    → IsChecked (with_actor w b) p (Makes d) None (with_actor w x)
checked_make w b p x a d named pn pd xn now = by_denial (first_excess p.sheet p.made d) refl
  where
    found : actor_named (put_actor w.actors x) p.name ≡ Some x
    found = subst (λ m. actor_named (put_actor w.actors x) m ≡ Some x) (sym pn) (put_there w b x a named xn)

    put_again_at : (y : ActorState) → y.name ≡ b.name → x ≡ y → with_actor w x ≡ with_actor (with_actor w b) y
    put_again_at y yn is = ap (with_actor w) is ∙ ap (λ (as_ : List ActorState). record w { actors = as_ }) (sym (put_put w.actors b y yn))

    undone : (y : Denial) → x ≡ denied p (Makes d) y → IsSomeAnd (actor_named (put_actor w.actors x) p.name) (HasBegunGate p d) → ⊥
    undone y is e =
        let begun_so : HasBegunGate p d x = subst (λ o. IsSomeAnd o (HasBegunGate p d)) found e in
        longer p.denials _ (sym (ap (λ (z : ActorState). z.denials) is) ∙ begun_quiet p x d begun_so)

    by_denial : (o : Option Denial) → first_excess p.sheet p.made d ≡ o → IsChecked (with_actor w b) p (Makes d) None (with_actor w x)
    by_denial (Some y) lack =
        checked_denied (with_actor w b) p (Makes d) None (with_actor w x) y lack (λ e. undone y (now.denied y lack) e.1) (put_again_at (denied p (Makes d) y) pn (now.denied y lack))
    by_denial None lack =
        let is = now.done lack refl in
        checked_allowed (with_actor w b) p (Makes d) None (with_actor w x) false lack refl (λ e. refl, λ e. (refl, subst (λ o. IsSomeAnd o (HasBegunGate p d)) (sym found) is)) (kept w w.cells b x xn (begun_quiet p x d is ∙ pd)) (λ z. absurd cc)

-- the call that enters a gate
about_quiet : (p x : ActorState) (entry : ℕ) (lent : Option Draft) → IsAboutToEnter p entry lent x → (x.denials ≡ p.denials) × (x.phase ≡ phase.Running → ⊥)
about_quiet p x entry lent (entrance, held, sheet, is) = (ap (λ (y : ActorState). y.denials) is, λ runs. let f : phase.Entering entrance ≡ phase.Running = sym (ap (λ (y : ActorState). y.phase) is) ∙ runs in absurd cc)

checked_enter : (w : WorldState) (b p x a : ActorState) (entry : ℕ) (lent : Option Draft) → actor_named w.actors b.name ≡ Some a → p.name ≡ b.name → p.denials ≡ b.denials → x.name ≡ b.name → IsCheckedNow p (Enters entry lent) x
    → IsChecked (with_actor w b) p (Enters entry lent) None (with_actor w x)
checked_enter w b p x a entry lent named pn pd xn now = by_denial (lacks p r) refl (is_refused p r) refl
  where
    r : Request
    r = Enters entry lent

    found : actor_named (put_actor w.actors x) p.name ≡ Some x
    found = subst (λ m. actor_named (put_actor w.actors x) m ≡ Some x) (sym pn) (put_there w b x a named xn)

    put_again_at : (y : ActorState) → y.name ≡ b.name → x ≡ y → with_actor w x ≡ with_actor (with_actor w b) y
    put_again_at y yn is = ap (with_actor w) is ∙ ap (λ (as_ : List ActorState). record w { actors = as_ }) (sym (put_put w.actors b y yn))

    not_about : x.phase ≡ phase.Running → IsSomeAnd (actor_named (put_actor w.actors x) p.name) (IsAboutToEnter p entry lent) → ⊥
    not_about runs e = (about_quiet p x entry lent (subst (λ o. IsSomeAnd o (IsAboutToEnter p entry lent)) found e)).1 runs

    by_denial : (o : Option Denial) → lacks p r ≡ o → (t : Bool) → is_refused p r ≡ t → IsChecked (with_actor w b) p r None (with_actor w x)
    by_denial (Some y) lack t refused =
        checked_denied (with_actor w b) p r None (with_actor w x) y lack (λ e. not_about (ap (λ (z : ActorState). z.phase) (now.denied y lack)) e.1) (put_again_at (denied p r y) pn (now.denied y lack))
    by_denial None lack false refused =
        let is = now.done lack refused in
        checked_allowed (with_actor w b) p r None (with_actor w x) false lack refused (λ e. refl, λ e. (refl, subst (λ o. IsSomeAnd o (IsAboutToEnter p entry lent)) (sym found) is)) (kept w w.cells b x xn ((about_quiet p x entry lent is).0 ∙ pd)) (λ z. absurd cc)
    by_denial None lack true refused =
        let is = now.refused lack refused in
        checked_allowed (with_actor w b) p r None (with_actor w x) true lack refused (λ e. absurd (not_about is.0 e.1), λ e. absurd cc) (kept w w.cells b x xn (is.1 ∙ pd)) (λ z. refl)

comes_there : (w : WorldState) (b p x : ActorState) → p.name ≡ b.name → (q : Want) × (x ≡ record p { phase = phase.Within q }) → ComesToEvent (with_actor w b) p (with_actor w x)
comes_there w b p x pn q = (q.0, ap (with_actor w) q.1 ∙ ap (λ (as_ : List ActorState). record w { actors = as_ }) (sym (put_put w.actors b (record p { phase = phase.Within q.0 }) pn)))

pub none_lacking : (t : Bool) (d : Denial) → (if t then None else Some d) ≡ None → t ≡ true
none_lacking true d lack = refl
none_lacking false d lack = absurd cc

met_by : (w : WorldState) (b p x a : ActorState) (r : Request) → actor_named w.actors b.name ≡ Some a → p.name ≡ b.name → p.denials ≡ b.denials → x.name ≡ b.name → p.phase ≡ phase.Running → MetBy p r x → IsMet (with_actor w b) p (Some r) (with_actor w x)
met_by w b p x a (Loads y rd s) named pn pd xn run m = comes_there w b p x pn m
met_by w b p x a (Stores y value) named pn pd xn run m = comes_there w b p x pn m
met_by w b p x a (Reads fd s n) named pn pd xn run m = comes_there w b p x pn m
met_by w b p x a (Appends fd s bytes) named pn pd xn run m = comes_there w b p x pn m
met_by w b p x a (Closes fd s) named pn pd xn run m = comes_there w b p x pn m
met_by w b p x a (Opens path f c) named pn pd xn run m = checked_now w b p x a (Opens path f c) named pn pd xn run (λ o e. e.1) (λ lack o e. (refl, e)) (λ e. absurd cc) (λ y. refl) (λ y. refl) (λ e. e) m
met_by w b p x a (Creates d) named pn pd xn run m = checked_now w b p x a (Creates d) named pn pd xn run (λ o e. e.1) (λ lack o e. (refl, e)) (λ e. absurd cc) (λ y. refl) (λ y. refl) (λ e. e) m
met_by w b p x a (Makes d) named pn pd xn run m = checked_make w b p x a d named pn pd xn m
met_by w b p x a (Enters entry lent) named pn pd xn run m = checked_enter w b p x a entry lent named pn pd xn m
met_by w b p x a (Deletes tag) named pn pd xn run m = checked_now w b p x a (Deletes tag) named pn pd xn run
    (λ o e. of_slot (λ slot. o ≡ comes_to p (want.Slot slot (slot_want.Close tag))) _ e.1)
    (λ lack o e. (refl, at_slot (λ slot. o ≡ comes_to p (want.Slot slot (slot_want.Close tag))) _ _ (made_slot p tag (none_lacking _ (denial.NotMaker tag) lack)) e))
    (λ e. absurd cc) (λ y. refl) (λ y. refl) (λ e. e) m
met_by w b p x a (Allots tag size) named pn pd xn run m = checked_now w b p x a (Allots tag size) named pn pd xn run
    (λ o e. of_slot (λ slot. o ≡ comes_to p (want.Slot slot (slot_want.Smalloc tag size))) _ e.1)
    (λ lack o e. (refl, at_slot (λ slot. o ≡ comes_to p (want.Slot slot (slot_want.Smalloc tag size))) _ _ (used_slot p tag (none_lacking _ (denial.Tag tag right.ReadWrite) lack)) e))
    (λ e. absurd cc) (λ y. refl) (λ y. refl) (λ e. e) m
met_by w b p x a (Frees q g) named pn pd xn run m = comes_there w b p x pn m

met_as : (w : WorldState) (b p x a : ActorState) (o : Option Request) → actor_named w.actors b.name ≡ Some a → p.name ≡ b.name → p.denials ≡ b.denials → x.name ≡ b.name → p.phase ≡ phase.Running
    → (o ≡ None → x.denials ≡ p.denials) → ((r : Request) → o ≡ Some r → MetBy p r x) → IsMet (with_actor w b) p o (with_actor w x)
met_as w b p x a None named pn pd xn run quiet m = kept w w.cells b x xn (quiet refl ∙ pd)
met_as w b p x a (Some r) named pn pd xn run quiet m = met_by w b p x a r named pn pd xn run (m r refl)

met : (w : WorldState) (b a : ActorState) (n : ℕ) → actor_named w.actors b.name ≡ Some a → b.fuel ≡ n → b.phase ≡ phase.Running → MeetsWith (with_actor w b) b n (with_actor w (step w.image b))
met w b a zero named has run = let s = stuck w.image b has in subst (λ x. NothingDenied (with_actor w b) (with_actor w x)) (sym s.1) (kept w w.cells b (ends b s.0) refl refl)
met w b a (suc n) named has run =
    let p = record b { fuel = n } in
    let s = step_comes w.image b n run has in
    met_as w b p (step w.image b) a (request_at w.image w.cells p) named refl refl s.name run (s.quiet w.cells) (s.met w.cells)

-- the end of an instruction
step_end : (i : Image) (b : ActorState) (n : ℕ) → b.fuel ≡ n → b.phase ≡ phase.Running → end_of (step i b).phase ≡ end_at i b
step_end i b zero has run = let s = stuck i b has in ap (λ (x : ActorState). end_of x.phase) s.1 ∙ sym s.2
step_end i b (suc n) has run = (step_comes i b n run has).ends

-- so many instructions, and one more
run_name : (i : Image) (n : ℕ) (a : ActorState) (t : Bool) → is_running a.phase ≡ t → (run_local i n a).name ≡ a.name
run_name i n a false e = ap (λ (x : ActorState). x.name) (stays i n a e)
run_name i zero a true e = unfold run_local in refl
run_name i (suc n) a true e = ap (λ (x : ActorState). x.name) (goes_on i n a e) ∙ (run_name i n (step i a) _ refl ∙ (steps_step i a).name)

pub one_more : (i : Image) (n : ℕ) (a : ActorState) (t : Bool) → is_running a.phase ≡ t → is_running (run_local i n a).phase ≡ true → run_local i (suc n) a ≡ step i (run_local i n a)
one_more i n a false e runs = let f : true ≡ false = sym runs ∙ (ap (λ (x : ActorState). is_running x.phase) (stays i n a e) ∙ e) in absurd cc
one_more i zero a true e runs = goes_on i zero a e ∙ unfold run_local in refl
one_more i (suc n) a true e runs =
    let here = goes_on i n a e in
    goes_on i (suc n) a e ∙ (one_more i n (step i a) _ refl (subst (λ (x : ActorState). is_running x.phase ≡ true) here runs) ∙ ap (step i) (sym here))

-- an actor that runs no more stays as it is
no_more : (i : Image) (n : ℕ) (a : ActorState) (t : Bool) → is_running a.phase ≡ t → is_running (run_local i n a).phase ≡ false → run_local i (suc n) a ≡ run_local i n a
no_more i n a false e over = stays i (suc n) a e ∙ sym (stays i n a e)
no_more i zero a true e over = let f : true ≡ false = sym e ∙ unfold run_local in over in absurd cc
no_more i (suc n) a true e over =
    let later : is_running (run_local i n (step i a)).phase ≡ false = ap (λ (x : ActorState). is_running x.phase) (sym (goes_on i n a e)) ∙ over in
    goes_on i (suc n) a e ∙ (no_more i n (step i a) _ refl later ∙ sym (goes_on i n a e))

-- ---- an event

-- a load that has its value keeps the name and the denials
loaded_keeps : (ins : Instr) (n : Need) (a : ActorState) (value : ℕ) → ((loads_by ins n a value).name ≡ a.name) × ((loads_by ins n a value).denials ≡ a.denials)
loaded_keeps ins need.Done a value = (refl, refl)
loaded_keeps ins (need.Load address width s) a value = (refl, refl)
loaded_keeps ins (need.Store address width v) a value = (refl, refl)
loaded_keeps ins need.Call a value = (refl, refl)
loaded_keeps ins need.Break a value = (refl, refl)
loaded_keeps ins need.JumpMisaligned a value = (refl, refl)

loads_keep : (a : ActorState) (ins : Option Instr) (value : ℕ) → ((loads_at a ins value).name ≡ a.name) × ((loads_at a ins value).denials ≡ a.denials)
loads_keep a None value = (refl, refl)
loads_keep a (Some ins) value = loaded_keeps ins (local ins a.hart).need a value

-- an access inside the bytes of the tag that lives in the slot
abbrev access : ℕ → ℕ → ℕ → Segment → Access
access slot offset width g = record { place = record { slot = slot; offset = offset }; width = width; living = g }

-- the actor that a load leaves
abbrev loaded_as : ActorState → ℕ → ℕ → Bool → ℕ → ActorState
loaded_as b width rd s value = record b { hart = record { pc = next_word b; regs = put b.hart.regs rd (extended width s value) }; phase = phase.Running }

loads_as : (b : ActorState) (ins : Option Instr) (width rd : ℕ) (s : Bool) (value : ℕ) → InstrLoads b.hart ins rd s width → loads_at (runs b) ins value ≡ loaded_as b width rd s value
loads_as b None width rd s value h = absurd h
loads_as b (Some ins) width rd s value h = by_need (local ins b.hart).need h
  where
    by_need : (n : Need) → NeedLoads ins.rd n rd s width → loads_by ins n (runs b) value ≡ loaded_as b width rd s value
    by_need need.Done h = absurd h
    by_need (need.Load address w t) h = ap (λ r. loaded_as b w r t value) h.0 ∙ (ap (λ u. loaded_as b w rd u value) h.1 ∙ ap (λ v. loaded_as b v rd s value) h.2)
    by_need (need.Store address w v) h = absurd h
    by_need need.Call h = absurd h
    by_need need.Break h = absurd h
    by_need need.JumpMisaligned h = absurd h

-- a load, inside the bytes of the tag or not, with the right or without
load_checked : (w : WorldState) (b a : ActorState) (slot offset width rd : ℕ) (s : Bool) (value : ℕ) (g : Segment) (t : Bool) → actor_named w.actors b.name ≡ Some a → LoadsAt w.image b.hart rd s width
    → slot_in w.cells slot ≡ Some g → value ≡ number_of (slice_range g.bytes offset (offset + width)) → may_use b g.tag right.Read ≡ t
    → IsChecked (with_actor w b) b (Loads (access slot offset width g) rd s) (Some (event.Slot slot (slot_ask.Load width offset (pair_on b g)) (if t then slot_reply.Loaded value else slot_reply.Denied g.tag right.Read)))
    (slot_world w b slot (Some g) (slot_ask.Load width offset (pair_on b g)) (if t then slot_reply.Loaded value else slot_reply.Denied g.tag right.Read))
unfolding takes
load_checked w b a slot offset width rd s value g false named loads there is held =
    checked_denied _ b (Loads (access slot offset width g) rd s) _ _ (denial.Tag g.tag right.Read) (ap (λ u. if u then None else Some (denial.Tag g.tag right.Read)) held) (λ e. let f = e.0 in absurd cc) (stayed w b _ _ (same_slots w slot (Some g) there) refl)
load_checked w b a slot offset width rd s value g true named loads there is held =
    let as_ = loads_as b (option_and_then decode (fetch w.image b.hart.pc)) width rd s value loads in
    let x = loads_at (runs b) (option_and_then decode (fetch w.image b.hart.pc)) value in
    let name : x.name ≡ b.name = ap (λ (y : ActorState). y.name) as_ in
    checked_allowed _ b (Loads (access slot offset width g) rd s) _ _ false (ap (λ u. if u then None else Some (denial.Tag g.tag right.Read)) held) refl
    (λ e. refl, λ e. (ap (λ v. Some (event.Slot slot (slot_ask.Load width offset (pair_on b g)) (slot_reply.Loaded v))) is, put_there w b x a named name ∙ ap Some (as_ ∙ ap (loaded_as b width rd s) is)))
    (kept w (record w.cells { slots = slice_set w.cells.slots slot (Some g) }) b x name (ap (λ (y : ActorState). y.denials) as_))
    (λ z. absurd cc)

load_inside : (w : WorldState) (b a : ActorState) (slot offset width rd : ℕ) (s : Bool) (g : Segment) (u : Bool) → actor_named w.actors b.name ≡ Some a → LoadsAt w.image b.hart rd s width → slot_in w.cells slot ≡ Some g
    → IsAnswered (with_actor w b) b (event.Slot slot (slot_ask.Load width offset (pair_on b g)) (if not u then slot_reply.Unmapped else if may_use b g.tag right.Read then slot_reply.Loaded (number_of (slice_range g.bytes offset (offset + width))) else slot_reply.Denied g.tag right.Read))
    (if u then Some (Loads (access slot offset width g) rd s) else None)
    (slot_world w b slot (Some g) (slot_ask.Load width offset (pair_on b g)) (if not u then slot_reply.Unmapped else if may_use b g.tag right.Read then slot_reply.Loaded (number_of (slice_range g.bytes offset (offset + width))) else slot_reply.Denied g.tag right.Read))
unfolding takes
load_inside w b a slot offset width rd s g false named loads there = (kept w (record w.cells { slots = slice_set w.cells.slots slot (Some g) }) b (ends b end_.Unmapped) refl refl, refl)
load_inside w b a slot offset width rd s g true named loads there = load_checked w b a slot offset width rd s _ g _ named loads there refl refl

load_answered : (w : WorldState) (b a : ActorState) (slot offset width rd : ℕ) (s : Bool) (g : Option Segment) → actor_named w.actors b.name ≡ Some a → LoadsAt w.image b.hart rd s width → slot_in w.cells slot ≡ g
    → IsAnswered (with_actor w b) b (event.Slot slot (slot_ask.Load width offset (pair b (option_map (λ x. x.tag) g))) (slot_reply_of g (slot_ask.Load width offset (pair b (option_map (λ x. x.tag) g)))))
    (in_tag (λ x. Loads x rd s) (record { slot = slot; offset = offset }) width g)
    (slot_world w b slot g (slot_ask.Load width offset (pair b (option_map (λ x. x.tag) g))) (slot_reply_of g (slot_ask.Load width offset (pair b (option_map (λ x. x.tag) g)))))
unfolding takes
load_answered w b a slot offset width rd s None named loads there = (kept w (record w.cells { slots = slice_set w.cells.slots slot None }) b (ends b end_.Unmapped) refl refl, refl)
load_answered w b a slot offset width rd s (Some g) named loads there = load_inside w b a slot offset width rd s g _ named loads there

-- a store
store_checked : (w : WorldState) (b a : ActorState) (slot offset width value : ℕ) (g : Segment) (t : Bool) → actor_named w.actors b.name ≡ Some a → slot_in w.cells slot ≡ Some g → may_use b g.tag right.ReadWrite ≡ t
    → IsChecked (with_actor w b) b (Stores (access slot offset width g) value) (Some (event.Slot slot (slot_ask.Store width offset value (pair_on b g)) (if t then slot_reply.Stored else slot_reply.Denied g.tag right.ReadWrite)))
    (slot_world w b slot (Some g) (slot_ask.Store width offset value (pair_on b g)) (if t then slot_reply.Stored else slot_reply.Denied g.tag right.ReadWrite))
unfolding takes
store_checked w b a slot offset width value g false named there held =
    checked_denied _ b (Stores (access slot offset width g) value) _ _ (denial.Tag g.tag right.ReadWrite) (ap (λ u. if u then None else Some (denial.Tag g.tag right.ReadWrite)) held) (λ e. let f = e.0 in absurd cc) (stayed w b _ _ (same_slots w slot (Some g) there) refl)
store_checked w b a slot offset width value g true named there held =
    checked_allowed _ b (Stores (access slot offset width g) value) _ _ false (ap (λ u. if u then None else Some (denial.Tag g.tag right.ReadWrite)) held) refl (λ e. refl, λ e. (refl, put_there w b (has_stored (runs b)) a named refl))
    (kept w (record w.cells { slots = slice_set w.cells.slots slot (slot_after (Some g) (slot_ask.Store width offset value (pair_on b g)) slot_reply.Stored) }) b (has_stored (runs b)) refl refl)
    (λ z. absurd cc)

store_inside : (w : WorldState) (b a : ActorState) (slot offset width value : ℕ) (g : Segment) (u : Bool) → actor_named w.actors b.name ≡ Some a → slot_in w.cells slot ≡ Some g
    → IsAnswered (with_actor w b) b (event.Slot slot (slot_ask.Store width offset value (pair_on b g)) (if not u then slot_reply.Unmapped else if may_use b g.tag right.ReadWrite then slot_reply.Stored else slot_reply.Denied g.tag right.ReadWrite))
    (if u then Some (Stores (access slot offset width g) value) else None)
    (slot_world w b slot (Some g) (slot_ask.Store width offset value (pair_on b g)) (if not u then slot_reply.Unmapped else if may_use b g.tag right.ReadWrite then slot_reply.Stored else slot_reply.Denied g.tag right.ReadWrite))
unfolding takes
store_inside w b a slot offset width value g false named there = (kept w (record w.cells { slots = slice_set w.cells.slots slot (Some g) }) b (ends b end_.Unmapped) refl refl, refl)
store_inside w b a slot offset width value g true named there = store_checked w b a slot offset width value g _ named there refl

store_answered : (w : WorldState) (b a : ActorState) (slot offset width value : ℕ) (g : Option Segment) → actor_named w.actors b.name ≡ Some a → slot_in w.cells slot ≡ g
    → IsAnswered (with_actor w b) b (event.Slot slot (slot_ask.Store width offset value (pair b (option_map (λ x. x.tag) g))) (slot_reply_of g (slot_ask.Store width offset value (pair b (option_map (λ x. x.tag) g)))))
    (in_tag (λ x. Stores x value) (record { slot = slot; offset = offset }) width g)
    (slot_world w b slot g (slot_ask.Store width offset value (pair b (option_map (λ x. x.tag) g))) (slot_reply_of g (slot_ask.Store width offset value (pair b (option_map (λ x. x.tag) g)))))
unfolding takes
store_answered w b a slot offset width value None named there = (kept w (record w.cells { slots = slice_set w.cells.slots slot None }) b (ends b end_.Unmapped) refl refl, refl)
store_answered w b a slot offset width value (Some g) named there = store_inside w b a slot offset width value g _ named there

-- what is wanted is answered as the request that it is
abbrev IsAnsweredFor : WorldState → ActorState → Want → Option Request → Type 0
IsAnsweredFor w b q o = IsAnswered (with_actor w b) b (event_for w.cells b q) o (after w b (event_for w.cells b q))

-- a life that is claimed, or none that is left: nothing is denied
claim_answered : (w : WorldState) (b : ActorState) (cells : Cells) (t : Bool) → NothingDenied (with_actor w b) (record w { cells = cells; actors = put_actor w.actors (takes_lives w.image b lives_ask.Claim (if t then lives_reply.Claimed else lives_reply.Full)) })
claim_answered w b cells true = kept w cells b _ refl refl
claim_answered w b cells false = kept w cells b _ refl refl

claimed_for : (w : WorldState) (b : ActorState) (o : Option Draft) → IsStartable b → slice_get b.drafts (a0 b) ≡ o → IsAnsweredFor w b (want.Lives lives_ask.Claim) (option_map (λ d. Creates d) o)
unfolding takes
claimed_for w b None ready there = let f : None ≡ Some ready.draft = sym there ∙ ready.drafted in absurd cc
claimed_for w b (Some d) ready there = (claim_answered w b (record w.cells { lives = lives_next w.cells.lives lives_ask.Claim }) (nat_lt w.cells.lives most_lives), refl)

answered_for : (w : WorldState) (b a : ActorState) (rd : ℕ) (s : Bool) (q : Want) → actor_named w.actors b.name ≡ Some a → IsRequest (LoadsAt w.image b.hart rd s) b q → IsAnsweredFor w b q (request_for w.cells b rd s q)
answered_for w b a rd s (want.Slots directory_ask.Claim) named own = claim_unused w b (claim w.cells.places) w.cells.places
answered_for w b a rd s (want.Slot slot (slot_want.Close tag)) named own = close_answered w b a slot tag (slot_in w.cells slot) named refl (made_slot b tag own.0 ∙ ap Some (sym own.1))
answered_for w b a rd s (want.Slot slot (slot_want.Smalloc tag size)) named own = place_answered w b a slot tag size (slot_in w.cells slot) named refl (used_slot b tag own.0 ∙ ap Some (sym own.1))
answered_for w b a rd s (want.Slot slot (slot_want.Sfree offset)) named own = free_answered w b a slot offset (slot_in w.cells slot) named refl
answered_for w b a rd s (want.Slot slot (slot_want.Load offset width)) named own = load_answered w b a slot offset width rd s (slot_in w.cells slot) named own refl
answered_for w b a rd s (want.Slot slot (slot_want.Store offset width value)) named own = store_answered w b a slot offset width value (slot_in w.cells slot) named refl
answered_for w b a rd s (want.Fd fd q) named own = stream_answered w b a fd q named own
answered_for w b a rd s (want.Lives lives_ask.Claim) named own = claimed_for w b (slice_get b.drafts (a0 b)) own refl
answered_for w b a rd s q named own = absurd own

-- an access that reaches no bytes of a tag
misses_load : (w : WorldState) (b : ActorState) (slot offset width rd : ℕ) (s : Bool) (o : Option Live) (g : Option Segment) → slot_in w.cells slot ≡ g
    → Misses (with_actor w b) b (want.Slot slot (slot_want.Load offset width)) (event.Slot slot (slot_ask.Load width offset o) (slot_reply_of g (slot_ask.Load width offset o)))
    (in_tag (λ x. Loads x rd s) (record { slot = slot; offset = offset }) width g) (slot_world w b slot g (slot_ask.Load width offset o) (slot_reply_of g (slot_ask.Load width offset o)))
unfolding takes
misses_load w b slot offset width rd s o None there = record { asked = slot_ask.Load width offset o; is = refl; after = stayed w b (ends b end_.Unmapped) _ (same_slots w slot None there) refl }
misses_load w b slot offset width rd s o (Some g) there = by_bytes (nat_lt offset (length g.bytes)) _
  where
    by_bytes : (u : Bool) (r : SlotReply)
        → Misses (with_actor w b) b (want.Slot slot (slot_want.Load offset width)) (event.Slot slot (slot_ask.Load width offset o) (if not u then slot_reply.Unmapped else r))
        (if u then Some (Loads (access slot offset width g) rd s) else None) (slot_world w b slot (Some g) (slot_ask.Load width offset o) (if not u then slot_reply.Unmapped else r))
    by_bytes false r = record { asked = slot_ask.Load width offset o; is = refl; after = stayed w b (ends b end_.Unmapped) _ (same_slots w slot (Some g) there) refl }
    by_bytes true r = tt

misses_store : (w : WorldState) (b : ActorState) (slot offset width value : ℕ) (o : Option Live) (g : Option Segment) → slot_in w.cells slot ≡ g
    → Misses (with_actor w b) b (want.Slot slot (slot_want.Store offset width value)) (event.Slot slot (slot_ask.Store width offset value o) (slot_reply_of g (slot_ask.Store width offset value o)))
    (in_tag (λ x. Stores x value) (record { slot = slot; offset = offset }) width g) (slot_world w b slot g (slot_ask.Store width offset value o) (slot_reply_of g (slot_ask.Store width offset value o)))
unfolding takes
misses_store w b slot offset width value o None there = record { asked = slot_ask.Store width offset value o; is = refl; after = stayed w b (ends b end_.Unmapped) _ (same_slots w slot None there) refl }
misses_store w b slot offset width value o (Some g) there = by_bytes (nat_lt offset (length g.bytes)) _
  where
    by_bytes : (u : Bool) (r : SlotReply)
        → Misses (with_actor w b) b (want.Slot slot (slot_want.Store offset width value)) (event.Slot slot (slot_ask.Store width offset value o) (if not u then slot_reply.Unmapped else r))
        (if u then Some (Stores (access slot offset width g) value) else None) (slot_world w b slot (Some g) (slot_ask.Store width offset value o) (if not u then slot_reply.Unmapped else r))
    by_bytes false r = record { asked = slot_ask.Store width offset value o; is = refl; after = stayed w b (ends b end_.Unmapped) _ (same_slots w slot (Some g) there) refl }
    by_bytes true r = tt

abbrev MissesFor : WorldState → ActorState → Want → Option Request → Type 0
MissesFor w b q o = Misses (with_actor w b) b q (event_for w.cells b q) o (after w b (event_for w.cells b q))

misses_for : (w : WorldState) (b : ActorState) (N : ℕ → Type 0) (rd : ℕ) (s : Bool) (q : Want) → IsRequest N b q → MissesFor w b q (request_for w.cells b rd s q)
misses_for w b N rd s (want.Slots directory_ask.Claim) own = tt
misses_for w b N rd s (want.Slot slot (slot_want.Close tag)) own = tt
misses_for w b N rd s (want.Slot slot (slot_want.Smalloc tag size)) own = tt
misses_for w b N rd s (want.Slot slot (slot_want.Sfree offset)) own = tt
misses_for w b N rd s (want.Slot slot (slot_want.Load offset width)) own = misses_load w b slot offset width rd s _ (slot_in w.cells slot) refl
misses_for w b N rd s (want.Slot slot (slot_want.Store offset width value)) own = misses_store w b slot offset width value _ (slot_in w.cells slot) refl
misses_for w b N rd s (want.Fd fd q) own = tt
misses_for w b N rd s (want.Lives lives_ask.Claim) own = tt
misses_for w b N rd s q own = absurd own

-- an event of no request
unasked : (w : WorldState) (b : ActorState) (e : Event) → actor_begun w.image b e ≡ None → (takes w.image b e).denials ≡ b.denials → NothingDenied (with_actor w b) (after w b e)
unasked w b e none same =
    let x = takes w.image b e in
    subst (λ o. NothingDenied (with_actor w b) (record w { cells = cells_after w.cells e; actors = with_begun (put_actor w.actors x) o })) (sym none) (kept w (cells_after w.cells e) b x (takes_name w.image b e) same)

join_denials : (i : Image) (b : ActorState) (k : ℕ) (x : End) (fuel : ℕ) → (takes i b (event.Join k x fuel)).denials ≡ b.denials
unfolding takes
join_denials i b k x fuel = joined_is (λ y. y.denials ≡ b.denials) (record b { fuel = b.fuel + fuel; unjoined = without_child b.unjoined k }) b.phase x refl refl

join_unasked : (w : WorldState) (b : ActorState) (k : ℕ) (e : Event) → IsJoin w b k e → NothingDenied (with_actor w b) (after w b e) × (is_use e ≡ false)
join_unasked w b k e j =
    subst (λ y. NothingDenied (with_actor w b) (after w b y) × (is_use y ≡ false)) (sym j.is)
    (unasked w b (event.Join k j.how j.child.fuel) refl (join_denials w.image b k j.how j.child.fuel), refl)

start_unasked : (w : WorldState) (b : ActorState) (child : List ℕ) → NothingDenied (with_actor w b) (after w b (event.Start child))
unfolding takes
start_unasked w b child name = begun_noted (put_actor w.actors (has_started b)) (Some (child_of w.image b child)) name refl ∙ kept w w.cells b (has_started b) refl refl name

enter_unasked : (w : WorldState) (b : ActorState) (e : Event) → IsEntry w b e → NothingDenied (with_actor w b) (after w b e)
enter_unasked w b e y =
    let x = entered_by b y.entrance in
    let run = run_by b (child_name b.name (next_start b)) y.kept y.entrance in
    subst (λ as_. NothingDenied (with_actor w b) (record w { cells = cells_after w.cells e; actors = as_ })) (sym (entered_actors w w.actors b e y))
    (λ name. begun_noted (put_actor w.actors x) (Some run) name refl ∙ kept w (cells_after w.cells e) b x refl refl name)

snap_denials : (i : Image) (b : ActorState) (slot tag : ℕ) (g : Option Segment) → (takes i b (event.Slot slot (slot_ask.Snap tag) (slot_reply_of g (slot_ask.Snap tag)))).denials ≡ b.denials
unfolding takes
snap_denials i b slot tag g =
    snap_cases (λ r. (takes i b (event.Slot slot (slot_ask.Snap tag) r)).denials ≡ b.denials) g tag
    (λ pages. snapped_is (λ x. x.denials ≡ b.denials) b b.phase slot (Some (bytes_listed pages)) refl (λ x. refl) (λ x. refl) (λ g. refl)) (snapped_is (λ x. x.denials ≡ b.denials) b b.phase slot None refl (λ x. refl) (λ x. refl) (λ g. refl))

snap_unasked : (w : WorldState) (b : ActorState) (slot tag : ℕ) (g : Option Segment)
    → NothingDenied (with_actor w b) (after w b (event.Slot slot (slot_ask.Snap tag) (slot_reply_of g (slot_ask.Snap tag)))) × (is_use (event.Slot slot (slot_ask.Snap tag) (slot_reply_of g (slot_ask.Snap tag))) ≡ false)
snap_unasked w b slot tag g = (
  unasked w b (event.Slot slot (slot_ask.Snap tag) (slot_reply_of g (slot_ask.Snap tag))) refl (snap_denials w.image b slot tag g),
  snap_cases (λ r. slot_used r ≡ false) g tag (λ pages. refl) refl,
)

answered_at : (w : WorldState) (b a : ActorState) (e : Event) → actor_named w.actors b.name ≡ Some a → Happens w b e → AnswersAt (with_actor w b) b b.phase e (after w b e)
answered_at w b a e named (Requested r) =
    subst (λ ph. AnswersAt (with_actor w b) b ph e (after w b e)) (sym r.at)
    (subst (λ y. IsAnswered (with_actor w b) b y (request_at w.image w.cells b) (after w b y) × Misses (with_actor w b) b r.want y (request_at w.image w.cells b) (after w b y)) (sym r.is) (
      subst (IsAnsweredFor w b r.want) (sym (r.asked w.cells)) (answered_for w b a r.rd r.is_signed r.want named r.own),
      subst (MissesFor w b r.want) (sym (r.asked w.cells)) (misses_for w b _ r.rd r.is_signed r.want r.own),
    ))
answered_at w b a e named (Joined j) =
    subst (λ ph. AnswersAt (with_actor w b) b ph e (after w b e)) (sym j.at)
    (subst (λ o. IsAnswered (with_actor w b) b e o (after w b e)) (sym (j.asked w.cells)) (join_unasked w b j.number e j.join), tt)
answered_at w b a e named (Snaps s) =
    subst (λ ph. AnswersAt (with_actor w b) b ph e (after w b e)) (sym s.at)
    (subst (λ y. NothingDenied (with_actor w b) (after w b y) × (is_use y ≡ false)) (sym s.is) (snap_unasked w b s.grant.slot s.grant.tag (slot_in w.cells s.grant.slot)))
answered_at w b a e named (GateSnaps s) =
    subst (λ ph. AnswersAt (with_actor w b) b ph e (after w b e)) (sym s.at)
    (subst (λ y. NothingDenied (with_actor w b) (after w b y) × (is_use y ≡ false)) (sym s.is) (snap_unasked w b s.grant.slot s.grant.tag (slot_in w.cells s.grant.slot)))
answered_at w b a e named (Started s) =
    subst (λ ph. AnswersAt (with_actor w b) b ph e (after w b e)) (sym s.at)
    (subst (λ y. NothingDenied (with_actor w b) (after w b y) × (is_use y ≡ false)) (sym s.is) (start_unasked w b _, refl))
answered_at w b a e named (OpensTag o) =
    subst (λ ph. AnswersAt (with_actor w b) b ph e (after w b e)) (sym o.at)
    (subst (λ y. NothingDenied (with_actor w b) (after w b y) × (is_use y ≡ false)) (sym o.is) (unasked w b (event.Slot o.slot (slot_ask.Open o.tag (a0 b)) slot_reply.Opened) refl (opened_denials w.image b o.slot o.tag (a0 b)), refl))
answered_at w b a e named (Releases r) =
    subst (λ ph. AnswersAt (with_actor w b) b ph e (after w b e)) (sym r.at)
    (subst (λ y. NothingDenied (with_actor w b) (after w b y) × (is_use y ≡ false)) (sym r.is) (unasked w b (event.Slots (directory_ask.Release r.slot) directory_reply.Released) refl (released_denials w.image b r.slot), refl))
answered_at w b a e named (Numbers n) =
    subst (λ ph. AnswersAt (with_actor w b) b ph e (after w b e)) (sym n.at)
    (subst (λ y. NothingDenied (with_actor w b) (after w b y) × (is_use y ≡ false)) (sym n.is) (unasked w b (event.Fds directory_ask.Claim _) refl (number_denials w.image b directory_ask.Claim _), refl))
answered_at w b a e named (OpensFile f) =
    subst (λ ph. AnswersAt (with_actor w b) b ph e (after w b e)) (sym f.at)
    (subst (λ y. NothingDenied (with_actor w b) (after w b y) × (is_use y ≡ false)) (sym f.is) (unasked w b (event.Fd f.fd (stream_ask.Open f.opening.kind f.opening.bytes) reply.Opened) refl (file_denials w.image b f.fd _), refl))
answered_at w b a e named (LastJoined j) =
    subst (λ ph. AnswersAt (with_actor w b) b ph e (after w b e)) (sym j.at) (join_unasked w b j.first.0 e j.join)
answered_at w b a e named (EntersGate x) =
    subst (λ ph. AnswersAt (with_actor w b) b ph e (after w b e)) (sym x.at)
    (enter_unasked w b e (fresh_entry w b e x), ap is_use x.is)
answered_at w b a e named (EntersRecycled x) =
    subst (λ ph. AnswersAt (with_actor w b) b ph e (after w b e)) (sym x.at)
    (enter_unasked w b e (recycled_entry w b e x), ap is_use x.is)
answered_at w b a e named (LeavesRecycled l) =
    subst (λ ph. AnswersAt (with_actor w b) b ph e (after w b e)) (sym l.at)
    (subst (λ y. NothingDenied (with_actor w b) (after w b y) × (is_use y ≡ false)) (sym l.is) (unasked w b (event.Gate l.gate.id (gate_ask.Leave l.end_ b.memory) gate_reply.Left) refl (left_denials w.image b l.gate.id l.end_), refl))
  where
    left_denials : (i : Image) (b : ActorState) (id : GateId) (x : End) → (takes i b (event.Gate id (gate_ask.Leave x b.memory) gate_reply.Left)).denials ≡ b.denials
    left_denials i b id x = unfold takes in refl
answered_at w b a e named (LeavesGate l) =
    subst (λ ph. AnswersAt (with_actor w b) b ph e (after w b e)) (sym l.at)
    (subst (λ y. NothingDenied (with_actor w b) (after w b y) × (is_use y ≡ false)) (sym l.is) (unasked w b (event.Leave l.end_) refl (left_denials w.image b l.end_), refl))
  where
    left_denials : (i : Image) (b : ActorState) (x : End) → (takes i b (event.Leave x)).denials ≡ b.denials
    left_denials i b x = unfold takes in refl
answered_at w b a e named (Ended f) =
    subst (λ ph. AnswersAt (with_actor w b) b ph e (after w b e)) (sym f.at)
    (subst (λ y. NothingDenied (with_actor w b) (after w b y) × (is_use y ≡ false)) (sym f.is) (unasked w b (event.Lives (lives_ask.Release f.end_) lives_reply.Released) refl (end_denials w.image b f.end_), refl))
  where
    end_denials : (i : Image) (b : ActorState) (x : End) → (takes i b (event.Lives (lives_ask.Release x) lives_reply.Released)).denials ≡ b.denials
    end_denials i b x = unfold takes in refl

-- the end of an event
slot_end : (i : Image) (b : ActorState) (slot : ℕ) (q : SlotAsk) (r : SlotReply) → (end_of (takes i b (event.Slot slot q r)).phase ≡ reply_end q r) × ((takes i b (event.Slot slot q r)).name ≡ b.name)
unfolding takes
slot_end i b slot q (slot_reply.Loaded value) =
    let ins = option_and_then decode (fetch i b.hart.pc) in
    (ap end_of (loaded_runs (runs b) ins value refl), (loads_keep (runs b) ins value).0)
slot_end i b slot q (slot_reply.Snapped pages) = snapped_is (λ x. (end_of x.phase ≡ None) × (x.name ≡ b.name)) b b.phase slot (Some (bytes_listed pages)) (refl, refl) (λ x. (refl, refl)) (λ x. (refl, refl)) (λ g. (refl, refl))
slot_end i b slot q slot_reply.Gone = snapped_is (λ x. (end_of x.phase ≡ None) × (x.name ≡ b.name)) b b.phase slot None (refl, refl) (λ x. (refl, refl)) (λ x. (refl, refl)) (λ g. (refl, refl))
slot_end i b slot (slot_ask.Sfree offset live) (slot_reply.Denied tag wants) = (refl, refl)
slot_end i b slot (slot_ask.Open tag pages) slot_reply.Opened = (refl, refl)
slot_end i b slot q r = (refl, refl)

stream_end : (i : Image) (b : ActorState) (fd : ℕ) (q : StreamAsk) (r : StreamReply) → (end_of (takes i b (event.Fd fd q r)).phase ≡ None) × ((takes i b (event.Fd fd q r)).name ≡ b.name)
unfolding takes
stream_end i b fd q reply.Opened = opened_is (λ x. (end_of x.phase ≡ None) × (x.name ≡ b.name)) b b.phase fd (refl, refl) (λ o. (refl, refl))
stream_end i b fd q (reply.Given bytes) = (refl, refl)
stream_end i b fd q reply.Appended = (refl, refl)
stream_end i b fd q reply.Closed = (refl, refl)
stream_end i b fd q reply.NoSuch = (refl, refl)
stream_end i b fd q (reply.Denied wants) = (refl, refl)
stream_end i b fd q reply.Bad = (refl, refl)

-- the end to which the event of an actor comes
abbrev EndsBy : Image → ActorState → Phase → Event → Type 0
EndsBy i b p e = end_of (takes i b e).phase ≡ end_by p e

claim_end : (i : Image) (b : ActorState) (p : Phase) (t : Bool) → p ≡ phase.Within (want.Lives lives_ask.Claim) → EndsBy i b p (event.Lives lives_ask.Claim (if t then lives_reply.Claimed else lives_reply.Full))
unfolding takes
claim_end i b p true at = ap (λ q. end_by q (event.Lives lives_ask.Claim lives_reply.Claimed)) (sym at)
claim_end i b p false at = ap (λ q. end_by q (event.Lives lives_ask.Claim lives_reply.Full)) (sym at)

claim_slot_end : (i : Image) (b : ActorState) (o : Option Claim) (d : Directory) → EndsBy i b (phase.Within (want.Slots directory_ask.Claim)) (event.Slots directory_ask.Claim (claim_reply d o))
unfolding takes
claim_slot_end i b None d = refl
claim_slot_end i b (Some c) d = refl

want_end : (w : WorldState) (b : ActorState) (N : ℕ → Type 0) (q : Want) → IsRequest N b q → EndsBy w.image b (phase.Within q) (event_for w.cells b q)
want_end w b N (want.Slots directory_ask.Claim) own = claim_slot_end w.image b (claim w.cells.places) w.cells.places
want_end w b N (want.Slot slot (slot_want.Close tag)) own = (slot_end w.image b slot _ _).0
want_end w b N (want.Slot slot (slot_want.Smalloc tag size)) own = (slot_end w.image b slot _ _).0
want_end w b N (want.Slot slot (slot_want.Sfree offset)) own = (slot_end w.image b slot _ _).0
want_end w b N (want.Slot slot (slot_want.Load offset width)) own = (slot_end w.image b slot _ _).0
want_end w b N (want.Slot slot (slot_want.Store offset width value)) own = (slot_end w.image b slot _ _).0
want_end w b N (want.Fd fd q) own = (stream_end w.image b fd q _).0
want_end w b N (want.Lives lives_ask.Claim) own = claim_end w.image b _ _ refl
want_end w b N q own = absurd own

join_end : (i : Image) (b : ActorState) (p : Phase) (k : ℕ) (x : End) (fuel : ℕ) → b.phase ≡ p → has_ended p ≡ false → EndsBy i b p (event.Join k x fuel)
unfolding takes
join_end i b phase.Running k x fuel at live = ap (λ (y : ActorState). end_of y.phase) (joined_at b phase.Running x k fuel at)
join_end i b (phase.Within q) k x fuel at live = ap (λ (y : ActorState). end_of y.phase) (joined_at b (phase.Within q) x k fuel at)
join_end i b (phase.Starting pre) k x fuel at live = ap (λ (y : ActorState). end_of y.phase) (joined_at b (phase.Starting pre) x k fuel at)
join_end i b (phase.MakingGate pre) k x fuel at live = ap (λ (y : ActorState). end_of y.phase) (joined_at b (phase.MakingGate pre) x k fuel at)
join_end i b (phase.Opening slot tag) k x fuel at live = ap (λ (y : ActorState). end_of y.phase) (joined_at b (phase.Opening slot tag) x k fuel at)
join_end i b (phase.Releasing slot) k x fuel at live = ap (λ (y : ActorState). end_of y.phase) (joined_at b (phase.Releasing slot) x k fuel at)
join_end i b (phase.Entering entrance) k x fuel at live = ap (λ (y : ActorState). end_of y.phase) (joined_at b (phase.Entering entrance) x k fuel at)
join_end i b (phase.Waiting number) k x fuel at live = ap (λ (y : ActorState). end_of y.phase) (joined_at b (phase.Waiting number) x k fuel at)
join_end i b (phase.OpeningFile o) k x fuel at live = ap (λ (y : ActorState). end_of y.phase) (joined_at b (phase.OpeningFile o) x k fuel at)
join_end i b (phase.Ending y) k x fuel at live = ap (λ (z : ActorState). end_of z.phase) (joined_at b (phase.Ending y) x k fuel at) ∙ ap end_of at
join_end i b (phase.Ended y) k x fuel at live = absurd cc

start_end : (i : Image) (b : ActorState) (pre : Preparation) (child : List ℕ) → EndsBy i b (phase.Starting pre) (event.Start child)
start_end i b pre child = unfold takes in refl

snap_end : (i : Image) (b : ActorState) (pre : Preparation) (slot tag : ℕ) (r : SlotReply) → EndsBy i b (phase.Starting pre) (event.Slot slot (slot_ask.Snap tag) r)
snap_end i b pre slot tag r = (slot_end i b slot (slot_ask.Snap tag) r).0

gate_snap_end : (i : Image) (b : ActorState) (pre : Preparation) (slot tag : ℕ) (r : SlotReply) → EndsBy i b (phase.MakingGate pre) (event.Slot slot (slot_ask.Snap tag) r)
gate_snap_end i b pre slot tag r = (slot_end i b slot (slot_ask.Snap tag) r).0

released_end : (i : Image) (b : ActorState) (slot : ℕ) → EndsBy i b (phase.Releasing slot) (event.Slots (directory_ask.Release slot) directory_reply.Released)
released_end i b slot = unfold takes in refl

last_end : (i : Image) (b : ActorState) (x : End) → EndsBy i b (phase.Ending x) (event.Lives (lives_ask.Release x) lives_reply.Released)
last_end i b x = unfold takes in refl

enter_end : (i : Image) (b : ActorState) (x : Entrance) (run : List ℕ) → EndsBy i b (phase.Entering x) (event.Enter run)
unfolding takes
enter_end i b x run = entered_is (λ y. end_of y.phase ≡ None) b b.phase refl (λ y. refl)

leave_end : (i : Image) (b : ActorState) (x : End) → EndsBy i b (phase.Ending x) (event.Leave x)
leave_end i b x = unfold takes in refl

recycled_enter_end : (i : Image) (b : ActorState) (x : Entrance) (id : GateId) (run : List ℕ) (first m : PrivateMemory) → EndsBy i b (phase.Entering x) (event.Gate id (gate_ask.Enter run first) (gate_reply.Entered m))
unfolding takes
recycled_enter_end i b x id run first m = entered_is (λ y. end_of y.phase ≡ None) b b.phase refl (λ y. refl)

recycled_leave_end : (i : Image) (b : ActorState) (x : End) (id : GateId) (m : PrivateMemory) → EndsBy i b (phase.Ending x) (event.Gate id (gate_ask.Leave x m) gate_reply.Left)
recycled_leave_end i b x id m = unfold takes in refl

ends_by : (w : WorldState) (b : ActorState) (e : Event) → Happens w b e → EndsBy w.image b b.phase e
ends_by w b e (Requested r) = subst (λ p. EndsBy w.image b p e) (sym r.at) (subst (EndsBy w.image b (phase.Within r.want)) (sym r.is) (want_end w b _ r.want r.own))
ends_by w b e (Joined j) = subst (λ p. EndsBy w.image b p e) (sym j.at) (subst (EndsBy w.image b (phase.Within (want.Join j.number))) (sym j.join.is) (join_end w.image b _ j.number j.join.how j.join.child.fuel j.at refl))
ends_by w b e (Snaps s) = subst (λ p. EndsBy w.image b p e) (sym s.at) (subst (EndsBy w.image b (phase.Starting s.preparation)) (sym s.is) (snap_end w.image b s.preparation s.grant.slot s.grant.tag _))
ends_by w b e (GateSnaps s) = subst (λ p. EndsBy w.image b p e) (sym s.at) (subst (EndsBy w.image b (phase.MakingGate s.preparation)) (sym s.is) (gate_snap_end w.image b s.preparation s.grant.slot s.grant.tag _))
ends_by w b e (Started s) = subst (λ p. EndsBy w.image b p e) (sym s.at) (subst (EndsBy w.image b (phase.Starting s.preparation)) (sym s.is) (start_end w.image b s.preparation _))
ends_by w b e (OpensTag o) = subst (λ p. EndsBy w.image b p e) (sym o.at) (subst (EndsBy w.image b (phase.Opening o.slot o.tag)) (sym o.is) (slot_end w.image b o.slot (slot_ask.Open o.tag (a0 b)) slot_reply.Opened).0)
ends_by w b e (Releases r) = subst (λ p. EndsBy w.image b p e) (sym r.at) (subst (EndsBy w.image b (phase.Releasing r.slot)) (sym r.is) (released_end w.image b r.slot))
ends_by w b e (Numbers n) = subst (λ p. EndsBy w.image b p e) (sym n.at) (subst (EndsBy w.image b (phase.OpeningFile n.opening)) (sym n.is) (number_end w.image b directory_ask.Claim _).0)
ends_by w b e (OpensFile f) = subst (λ p. EndsBy w.image b p e) (sym f.at) (subst (EndsBy w.image b (phase.OpeningFile f.opening)) (sym f.is) (file_end w.image b f.fd _).0)
ends_by w b e (LastJoined j) = subst (λ p. EndsBy w.image b p e) (sym j.at) (subst (EndsBy w.image b (phase.Ending j.end_)) (sym j.join.is) (join_end w.image b _ j.first.0 j.join.how j.join.child.fuel j.at refl))
ends_by w b e (EntersGate x) = subst (λ p. EndsBy w.image b p e) (sym x.at) (subst (EndsBy w.image b (phase.Entering x.entrance)) (sym x.is) (enter_end w.image b x.entrance _))
ends_by w b e (LeavesGate l) = subst (λ p. EndsBy w.image b p e) (sym l.at) (subst (EndsBy w.image b (phase.Ending l.end_)) (sym l.is) (leave_end w.image b l.end_))
ends_by w b e (EntersRecycled x) = subst (λ p. EndsBy w.image b p e) (sym x.at) (subst (EndsBy w.image b (phase.Entering x.entrance)) (sym x.is) (recycled_enter_end w.image b x.entrance _ _ _ _))
ends_by w b e (LeavesRecycled l) = subst (λ p. EndsBy w.image b p e) (sym l.at) (subst (EndsBy w.image b (phase.Ending l.end_)) (sym l.is) (recycled_leave_end w.image b l.end_ _ _))
ends_by w b e (Ended f) = subst (λ p. EndsBy w.image b p e) (sym f.at) (subst (EndsBy w.image b (phase.Ending f.end_)) (sym f.is) (last_end w.image b f.end_))

-- the hart after an event
load_next : (i : Image) (b : ActorState) (slot offset width : ℕ) (o : Option Live) (g : Option Segment) (rd : ℕ) (s : Bool) → LoadsAt i b.hart rd s width → IsNext b.hart (takes i b (event.Slot slot (slot_ask.Load width offset o) (slot_reply_of g (slot_ask.Load width offset o))))
unfolding takes
load_next i b slot offset width o None rd s h = (λ e. absurd cc, λ e. refl)
load_next i b slot offset width o (Some g) rd s h = by_tests _ _
  where
    by_tests : (u t : Bool) → IsNext b.hart (takes i b (event.Slot slot (slot_ask.Load width offset o) (if not u then slot_reply.Unmapped else if t then slot_reply.Loaded (number_of (slice_range g.bytes offset (offset + width))) else slot_reply.Denied g.tag right.Read)))
    by_tests false t = (λ e. absurd cc, λ e. refl)
    by_tests true false = (λ e. absurd cc, λ e. refl)
    by_tests true true = subst (IsNext b.hart) (sym (loads_as b (option_and_then decode (fetch i b.hart.pc)) width rd s (number_of (slice_range g.bytes offset (offset + width))) h)) (λ e. refl, λ e. absurd cc)

store_next : (i : Image) (b : ActorState) (slot offset width value : ℕ) (o : Option Live) (g : Option Segment) → IsNext b.hart (takes i b (event.Slot slot (slot_ask.Store width offset value o) (slot_reply_of g (slot_ask.Store width offset value o))))
unfolding takes
store_next i b slot offset width value o None = (λ e. absurd cc, λ e. refl)
store_next i b slot offset width value o (Some g) = by_tests _ _
  where
    by_tests : (u t : Bool) → IsNext b.hart (takes i b (event.Slot slot (slot_ask.Store width offset value o) (if not u then slot_reply.Unmapped else if t then slot_reply.Stored else slot_reply.Denied g.tag right.ReadWrite)))
    by_tests false t = (λ e. absurd cc, λ e. refl)
    by_tests true false = (λ e. absurd cc, λ e. refl)
    by_tests true true = (λ e. refl, λ e. absurd cc)

claim_next : (i : Image) (b : ActorState) (t : Bool) → IsNext b.hart (takes i b (event.Lives lives_ask.Claim (if t then lives_reply.Claimed else lives_reply.Full)))
unfolding takes
claim_next i b true = (λ e. absurd cc, λ e. refl)
claim_next i b false = (λ e. refl, λ e. absurd cc)

want_next : (w : WorldState) (b : ActorState) (rd : ℕ) (s : Bool) (q : Want) → IsRequest (LoadsAt w.image b.hart rd s) b q → IsNext b.hart (takes w.image b (event_for w.cells b q))
want_next w b rd s (want.Slots directory_ask.Claim) own = claim_slot_next w.image b (claim w.cells.places) w.cells.places
want_next w b rd s (want.Slot slot (slot_want.Close tag)) own = close_next w.image b slot tag (slot_in w.cells slot)
want_next w b rd s (want.Slot slot (slot_want.Smalloc tag size)) own = place_next w.image b slot tag size (slot_in w.cells slot)
want_next w b rd s (want.Slot slot (slot_want.Sfree offset)) own = free_next w.image b slot offset _ (slot_in w.cells slot)
want_next w b rd s (want.Slot slot (slot_want.Load offset width)) own = load_next w.image b slot offset width _ (slot_in w.cells slot) rd s own
want_next w b rd s (want.Slot slot (slot_want.Store offset width value)) own = store_next w.image b slot offset width value _ (slot_in w.cells slot)
want_next w b rd s (want.Fd fd q) own = stream_next w.image b fd q (stream_in w.cells fd) own
want_next w b rd s (want.Lives lives_ask.Claim) own = claim_next w.image b _
want_next w b rd s q own = absurd own

join_next : (i : Image) (b : ActorState) (p : Phase) (k : ℕ) (x : End) (fuel : ℕ) → b.phase ≡ p → IsNext b.hart (takes i b (event.Join k x fuel))
unfolding takes
join_next i b phase.Running k x fuel at = subst (IsNext b.hart) (sym (joined_at b phase.Running x k fuel at)) (λ e. refl, λ e. absurd cc)
join_next i b (phase.Within q) k x fuel at = subst (IsNext b.hart) (sym (joined_at b (phase.Within q) x k fuel at)) (λ e. refl, λ e. absurd cc)
join_next i b (phase.Starting pre) k x fuel at = subst (IsNext b.hart) (sym (joined_at b (phase.Starting pre) x k fuel at)) (λ e. refl, λ e. absurd cc)
join_next i b (phase.MakingGate pre) k x fuel at = subst (IsNext b.hart) (sym (joined_at b (phase.MakingGate pre) x k fuel at)) (λ e. refl, λ e. absurd cc)
join_next i b (phase.Opening slot tag) k x fuel at = subst (IsNext b.hart) (sym (joined_at b (phase.Opening slot tag) x k fuel at)) (λ e. refl, λ e. absurd cc)
join_next i b (phase.Releasing slot) k x fuel at = subst (IsNext b.hart) (sym (joined_at b (phase.Releasing slot) x k fuel at)) (λ e. refl, λ e. absurd cc)
join_next i b (phase.Entering entrance) k x fuel at = subst (IsNext b.hart) (sym (joined_at b (phase.Entering entrance) x k fuel at)) (λ e. refl, λ e. absurd cc)
join_next i b (phase.Waiting number) k x fuel at = subst (IsNext b.hart) (sym (joined_at b (phase.Waiting number) x k fuel at)) (λ e. refl, λ e. absurd cc)
join_next i b (phase.OpeningFile o) k x fuel at = subst (IsNext b.hart) (sym (joined_at b (phase.OpeningFile o) x k fuel at)) (λ e. refl, λ e. absurd cc)
join_next i b (phase.Ending y) k x fuel at =
    subst (IsNext b.hart) (sym (joined_at b (phase.Ending y) x k fuel at)) (λ e. let f : false ≡ true = sym (ap is_running at) ∙ e in absurd cc, λ e. refl)
join_next i b (phase.Ended y) k x fuel at = subst (IsNext b.hart) (sym (joined_at b (phase.Ended y) x k fuel at)) (λ e. refl, λ e. absurd cc)

snap_next : (i : Image) (b : ActorState) (pre : Preparation) (slot tag : ℕ) (g : Option Segment) → b.phase ≡ phase.Starting pre → IsNext b.hart (takes i b (event.Slot slot (slot_ask.Snap tag) (slot_reply_of g (slot_ask.Snap tag))))
unfolding takes
snap_next i b pre slot tag g at = snap_cases (λ r. IsNext b.hart (takes i b (event.Slot slot (slot_ask.Snap tag) r))) g tag (λ pages. goes_on (Some (bytes_listed pages))) (goes_on None)
  where
    goes_on : (o : Option (List ℕ)) → IsNext b.hart (has_snapped b b.phase slot o)
    goes_on o = subst (λ p. IsNext b.hart (has_snapped b p slot o)) (sym at) (λ e. absurd cc, λ e. refl)

gate_snap_next : (i : Image) (b : ActorState) (pre : Preparation) (slot tag : ℕ) (g : Option Segment) → b.phase ≡ phase.MakingGate pre → IsNext b.hart (takes i b (event.Slot slot (slot_ask.Snap tag) (slot_reply_of g (slot_ask.Snap tag))))
unfolding takes
gate_snap_next i b pre slot tag g at = snap_cases (λ r. IsNext b.hart (takes i b (event.Slot slot (slot_ask.Snap tag) r))) g tag (λ pages. goes_on (Some (bytes_listed pages))) (goes_on None)
  where
    goes_on : (o : Option (List ℕ)) → IsNext b.hart (has_snapped b b.phase slot o)
    goes_on o = subst (λ p. IsNext b.hart (has_snapped b p slot o)) (sym at)
        (made_is (λ x. IsNext b.hart x) b (draft_at b.drafts (a0 b)) (copied_on b pre slot o) (λ x. (λ e. absurd cc, λ e. refl)) (λ g. (λ e. refl, λ e. absurd cc)))

start_next : (i : Image) (b : ActorState) (child : List ℕ) → IsNext b.hart (takes i b (event.Start child))
start_next i b child = unfold takes in (λ e. refl, λ e. absurd cc)

last_next : (i : Image) (b : ActorState) (x : End) → IsNext b.hart (takes i b (event.Lives (lives_ask.Release x) lives_reply.Released))
last_next i b x = unfold takes in (λ e. absurd cc, λ e. refl)

enter_next : (i : Image) (b : ActorState) (x : Entrance) (run : List ℕ) → b.phase ≡ phase.Entering x → IsNext b.hart (takes i b (event.Enter run))
unfolding takes
enter_next i b x run at = subst (λ p. IsNext b.hart (has_entered b p)) (sym at) (λ e. absurd cc, λ e. refl)

leave_next : (i : Image) (b : ActorState) (x : End) → IsNext b.hart (takes i b (event.Leave x))
leave_next i b x = unfold takes in (λ e. absurd cc, λ e. refl)

recycled_enter_next : (i : Image) (b : ActorState) (x : Entrance) (id : GateId) (run : List ℕ) (first m : PrivateMemory) → b.phase ≡ phase.Entering x → IsNext b.hart (takes i b (event.Gate id (gate_ask.Enter run first) (gate_reply.Entered m)))
unfolding takes
recycled_enter_next i b x id run first m at = subst (λ p. IsNext b.hart (has_entered b p)) (sym at) (λ e. absurd cc, λ e. refl)

recycled_leave_next : (i : Image) (b : ActorState) (x : End) (id : GateId) (m : PrivateMemory) → IsNext b.hart (takes i b (event.Gate id (gate_ask.Leave x m) gate_reply.Left))
recycled_leave_next i b x id m = unfold takes in (λ e. absurd cc, λ e. refl)

next_by : (w : WorldState) (b : ActorState) (e : Event) → Happens w b e → IsNext b.hart (takes w.image b e)
next_by w b e (Requested r) = subst (λ y. IsNext b.hart (takes w.image b y)) (sym r.is) (want_next w b r.rd r.is_signed r.want r.own)
next_by w b e (Joined j) = subst (λ y. IsNext b.hart (takes w.image b y)) (sym j.join.is) (join_next w.image b _ j.number j.join.how j.join.child.fuel j.at)
next_by w b e (Snaps s) = subst (λ y. IsNext b.hart (takes w.image b y)) (sym s.is) (snap_next w.image b s.preparation s.grant.slot s.grant.tag (slot_in w.cells s.grant.slot) s.at)
next_by w b e (GateSnaps s) = subst (λ y. IsNext b.hart (takes w.image b y)) (sym s.is) (gate_snap_next w.image b s.preparation s.grant.slot s.grant.tag (slot_in w.cells s.grant.slot) s.at)
next_by w b e (Started s) = subst (λ y. IsNext b.hart (takes w.image b y)) (sym s.is) (start_next w.image b _)
next_by w b e (OpensTag o) = subst (λ y. IsNext b.hart (takes w.image b y)) (sym o.is) (opened_next w.image b o.slot o.tag (a0 b))
next_by w b e (Releases r) = subst (λ y. IsNext b.hart (takes w.image b y)) (sym r.is) (released_next w.image b r.slot)
next_by w b e (Numbers n) = subst (λ y. IsNext b.hart (takes w.image b y)) (sym n.is) (number_next w.image b n.opening (claim w.cells.numbers) w.cells.numbers n.at)
next_by w b e (OpensFile f) = subst (λ y. IsNext b.hart (takes w.image b y)) (sym f.is) (file_next w.image b f.opening f.fd _ f.at)
next_by w b e (LastJoined j) = subst (λ y. IsNext b.hart (takes w.image b y)) (sym j.join.is) (join_next w.image b _ j.first.0 j.join.how j.join.child.fuel j.at)
next_by w b e (EntersGate x) = subst (λ y. IsNext b.hart (takes w.image b y)) (sym x.is) (enter_next w.image b x.entrance _ x.at)
next_by w b e (LeavesGate l) = subst (λ y. IsNext b.hart (takes w.image b y)) (sym l.is) (leave_next w.image b l.end_)
next_by w b e (EntersRecycled x) = subst (λ y. IsNext b.hart (takes w.image b y)) (sym x.is) (recycled_enter_next w.image b x.entrance _ _ _ _ x.at)
next_by w b e (LeavesRecycled l) = subst (λ y. IsNext b.hart (takes w.image b y)) (sym l.is) (recycled_leave_next w.image b l.end_ _ _)
next_by w b e (Ended f) = subst (λ y. IsNext b.hart (takes w.image b y)) (sym f.is) (last_next w.image b f.end_)

-- an end is reached by its event alone
joined_live : (a : ActorState) (p : Phase) (x : End) → a.phase ≡ p → has_ended (answered_end a p x).phase ≡ false
joined_live a phase.Running x at = refl
joined_live a (phase.Within q) x at = refl
joined_live a (phase.Starting pre) x at = refl
joined_live a (phase.MakingGate pre) x at = refl
joined_live a (phase.Opening slot tag) x at = refl
joined_live a (phase.Releasing slot) x at = refl
joined_live a (phase.Entering entrance) x at = refl
joined_live a (phase.Waiting number) x at = refl
joined_live a (phase.OpeningFile o) x at = refl
joined_live a (phase.Ending y) x at = ap has_ended at
joined_live a (phase.Ended y) x at = refl

pub reached : (i : Image) (b : ActorState) (e : Event) → has_ended (takes i b e).phase ≡ is_end_event (Some e)
unfolding takes
reached i b (event.Slot slot q (slot_reply.Loaded value)) = ap has_ended (loaded_runs (runs b) (option_and_then decode (fetch i b.hart.pc)) value refl)
reached i b (event.Slots (directory_ask.Release place) r) = refl
reached i b (event.Slots directory_ask.Claim (directory_reply.Claimed place number)) = refl
reached i b (event.Slots directory_ask.Claim directory_reply.Full) = refl
reached i b (event.Slots directory_ask.Claim directory_reply.Released) = refl
reached i b (event.Slot slot q (slot_reply.Snapped pages)) = snapped_is (λ x. has_ended x.phase ≡ false) b b.phase slot (Some (bytes_listed pages)) refl (λ x. refl) (λ x. refl) (λ g. refl)
reached i b (event.Slot slot q slot_reply.Gone) = snapped_is (λ x. has_ended x.phase ≡ false) b b.phase slot None refl (λ x. refl) (λ x. refl) (λ g. refl)
reached i b (event.Slot slot (slot_ask.Sfree offset live) (slot_reply.Denied tag wants)) = refl
reached i b (event.Slot slot (slot_ask.Open tag pages) slot_reply.Opened) = refl
reached i b (event.Slot slot q r) = refl
reached i b (event.Fds q r) = (number_end i b q r).1
reached i b (event.Fd fd q reply.Opened) = (file_end i b fd q).1
reached i b (event.Fd fd q (reply.Given bytes)) = refl
reached i b (event.Fd fd q reply.Appended) = refl
reached i b (event.Fd fd q reply.Closed) = refl
reached i b (event.Fd fd q reply.NoSuch) = refl
reached i b (event.Fd fd q (reply.Denied wants)) = refl
reached i b (event.Fd fd q reply.Bad) = refl
reached i b (event.Lives lives_ask.Claim lives_reply.Claimed) = refl
reached i b (event.Lives lives_ask.Claim lives_reply.Full) = refl
reached i b (event.Lives lives_ask.Claim lives_reply.Released) = refl
reached i b (event.Lives (lives_ask.Release x) r) = refl
reached i b (event.Join k x fuel) = joined_live (record b { fuel = b.fuel + fuel; unjoined = without_child b.unjoined k }) b.phase x refl
reached i b (event.Enter run) = entered_is (λ x. has_ended x.phase ≡ false) b b.phase refl (λ x. refl)
reached i b (event.Gate id (gate_ask.Enter run first) (gate_reply.Entered memory)) = entered_is (λ x. has_ended x.phase ≡ false) b b.phase refl (λ x. refl)
reached i b e = refl

-- ---- refusals

-- a call that is refused in its instruction
refuses_in : (w : WorldState) (b : ActorState) (n : ℕ) → b.fuel ≡ n → b.phase ≡ phase.Running → RefusesIn (with_actor w b) b n (with_actor w (step w.image b))
refuses_in w b zero has run = tt
refuses_in w b (suc n) has run = λ code told.
    let p = record b { fuel = n } in
    let is : step w.image b ≡ refused p code = (step_comes w.image b n run has).codes code told in
    ap (with_actor w) is ∙ ap (λ (as_ : List ActorState). record w { actors = as_ }) (sym (put_put w.actors b (refused p code) refl))

-- a life that is not left
claim_refused : (w : WorldState) (b : ActorState) (n : ℕ) (t : Bool) → (if t then None else Some 2) ≡ Some n
    → record w { cells = record w.cells { lives = (if t then w.cells.lives + 1 else w.cells.lives) }; actors = put_actor w.actors (takes_lives w.image b lives_ask.Claim (if t then lives_reply.Claimed else lives_reply.Full)) } ≡ with_actor (with_actor w b) (refused b n)
claim_refused w b n true told = absurd cc
claim_refused w b n false told =
    let same : 2 ≡ n = cc in
    subst (λ m. record w { actors = put_actor w.actors (refuses b code.Full) } ≡ with_actor (with_actor w b) (refused b m)) same (stayed w b (refuses b code.Full) w.cells refl refl)

refused_for : (w : WorldState) (b : ActorState) (rd : ℕ) (s : Bool) (q : Want) (code : ℕ) → IsRequest (LoadsAt w.image b.hart rd s) b q → refusal_for w.cells b q ≡ Some code
    → after w b (event_for w.cells b q) ≡ with_actor (with_actor w b) (refused b code)
refused_for w b rd s (want.Slots directory_ask.Claim) code own told = claim_slot_refused w b code (claim w.cells.places) (sym (slots_told w.cells.places) ∙ told)
refused_for w b rd s (want.Slot slot (slot_want.Close tag)) code own told = close_refused w b slot tag code (slot_in w.cells slot) refl told
refused_for w b rd s (want.Slot slot (slot_want.Smalloc tag size)) code own told = place_refused w b slot tag size code (slot_in w.cells slot) refl told
refused_for w b rd s (want.Slot slot (slot_want.Sfree offset)) code own told = free_refused w b slot offset code (slot_in w.cells slot) refl told
refused_for w b rd s (want.Slot slot (slot_want.Load offset width)) code own told = absurd cc
refused_for w b rd s (want.Slot slot (slot_want.Store offset width value)) code own told = absurd cc
refused_for w b rd s (want.Fd fd q) code own told = stream_refused w b fd q code own told
refused_for w b rd s (want.Lives lives_ask.Claim) code own told = unfold takes in claim_refused w b code _ told
refused_for w b rd s q code own told = absurd own

-- an event of a call that no code is for refuses nothing
load_passed : (offset width : ℕ) (live : Option Live) (g : Option Segment) → slot_refuses (slot_reply_of g (slot_ask.Load width offset live)) ≡ false
load_passed offset width live None = refl
load_passed offset width live (Some g) = by_tests _ _
  where
    by_tests : (u t : Bool) → slot_refuses (if not u then slot_reply.Unmapped else if t then slot_reply.Loaded (number_of (slice_range g.bytes offset (offset + width))) else slot_reply.Denied g.tag right.Read) ≡ false
    by_tests false t = refl
    by_tests true false = refl
    by_tests true true = refl

store_passed : (offset width value : ℕ) (live : Option Live) (g : Option Segment) → slot_refuses (slot_reply_of g (slot_ask.Store width offset value live)) ≡ false
store_passed offset width value live None = refl
store_passed offset width value live (Some g) = by_tests _ _
  where
    by_tests : (u t : Bool) → slot_refuses (if not u then slot_reply.Unmapped else if t then slot_reply.Stored else slot_reply.Denied g.tag right.ReadWrite) ≡ false
    by_tests false t = refl
    by_tests true false = refl
    by_tests true true = refl

life_passed : (t : Bool) → (if t then None else Some full) ≡ None → is_refusal (event.Lives lives_ask.Claim (if t then lives_reply.Claimed else lives_reply.Full)) ≡ false
life_passed true told = refl
life_passed false told = absurd cc

passed_for : (w : WorldState) (b : ActorState) (rd : ℕ) (s : Bool) (q : Want) → IsRequest (LoadsAt w.image b.hart rd s) b q → refusal_for w.cells b q ≡ None → is_refusal (event_for w.cells b q) ≡ false
passed_for w b rd s (want.Slots directory_ask.Claim) own told = claim_slot_passed (claim w.cells.places) w.cells.places (sym (slots_told w.cells.places) ∙ told)
passed_for w b rd s (want.Slot slot (slot_want.Close tag)) own told = close_passed tag (slot_in w.cells slot) told
passed_for w b rd s (want.Slot slot (slot_want.Load offset width)) own told = load_passed offset width _ (slot_in w.cells slot)
passed_for w b rd s (want.Slot slot (slot_want.Store offset width value)) own told = store_passed offset width value _ (slot_in w.cells slot)
passed_for w b rd s (want.Slot slot (slot_want.Smalloc tag size)) own told = place_passed tag size (slot_in w.cells slot) told
passed_for w b rd s (want.Slot slot (slot_want.Sfree offset)) own told = free_passed b offset (slot_in w.cells slot) told
passed_for w b rd s (want.Fd fd q) own told = stream_passed b fd q (stream_in w.cells fd) own told
passed_for w b rd s (want.Lives lives_ask.Claim) own told = life_passed _ told
passed_for w b rd s q own told = absurd own

refuses_after : (w : WorldState) (b : ActorState) (e : Event) → Happens w b e → RefusesAfter (with_actor w b) b b.phase e (after w b e)
refuses_after w b e (Requested r) =
    subst (λ ph. RefusesAfter (with_actor w b) b ph e (after w b e)) (sym r.at)
    (record {
      refused = λ code told. subst (λ y. after w b y ≡ with_actor (with_actor w b) (refused b code)) (sym r.is) (refused_for w b r.rd r.is_signed r.want code r.own (sym (r.later w.cells) ∙ told));
      passed = λ told. ap is_refusal r.is ∙ passed_for w b r.rd r.is_signed r.want r.own (sym (r.later w.cells) ∙ told);
    })
refuses_after w b e (Joined j) =
    subst (λ ph. RefusesAfter (with_actor w b) b ph e (after w b e)) (sym j.at)
    (record { refused = λ code told. let f : None ≡ Some code = sym (j.later w.cells) ∙ told in absurd cc; passed = λ told. ap is_refusal j.join.is })
refuses_after w b e (Snaps s) =
    subst (λ ph. RefusesAfter (with_actor w b) b ph e (after w b e)) (sym s.at) (ap is_refusal s.is ∙ snap_cases (λ r. slot_refuses r ≡ false) (slot_in w.cells s.grant.slot) s.grant.tag (λ pages. refl) refl)
refuses_after w b e (GateSnaps s) =
    subst (λ ph. RefusesAfter (with_actor w b) b ph e (after w b e)) (sym s.at) (ap is_refusal s.is ∙ snap_cases (λ r. slot_refuses r ≡ false) (slot_in w.cells s.grant.slot) s.grant.tag (λ pages. refl) refl)
refuses_after w b e (Started s) = subst (λ ph. RefusesAfter (with_actor w b) b ph e (after w b e)) (sym s.at) (ap is_refusal s.is)
refuses_after w b e (OpensTag o) = subst (λ ph. RefusesAfter (with_actor w b) b ph e (after w b e)) (sym o.at) (ap is_refusal o.is)
refuses_after w b e (Releases r) = subst (λ ph. RefusesAfter (with_actor w b) b ph e (after w b e)) (sym r.at) (ap is_refusal r.is)
refuses_after w b e (Numbers n) = subst (λ ph. RefusesAfter (with_actor w b) b ph e (after w b e)) (sym n.at) (number_refuses w b e n)
refuses_after w b e (OpensFile f) = subst (λ ph. RefusesAfter (with_actor w b) b ph e (after w b e)) (sym f.at) (file_refuses w b e f)
refuses_after w b e (LastJoined j) = subst (λ ph. RefusesAfter (with_actor w b) b ph e (after w b e)) (sym j.at) (ap is_refusal j.join.is)
refuses_after w b e (EntersGate x) = subst (λ ph. RefusesAfter (with_actor w b) b ph e (after w b e)) (sym x.at) (ap is_refusal x.is)
refuses_after w b e (EntersRecycled x) = subst (λ ph. RefusesAfter (with_actor w b) b ph e (after w b e)) (sym x.at) (ap is_refusal x.is)
refuses_after w b e (LeavesGate l) = subst (λ ph. RefusesAfter (with_actor w b) b ph e (after w b e)) (sym l.at) (ap is_refusal l.is)
refuses_after w b e (LeavesRecycled l) = subst (λ ph. RefusesAfter (with_actor w b) b ph e (after w b e)) (sym l.at) (ap is_refusal l.is)
refuses_after w b e (Ended f) = subst (λ ph. RefusesAfter (with_actor w b) b ph e (after w b e)) (sym f.at) (ap is_refusal f.is)

-- ---- what an event makes

event_makes : (w : WorldState) (b : ActorState) (e : Event) → Happens w b e → MakesAt (with_actor w b) b b.phase e (after w b e)
event_makes w b e (Requested r) =
    subst (λ ph. MakesAt (with_actor w b) b ph e (after w b e)) (sym r.at)
    (subst (λ y. MakesAt (with_actor w b) b (phase.Within r.want) y (after w b y)) (sym r.is) (want_makes w b _ r.want r.own))
event_makes w b e (Joined j) =
    subst (λ ph. MakesAt (with_actor w b) b ph e (after w b e)) (sym j.at)
    (subst (λ y. MakesAt (with_actor w b) b (phase.Within (want.Join j.number)) y (after w b y)) (sym j.join.is) refl)
event_makes w b e (Started s) =
    subst (λ ph. MakesAt (with_actor w b) b ph e (after w b e)) (sym s.at) (subst (λ y. MakesAt (with_actor w b) b (phase.Starting s.preparation) y (after w b y)) (sym s.is) refl)
event_makes w b e (Snaps s) =
    subst (λ ph. MakesAt (with_actor w b) b ph e (after w b e)) (sym s.at) (subst (λ y. MakesAt (with_actor w b) b (phase.Starting s.preparation) y (after w b y)) (sym s.is) refl)
event_makes w b e (GateSnaps s) =
    subst (λ ph. MakesAt (with_actor w b) b ph e (after w b e)) (sym s.at) (subst (λ y. MakesAt (with_actor w b) b (phase.MakingGate s.preparation) y (after w b y)) (sym s.is) refl)
event_makes w b e (OpensTag o) =
    subst (λ ph. MakesAt (with_actor w b) b ph e (after w b e)) (sym o.at) (subst (λ y. MakesAt (with_actor w b) b (phase.Opening o.slot o.tag) y (after w b y)) (sym o.is) (open_makes w b o.slot o.tag))
event_makes w b e (Releases r) =
    subst (λ ph. MakesAt (with_actor w b) b ph e (after w b e)) (sym r.at) (subst (λ y. MakesAt (with_actor w b) b (phase.Releasing r.slot) y (after w b y)) (sym r.is) (release_makes w b r.slot))
event_makes w b e (Numbers n) = subst (λ ph. MakesAt (with_actor w b) b ph e (after w b e)) (sym n.at) (claims_number w b e n)
event_makes w b e (OpensFile f) = subst (λ ph. MakesAt (with_actor w b) b ph e (after w b e)) (sym f.at) (opens_file w b e f)
event_makes w b e (LastJoined j) =
    subst (λ ph. MakesAt (with_actor w b) b ph e (after w b e)) (sym j.at) (subst (λ y. MakesAt (with_actor w b) b (phase.Ending j.end_) y (after w b y)) (sym j.join.is) refl)
event_makes w b e (EntersGate x) =
    subst (λ ph. MakesAt (with_actor w b) b ph e (after w b e)) (sym x.at) (subst (λ y. MakesAt (with_actor w b) b (phase.Entering x.entrance) y (after w b y)) (sym x.is) refl)
event_makes w b e (EntersRecycled x) =
    subst (λ ph. MakesAt (with_actor w b) b ph e (after w b e)) (sym x.at) (subst (λ y. MakesAt (with_actor w b) b (phase.Entering x.entrance) y (after w b y)) (sym x.is) refl)
event_makes w b e (LeavesGate l) =
    subst (λ ph. MakesAt (with_actor w b) b ph e (after w b e)) (sym l.at) (subst (λ y. MakesAt (with_actor w b) b (phase.Ending l.end_) y (after w b y)) (sym l.is) refl)
event_makes w b e (LeavesRecycled l) =
    subst (λ ph. MakesAt (with_actor w b) b ph e (after w b e)) (sym l.at) (subst (λ y. MakesAt (with_actor w b) b (phase.Ending l.end_) y (after w b y)) (sym l.is) refl)
event_makes w b e (Ended f) =
    subst (λ ph. MakesAt (with_actor w b) b ph e (after w b e)) (sym f.at) (subst (λ y. MakesAt (with_actor w b) b (phase.Ending f.end_) y (after w b y)) (sym f.is) refl)

-- what holds of the actor that was put
put_such : (Q : ActorState → Type 0) (w : WorldState) (b x a : ActorState) → actor_named w.actors b.name ≡ Some a → x.name ≡ b.name → Q x → IsSomeAnd (actor_named (put_actor w.actors x) b.name) Q
put_such Q w b x a named n q = subst (λ f. IsSomeAnd f Q) (sym (put_there w b x a named n)) q

-- and of the one whose event it is
done_such : (Q : ActorState → Type 0) (w : WorldState) (b a : ActorState) (e : Event) → actor_named w.actors b.name ≡ Some a → Q (takes w.image b e) → IsSomeAnd (actor_named (after w b e).actors b.name) Q
done_such Q w b a e named q =
    let x = takes w.image b e in
    subst (λ f. IsSomeAnd f Q) (sym (named_begun (put_actor w.actors x) (actor_begun w.image b e) b.name x (put_there w b x a named (takes_name w.image b e)))) q

-- ---- turns

-- what holds of the moments of an actor that has gone on, from what holds of an instruction and of an event
moments_of : (P : WorldState → ActorState → Option Event → WorldState → Type 0) (w : WorldState) (name : List ℕ) (e : Event) (new : WorldState) (p : TurnParts w name e new) → Happens w (rest w.image p.actor) e
    → ((a b : ActorState) → actor_named w.actors b.name ≡ Some a → b.phase ≡ phase.Running → P (with_actor w b) b None (with_actor w (step w.image b)))
    → ((a b : ActorState) (e : Event) → actor_named w.actors b.name ≡ Some a → Happens w b e → P (with_actor w b) b (Some e) (after w b e))
    → EachMomentOf P w p.actor e new
unfolding rest
moments_of P w name e new p h instructs happens =
    let a = p.actor in
    let own = found_name w.actors name a p.named in
    let here : (n : ℕ) → actor_named w.actors (run_local w.image n a).name ≡ Some a = λ n. subst (λ m. actor_named w.actors m ≡ Some a) (sym (run_name w.image n a _ refl ∙ own)) p.named in
    let b = rest w.image a in
    let done = happens a b e (here (a.fuel + 1)) h in
    record {
      instructions = record {
        begins = unfold run_local in refl;
        each = λ n runs.
            let x = run_local w.image n a in
            subst (λ y. P (with_actor w x) x None (with_actor w y)) (sym (one_more w.image n a _ refl runs)) (instructs a x (here n) (running_is x.phase runs));
        stays = λ n over. no_more w.image n a _ refl over;
      };
      event = (a.fuel + 1, rest-stops w.image a, subst (λ y. P (with_actor w b) b (Some e) y) (sym p.new_is) done);
    }

-- whoever takes a turn goes on as it is, or from the run for which it waits
goes_as : (w : WorldState) (a : ActorState) (q : Want) → current_want (rest w.image (ready w.actors a)) ≡ Some q → GoesOnAs w.actors a a.phase (ready w.actors a)
goes_as w a q wants = by_case (readies w.actors a)
  where
    by_phase : (p : Phase) → a.phase ≡ p → ready w.actors a ≡ a → GoesOnAs w.actors a p (ready w.actors a)
    by_phase phase.Running at is = is
    by_phase (phase.Within x) at is = is
    by_phase (phase.Starting pre) at is = is
    by_phase (phase.MakingGate pre) at is = is
    by_phase (phase.Opening slot tag) at is = is
    by_phase (phase.Releasing slot) at is = is
    by_phase (phase.OpeningFile o) at is = is
    by_phase (phase.Entering entrance) at is = is
    by_phase (phase.Waiting k) at is =
        let stays_so : rest w.image (ready w.actors a) ≡ a = ap (rest w.image) is ∙ rest-stays w.image a (ap is_running at) in
        let none : None ≡ Some q = sym (ap (wanted_at a) at) ∙ (sym (ap (λ (x : ActorState). current_want x) stays_so) ∙ wants) in
        absurd cc
    by_phase (phase.Ending x) at is = is
    by_phase (phase.Ended x) at is = is

    by_case : Readies w.actors a → GoesOnAs w.actors a a.phase (ready w.actors a)
    by_case (Stays is) = by_phase a.phase refl is
    by_case (Back k at r is) =
        subst (λ p. GoesOnAs w.actors a p (ready w.actors a)) (sym at)
        (subst (λ o. IsSomeAnd o (λ c. (e : End) × (c.phase ≡ phase.Ended e) × (ready w.actors a ≡ after_join a (phase.Waiting k) k e c.fuel))) (sym r.there) (r.how, ended_so r.run.phase r.how r.ended, is))

-- of the moments of a turn
turn_has : (P : WorldState → ActorState → Option Event → WorldState → Type 0) (w : WorldState) (t : Turn) (new : WorldState) → AllReady w → turn_of w t.actor ≡ Some (record { event = t.event; world = new })
    → ((v : WorldState) (a b : ActorState) → actor_named v.actors b.name ≡ Some a → b.phase ≡ phase.Running → P (with_actor v b) b None (with_actor v (step v.image b)))
    → ((v : WorldState) (a b : ActorState) (e : Event) → actor_named v.actors b.name ≡ Some a → Happens v b e → P (with_actor v b) b (Some e) (after v b e))
    → TurnHas P w t new
turn_has P w t new all e instructs happens a named =
    let p = turn_from w t.actor t.event new e in
    let same_actor : p.actor ≡ a = let f : Some p.actor ≡ Some a = sym p.named ∙ named in cc in
    let v = resumed w p.actor in
    let moments = moments_of P v t.actor t.event new p.parts (turn_happens w t.actor t.event new all p) (instructs v) (happens v) in
    let goes = goes_as w p.actor p.parts.want (subst (λ (x : ActorState). current_want (rest w.image x) ≡ Some p.parts.want) p.is p.parts.wants) in
    subst (λ (x : ActorState). (b : ActorState) × GoesOnAs w.actors x x.phase b × EachMomentOf P (with_actor w b) b t.event new) same_actor
    (ready w.actors p.actor, goes, subst (λ (x : ActorState). EachMomentOf P v x t.event new) p.is moments)

-- an instruction is lawful, in whatever world
instruction_lawful : (w : WorldState) (a b : ActorState) → actor_named w.actors b.name ≡ Some a → b.phase ≡ phase.Running → IsLawful (with_actor w b) b None (with_actor w (step w.image b))
instruction_lawful w a b named run =
    let x = step w.image b in
    let name = (steps_step w.image b).name in
    record {
      image = refl;
      mediated = met w b a _ named refl run;
      ends = put_such (λ y. (end_of y.phase ≡ end_at w.image b) × (has_ended y.phase ≡ false)) w b x a named name (step_end w.image b _ refl run, (steps_step w.image b).live (ap has_ended run));
      goes = step_goes w b a named name run;
      refuses = refuses_in w b _ refl run;
      pays = put_such (λ y. y.fuel + cost_at w.image b + given_by b None ≡ b.fuel + brought_by None) w b x a named name (step_pays w.image b);
      edits = record { drafts = put_such (λ y. y.drafts ≡ drafts_after w.image b None) w b x a named name (step_edits w.image b); answers = step_answers w b };
      remembers = put_such (WordRemembers w.image b (option_and_then decode (fetch w.image b.hart.pc)) b.fuel) w b x a named name (step_remembers w.image b);
      family = step_family w b run;
      asks = step_comes_with w b _ refl run;
      makes = tt;
      opens = tt;
      copies = put_such (λ y. NotPreparing y.phase) w b x a named name (step_unprepared w.image b run);
      snaps = tt;
      gates = put_such (InstrMakesGates (with_actor w b) b b.fuel) w b x a named name (step_makes_gates (with_actor w b) b run);
    }

-- and so is an event
event_lawful : (w : WorldState) (a b : ActorState) (e : Event) → actor_named w.actors b.name ≡ Some a → Happens w b e → IsLawful (with_actor w b) b (Some e) (after w b e)
event_lawful w a b e named h = record {
  image = refl;
  mediated = answered_at w b a e named h;
  ends = done_such (λ y. (end_of y.phase ≡ end_by b.phase e) × (has_ended y.phase ≡ is_end_event (Some e))) w b a e named (ends_by w b e h, reached w.image b e);
  goes = done_such (GoesTo b (next_word b)) w b a e named (next_by w b e h);
  refuses = refuses_after w b e h;
  pays = done_such (λ y. y.fuel + cost_by b e + given_by b (Some e) ≡ b.fuel + brought_by (Some e)) w b a e named (event_pays w b e h);
  edits = record { drafts = done_such (λ y. y.drafts ≡ b.drafts) w b a e named (event_edits w.image b e); answers = tt };
  remembers = done_such (EventRemembers b e) w b a e named (event_remembers w b e h);
  family = event_family w b e h;
  asks = event_asks w b e h;
  makes = event_makes w b e h;
  opens = event_opens w b e h;
  copies = done_such (PreparesBy (with_actor w b) b b.phase e) w b a e named (event_prepares w b e h);
  snaps = event_copies w b e h;
  gates = done_such (EventMakesGates (with_actor w b) b b.phase e) w b a e named (event_makes_gates w b e h);
}

-- a turn of a world whose actors rest as those of a run do is lawful
pub turn_lawful : (w : WorldState) (t : Turn) (new : WorldState) → AllReady w → turn_of w t.actor ≡ Some (record { event = t.event; world = new }) → TurnHas IsLawful w t new
turn_lawful w t new all e = turn_has IsLawful w t new all e instruction_lawful event_lawful

each_lawful : (old : WorldState) (turns : List Turn) (new : WorldState) → AllReady old → Runs old turns new → EachMoment IsLawful old turns
each_lawful old [] new all run = tt
each_lawful old (t ∷ ts) new all run = (run.0, run.1, turn_lawful old t run.0 all run.1, each_lawful run.0 ts new (turn_ready old t.actor t.event run.0 all run.1) run.2)

pub moments_lawful : MomentsAreLawful
moments_lawful i turns new run = each_lawful (initial_state i) turns new (opening_ready i) run

-- whoever goes on has its name still
goes_named : (actors : List ActorState) (a b : ActorState) (p : Phase) → GoesOnAs actors a p b → b.name ≡ a.name
goes_named actors a b phase.Running is = ap (λ (x : ActorState). x.name) is
goes_named actors a b (phase.Within q) is = ap (λ (x : ActorState). x.name) is
goes_named actors a b (phase.Starting pre) is = ap (λ (x : ActorState). x.name) is
goes_named actors a b (phase.MakingGate pre) is = ap (λ (x : ActorState). x.name) is
goes_named actors a b (phase.Opening slot tag) is = ap (λ (x : ActorState). x.name) is
goes_named actors a b (phase.Releasing slot) is = ap (λ (x : ActorState). x.name) is
goes_named actors a b (phase.OpeningFile o) is = ap (λ (x : ActorState). x.name) is
goes_named actors a b (phase.Entering entrance) is = ap (λ (x : ActorState). x.name) is
goes_named actors a b (phase.Waiting k) is = by_run (actor_named actors (a.name ++ k ∷ [])) is
  where
    by_run : (o : Option ActorState) → IsSomeAnd o (λ c. (e : End) × (c.phase ≡ phase.Ended e) × (b ≡ after_join a (phase.Waiting k) k e c.fuel)) → b.name ≡ a.name
    by_run None so = absurd so
    by_run (Some c) so = ap (λ (x : ActorState). x.name) so.2
goes_named actors a b (phase.Ending x) is = ap (λ (x : ActorState). x.name) is
goes_named actors a b (phase.Ended x) is = ap (λ (x : ActorState). x.name) is

-- each instruction of an actor that is there is lawful
each_instruction : (w : WorldState) (a b : ActorState) → actor_named w.actors b.name ≡ Some a → EachInstructionOf IsLawful (with_actor w b) b
each_instruction w a b named = record {
  begins = unfold run_local in refl;
  each = each;
  stays = λ n over. no_more w.image n b _ refl over;
}
  where
    put_twice : (w : WorldState) (b x : ActorState) → x.name ≡ b.name → with_actor w x ≡ with_actor (with_actor w b) x
    put_twice w b x name = ap (λ (as_ : List ActorState). record w { actors = as_ }) (sym (put_put w.actors b x name))

    each : (n : ℕ) → is_running (run_local w.image n b).phase ≡ true → IsLawful (with_actor (with_actor w b) (run_local w.image n b)) (run_local w.image n b) None (with_actor (with_actor w b) (run_local w.image (suc n) b))
    each n runs =
        let x = run_local w.image n b in
        let here : actor_named w.actors x.name ≡ Some a = subst (λ m. actor_named w.actors m ≡ Some a) (sym (run_name w.image n b _ refl)) named in
        let own = instruction_lawful w a x here (running_is x.phase runs) in
        subst (λ (v : WorldState). IsLawful v x None (with_actor (with_actor w b) (run_local w.image (suc n) b))) (put_twice w b x (run_name w.image n b _ refl))
        (subst (λ (v : WorldState). IsLawful (with_actor w x) x None v) (ap (with_actor w) (sym (one_more w.image n b _ refl runs)) ∙ put_twice w b (run_local w.image (suc n) b) (run_name w.image (suc n) b _ refl)) own)

pub instructions_lawful : InstructionsAreLawful
instructions_lawful i turns w run name a named b goes =
    each_instruction w a b (subst (λ m. actor_named w.actors m ≡ Some a) (sym (goes_named w.actors a b a.phase goes ∙ found_name w.actors name a named)) named)
