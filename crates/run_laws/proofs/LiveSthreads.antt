-- The count of live sthreads is that of the lives which actors hold.
use Rattle.std.proofs.lemmas.Bool.Decides.{nat_tests}
use Rattle.std.proofs.Common.{◌≡◌, ℕ, ◌+◌, ◌≤◌, Bool, true, false, true≢false, List, [], ◌∷◌, ◌++◌, refl, sym, ap, subst, ◌∙◌, ⊎_elim, arith}
use Rattle.std.specs.Prelude.{Option, Some, None, is_some, nat_lt, ◌||◌, if◌then◌else◌}
use Rattle.cow_pages.specs.Listed.{bytes_listed}
use Rattle.wedge_base.specs.Images.{Image}
use Rattle.wedge_base.specs.Names.{same}
use Rattle.wedge_base.specs.declared.rights.End.{End}
use Rattle.wedge_events.specs.Lives.{most_lives, lives_next}
use Rattle.wedge_events.specs.Slots.{slot_reply as slot_reply_of}
use Rattle.wedge_events.specs.declared.cells.DirectoryAsk.TheVariants as directory_ask
use Rattle.wedge_events.specs.declared.cells.GateAsk.TheVariants as gate_ask
use Rattle.wedge_events.specs.declared.cells.GateReply.TheVariants as gate_reply
use Rattle.wedge_events.specs.declared.cells.LivesAsk.TheVariants as lives_ask
use Rattle.wedge_events.specs.declared.cells.LivesReply.TheVariants as lives_reply
use Rattle.wedge_events.specs.declared.cells.SlotAsk.TheVariants as slot_ask
use Rattle.wedge_events.specs.declared.events.Event.{Event}
use Rattle.wedge_events.specs.declared.events.Event.TheVariants as event
use Rattle.wedge_events.specs.declared.events.SlotWant.TheVariants as slot_want
use Rattle.wedge_events.specs.declared.events.Turn.{Turn}
use Rattle.wedge_events.specs.declared.events.Want.{Want}
use Rattle.wedge_events.specs.declared.events.Want.TheVariants as want
use Rattle.machine.specs.declared.phase.Phase.{Phase}
use Rattle.machine.specs.declared.phase.Phase.TheVariants as phase
use Rattle.machine.specs.Actors.{ActorState, root}
use Rattle.machine.specs.Children.{child_name, without_child}
use Rattle.machine.specs.Local.{has_ended, is_running, rest}
use Rattle.machine.specs.Take.{takes, actor_begun, run_at, has_snapped, next_start}
use Rattle.machine.specs.Cells.{cells_after, slot_in}
use Rattle.run_laws.specs.Ends.{is_end_event}
use Rattle.run_laws.specs.Laws.{LivesAreCounted}
use Rattle.run_laws.specs.LiveSthreads.{is_starting, lives_of, lives_in}
use Rattle.machine.specs.Worlds.{WorldState, initial_state, actor_named, put_actor, with_begun, turn_of, Runs, ready, resumed}
use Rattle.run_laws.proofs.Between.{event_for, IsPreparing, entered_is, joined_is, takes_name}
use Rattle.run_laws.proofs.CellChanging.{turn_cells}
use Rattle.run_laws.proofs.Families.{IsOfOne, takes_same}
use Rattle.run_laws.proofs.FamilyRuns.{one_begins}
use Rattle.run_laws.proofs.Happening.{memory_for, Happens, snap_cases, Requested, Joined, Snaps, GateSnaps, Started, Opens, Releases, Numbers, OpensFile, LastJoined, Ended, EntersGate, LeavesGate, EntersRecycled, LeavesRecycled}
use Rattle.run_laws.proofs.Mediating.{reached}
use Rattle.run_laws.proofs.Meeting.{IsRequest}
use Rattle.run_laws.proofs.Preparing.{was_preparing}
use Rattle.run_laws.proofs.Settling.{AllReady, turn_happens, turn_ready, opening_ready, turned_there}
use Rattle.run_laws.proofs.Turns.{Readies, Stays, Back, readies, ready_name, turn_from}
use Rattle.machine.proofs.Resting.{IsCalm, rests, rest-stays, rest-name}

-- ---- the lives of one actor, by what decides them

by_parts : (x : ActorState) (h r s : Bool) → has_ended x.phase ≡ h → is_some x.run_of ≡ r → is_starting x.phase ≡ s → lives_of x ≡ (if h || r then 0 else 1) + (if s then 1 else 0)
by_parts x h r s e f g =
    ap (λ t. (if t || is_some x.run_of then 0 else 1) + (if is_starting x.phase then 1 else 0)) e
    ∙ (ap (λ t. (if h || t then 0 else 1) + (if is_starting x.phase then 1 else 0)) f
    ∙ ap (λ t. (if h || r then 0 else 1) + (if t then 1 else 0)) g)

no_start : (p : Phase) → (IsPreparing p → ⊥) → is_starting p ≡ false
no_start phase.Running h = refl
no_start (phase.Within q) h = refl
no_start (phase.Starting pre) h = absurd (h tt)
no_start (phase.MakingGate pre) h = refl
no_start (phase.Opening slot tag) h = refl
no_start (phase.Releasing slot) h = refl
no_start (phase.Entering entrance) h = refl
no_start (phase.Waiting number) h = refl
no_start (phase.OpeningFile o) h = refl
no_start (phase.Ending e) h = refl
no_start (phase.Ended e) h = refl

calm_start : (p : Phase) → IsCalm p → is_starting p ≡ false
calm_start phase.Running h = refl
calm_start (phase.Within q) h = refl
calm_start (phase.Starting pre) h = absurd h
calm_start (phase.MakingGate pre) h = refl
calm_start (phase.Opening slot tag) h = refl
calm_start (phase.Releasing slot) h = refl
calm_start (phase.Entering entrance) h = refl
calm_start (phase.Waiting number) h = refl
calm_start (phase.OpeningFile o) h = refl
calm_start (phase.Ending e) h = refl
calm_start (phase.Ended e) h = refl

running_starts_none : (p : Phase) → is_running p ≡ true → (has_ended p ≡ false) × (is_starting p ≡ false)
running_starts_none phase.Running e = (refl, refl)
running_starts_none (phase.Within q) e = absurd (true≢false (sym e))
running_starts_none (phase.Starting pre) e = absurd (true≢false (sym e))
running_starts_none (phase.MakingGate pre) e = absurd (true≢false (sym e))
running_starts_none (phase.Opening slot tag) e = absurd (true≢false (sym e))
running_starts_none (phase.Releasing slot) e = absurd (true≢false (sym e))
running_starts_none (phase.Entering entrance) e = absurd (true≢false (sym e))
running_starts_none (phase.Waiting number) e = absurd (true≢false (sym e))
running_starts_none (phase.OpeningFile o) e = absurd (true≢false (sym e))
running_starts_none (phase.Ending x) e = absurd (true≢false (sym e))
running_starts_none (phase.Ended x) e = absurd (true≢false (sym e))

-- ---- the lives of actors in sum

lives_put : (actors : List ActorState) (a x : ActorState) → x.name ≡ a.name → actor_named actors a.name ≡ Some a → lives_in (put_actor actors x) + lives_of a ≡ lives_in actors + lives_of x
lives_put [] a x name there = absurd (let e = there in cc)
lives_put (y ∷ ys) a x name there = by_name (same y.name x.name) (same y.name a.name) (ap (same y.name) name) there (lives_put ys a x name)
  where
    by_name : (t u : Bool) → t ≡ u → (if u then Some y else actor_named ys a.name) ≡ Some a → (actor_named ys a.name ≡ Some a → lives_in (put_actor ys x) + lives_of a ≡ lives_in ys + lives_of x)
        → lives_in (if t then x ∷ ys else y ∷ put_actor ys x) + lives_of a ≡ lives_of y + lives_in ys + lives_of x
    by_name true true at h others =
        let is : y ≡ a = cc in
        let was : lives_of y ≡ lives_of a = ap (λ (z : ActorState). lives_of z) is in
        omega (arith, was)
    by_name true false at h others = absurd cc
    by_name false true at h others = absurd cc
    by_name false false at h others = let rest_ = others h in omega (arith, rest_)

lives_within : (actors : List ActorState) (m : List ℕ) (a : ActorState) → actor_named actors m ≡ Some a → lives_of a ≤ lives_in actors
lives_within [] m a there = absurd (let e = there in cc)
lives_within (y ∷ ys) m a there = by_name (same y.name m) there (lives_within ys m a)
  where
    by_name : (t : Bool) → (if t then Some y else actor_named ys m) ≡ Some a → (actor_named ys m ≡ Some a → lives_of a ≤ lives_in ys) → lives_of a ≤ lives_of y + lives_in ys
    by_name true h others =
        let is : y ≡ a = cc in
        let was : lives_of y ≡ lives_of a = ap (λ (z : ActorState). lives_of z) is in
        omega (arith, was)
    by_name false h others = let rest_ = others h in omega (arith, rest_)

lives_behind : (actors : List ActorState) (c : ActorState) → lives_in (actors ++ c ∷ []) ≡ lives_in actors + lives_of c
lives_behind [] c = omega arith
lives_behind (y ∷ ys) c = let others = lives_behind ys c in omega (arith, others)

-- the lives of an actor that has begun, if one has
abbrev begun_lives : Option ActorState → ℕ
begun_lives None = 0
begun_lives (Some c) = lives_of c

lives_begun : (actors : List ActorState) (o : Option ActorState) → lives_in (with_begun actors o) ≡ lives_in actors + begun_lives o
lives_begun actors None = omega arith
lives_begun actors (Some c) = lives_behind actors c

-- ---- an event

-- what an event makes of the count, where it counts its actor's lives at least
record IsCounted (w : WorldState) (b : ActorState) (e : Event) : Type 0 where
  count : lives_of b ≤ w.cells.lives → (cells_after w.cells e).lives + lives_of b ≡ w.cells.lives + lives_of (takes w.image b e) + begun_lives (actor_begun w.image b e)
  most : w.cells.lives ≤ most_lives → (cells_after w.cells e).lives ≤ most_lives

abbrev IsClaim : Event → Type 0
IsClaim e = e ≡ event.Lives lives_ask.Claim lives_reply.Claimed

-- who prepared nothing prepares nothing after an event that claims no life
starts_none : (i : Image) (b : ActorState) (e : Event) (p : Phase) → b.phase ≡ p → (IsPreparing p → ⊥) → (IsClaim e → ⊥) → is_starting (takes i b e).phase ≡ false
starts_none i b e p at calm other = no_start (takes i b e).phase (λ k. ⊎_elim (λ c. other c) (λ c. calm (subst IsPreparing at c)) (was_preparing i b e k))

-- an event that leaves the count, and neither ends nor begins an actor
quiet : (w : WorldState) (b : ActorState) (e : Event) (p : Phase) → b.phase ≡ p → (IsPreparing p → ⊥) → has_ended p ≡ false → (takes w.image b e).run_of ≡ b.run_of → begun_lives (actor_begun w.image b e) ≡ 0 → is_end_event (Some e) ≡ false → (IsClaim e → ⊥)
    → (cells_after w.cells e).lives ≡ w.cells.lives → IsCounted w b e
quiet w b e p at calm live own none goes other alike =
    let was = by_parts b false (is_some b.run_of) false (ap has_ended at ∙ live) refl (ap is_starting at ∙ no_start p calm) in
    let now = by_parts (takes w.image b e) false (is_some b.run_of) false (reached w.image b e ∙ goes) (ap is_some own) (starts_none w.image b e p at calm other) in
    record { count = λ k. omega (arith, was, now, none, alike); most = λ k. subst (λ n. n ≤ most_lives) (sym alike) k }

-- where its actor alone goes on
quiet_one : (w : WorldState) (b : ActorState) (e : Event) (p : Phase) → b.phase ≡ p → (IsPreparing p → ⊥) → has_ended p ≡ false → IsOfOne e → is_end_event (Some e) ≡ false → (IsClaim e → ⊥) → (cells_after w.cells e).lives ≡ w.cells.lives → IsCounted w b e
quiet_one w b e p at calm live one goes other alike =
    quiet w b e p at calm live (takes_same w.image b e one).run_of (ap begun_lives (one_begins w.image b e one)) goes other alike

-- a join
joins : (w : WorldState) (b : ActorState) (k : ℕ) (how : End) (fuel : ℕ) (p : Phase) → b.phase ≡ p → (IsPreparing p → ⊥) → has_ended p ≡ false → IsCounted w b (event.Join k how fuel)
joins w b k how fuel p at calm live =
    quiet w b (event.Join k how fuel) p at calm live
    (unfold takes in joined_is (λ x. x.run_of ≡ b.run_of) (record b { fuel = b.fuel + fuel; unjoined = without_child b.unjoined k }) b.phase how refl refl)
    refl refl (λ c. let h = c in cc) refl

-- an actor that ends holds no life
ends_lives : (w : WorldState) (b : ActorState) (e : Event) (p : Phase) → b.phase ≡ p → (IsPreparing p → ⊥) → is_end_event (Some e) ≡ true → (IsClaim e → ⊥) → lives_of (takes w.image b e) ≡ 0
ends_lives w b e p at calm over other = by_parts (takes w.image b e) true (is_some (takes w.image b e).run_of) false (reached w.image b e ∙ over) refl (starts_none w.image b e p at calm other)

-- the claim of a life
claim_counted : (w : WorldState) (b : ActorState) (p : Phase) → b.phase ≡ p → (IsPreparing p → ⊥) → has_ended p ≡ false → IsCounted w b (event_for w.cells b (want.Lives lives_ask.Claim))
claim_counted w b p at calm live = by_test (nat_lt w.cells.lives most_lives) refl
  where
    was : lives_of b ≡ (if false || is_some b.run_of then 0 else 1) + 0
    was = by_parts b false (is_some b.run_of) false (ap has_ended at ∙ live) refl (ap is_starting at ∙ no_start p calm)

    below : (m n : ℕ) → nat_lt m n ≡ true → m + 1 ≤ n
    below m n e = grind (arith, nat_tests, e)

    by_test : (t : Bool) → nat_lt w.cells.lives most_lives ≡ t → IsCounted w b (event.Lives lives_ask.Claim (if t then lives_reply.Claimed else lives_reply.Full))
    by_test true e =
        let x = takes w.image b (event.Lives lives_ask.Claim lives_reply.Claimed) in
        let now = by_parts x false (is_some b.run_of) true (reached w.image b (event.Lives lives_ask.Claim lives_reply.Claimed)) (ap is_some (takes_same w.image b (event.Lives lives_ask.Claim lives_reply.Claimed) tt).run_of) (unfold takes in refl) in
        let more : lives_next w.cells.lives lives_ask.Claim ≡ w.cells.lives + 1 = ap (λ t. if t then w.cells.lives + 1 else w.cells.lives) e in
        let room = below w.cells.lives most_lives e in
        record { count = λ k. omega (arith, was, now, more); most = λ k. omega (arith, more, room) }
    by_test false e =
        let alike : lives_next w.cells.lives lives_ask.Claim ≡ w.cells.lives = ap (λ t. if t then w.cells.lives + 1 else w.cells.lives) e in
        quiet_one w b (event.Lives lives_ask.Claim lives_reply.Full) p at calm live tt refl (λ c. let h = c in cc) alike

want_counted : (N : ℕ → Type 0) (w : WorldState) (b : ActorState) (q : Want) → b.phase ≡ phase.Within q → IsRequest N b q → IsCounted w b (event_for w.cells b q)
want_counted N w b (want.Slots directory_ask.Claim) at own = quiet_one w b _ _ at (λ k. k) refl tt refl (λ c. let h = c in cc) refl
want_counted N w b (want.Slot s (slot_want.Close tag)) at own = quiet_one w b _ _ at (λ k. k) refl tt refl (λ c. let h = c in cc) refl
want_counted N w b (want.Slot s (slot_want.Smalloc tag size)) at own = quiet_one w b _ _ at (λ k. k) refl tt refl (λ c. let h = c in cc) refl
want_counted N w b (want.Slot s (slot_want.Sfree offset)) at own = quiet_one w b _ _ at (λ k. k) refl tt refl (λ c. let h = c in cc) refl
want_counted N w b (want.Slot s (slot_want.Store offset width value)) at own = quiet_one w b _ _ at (λ k. k) refl tt refl (λ c. let h = c in cc) refl
want_counted N w b (want.Slot s (slot_want.Load offset width)) at own = quiet_one w b _ _ at (λ k. k) refl tt refl (λ c. let h = c in cc) refl
want_counted N w b (want.Fd n q) at own = quiet_one w b _ _ at (λ k. k) refl tt refl (λ c. let h = c in cc) refl
want_counted N w b (want.Lives lives_ask.Claim) at own = claim_counted w b _ at (λ k. k) refl
want_counted N w b q at own = absurd own

event_counted : (w : WorldState) (b : ActorState) (e : Event) → Happens w b e → IsCounted w b e
event_counted w b e (Requested r) = subst (IsCounted w b) (sym r.is) (want_counted _ w b r.want r.at r.own)
event_counted w b e (Joined j) = subst (IsCounted w b) (sym j.join.is) (joins w b j.number j.join.how j.join.child.fuel _ j.at (λ k. k) refl)
event_counted w b e (Snaps s) = subst (IsCounted w b) (sym s.is) (record { count = λ k. omega (arith, was, now, none); most = λ k. k })
  where
    asked : Event
    asked = event.Slot s.grant.slot (slot_ask.Snap s.grant.tag) (slot_reply_of (slot_in w.cells s.grant.slot) (slot_ask.Snap s.grant.tag))

    was : lives_of b ≡ (if false || is_some b.run_of then 0 else 1) + 1
    was = by_parts b false (is_some b.run_of) true (ap has_ended s.at) refl (ap is_starting s.at)

    still : is_starting (takes w.image b asked).phase ≡ true
    still = snap_cases (λ r. is_starting (takes w.image b (event.Slot s.grant.slot (slot_ask.Snap s.grant.tag) r)).phase ≡ true) (slot_in w.cells s.grant.slot) s.grant.tag
        (λ pages. unfold takes in ap (λ p. is_starting (has_snapped b p s.grant.slot (Some (bytes_listed pages))).phase) s.at)
        (unfold takes in ap (λ p. is_starting (has_snapped b p s.grant.slot None).phase) s.at)

    now : lives_of (takes w.image b asked) ≡ (if false || is_some b.run_of then 0 else 1) + 1
    now = by_parts (takes w.image b asked) false (is_some b.run_of) true (reached w.image b asked) (ap is_some (takes_same w.image b asked tt).run_of) still

    none : begun_lives (actor_begun w.image b asked) ≡ 0
    none = refl
event_counted w b e (GateSnaps s) = subst (IsCounted w b) (sym s.is) (quiet_one w b _ _ s.at (λ k. k) refl tt refl (λ c. let h = c in cc) refl)
event_counted w b e (Started s) = subst (IsCounted w b) (sym s.is) (record { count = λ k. omega (arith, was, now, child); most = λ k. k })
  where
    asked : Event
    asked = event.Start (child_name b.name (next_start b))

    was : lives_of b ≡ (if false || is_some b.run_of then 0 else 1) + 1
    was = by_parts b false (is_some b.run_of) true (ap has_ended s.at) refl (ap is_starting s.at)

    now : lives_of (takes w.image b asked) ≡ (if false || is_some b.run_of then 0 else 1) + 0
    now = by_parts (takes w.image b asked) false (is_some b.run_of) false (reached w.image b asked) (unfold takes in refl) (unfold takes in refl)

    child : begun_lives (actor_begun w.image b asked) ≡ 1
    child = refl
event_counted w b e (Opens o) = subst (IsCounted w b) (sym o.is) (quiet_one w b _ _ o.at (λ k. k) refl tt refl (λ c. let h = c in cc) refl)
event_counted w b e (Releases r) = subst (IsCounted w b) (sym r.is) (quiet_one w b _ _ r.at (λ k. k) refl tt refl (λ c. let h = c in cc) refl)
event_counted w b e (Numbers n) = subst (IsCounted w b) (sym n.is) (quiet_one w b _ _ n.at (λ k. k) refl tt refl (λ c. let h = c in cc) refl)
event_counted w b e (OpensFile f) = subst (IsCounted w b) (sym f.is) (quiet_one w b _ _ f.at (λ k. k) refl tt refl (λ c. let h = c in cc) refl)
event_counted w b e (LastJoined j) = subst (IsCounted w b) (sym j.join.is) (joins w b j.first.0 j.join.how j.join.child.fuel _ j.at (λ k. k) refl)
event_counted w b e (Ended f) = subst (IsCounted w b) (sym f.is) (record { count = λ k. omega (arith, was, now, k); most = λ k. omega (arith, k) })
  where
    was : lives_of b ≡ 1
    was = by_parts b false false false (ap has_ended f.at) (ap is_some f.own) (ap is_starting f.at)

    now : lives_of (takes w.image b (event.Lives (lives_ask.Release f.end_) lives_reply.Released)) ≡ 0
    now = ends_lives w b _ _ f.at (λ k. k) refl (λ c. let h = c in cc)
event_counted w b e (EntersGate x) = subst (IsCounted w b) (sym x.is)
    (quiet w b (event.Enter (child_name b.name (next_start b))) _ x.at (λ k. k) refl (unfold takes in entered_is (λ y. y.run_of ≡ b.run_of) b b.phase refl (λ y. refl))
    (ap (λ p. begun_lives (run_at b (child_name b.name (next_start b)) None p)) x.at) refl (λ c. let h = c in cc) refl)
event_counted w b e (EntersRecycled x) = subst (IsCounted w b) (sym x.is)
    (quiet w b _ _ x.at (λ k. k) refl (unfold takes in entered_is (λ y. y.run_of ≡ b.run_of) b b.phase refl (λ y. refl))
    (ap (λ p. begun_lives (run_at b (child_name b.name (next_start b)) (Some (memory_for w.cells x.entrance.gate)) p)) x.at) refl (λ c. let h = c in cc) refl)
event_counted w b e (LeavesGate l) = subst (IsCounted w b) (sym l.is) (record { count = λ k. omega (arith, was, now); most = λ k. k })
  where
    was : lives_of b ≡ 0
    was = by_parts b false true false (ap has_ended l.at) (ap is_some l.own) (ap is_starting l.at)

    now : lives_of (takes w.image b (event.Leave l.end_)) ≡ 0
    now = ends_lives w b _ _ l.at (λ k. k) refl (λ c. let h = c in cc)
event_counted w b e (LeavesRecycled l) = subst (IsCounted w b) (sym l.is) (record { count = λ k. omega (arith, was, now); most = λ k. k })
  where
    was : lives_of b ≡ 0
    was = by_parts b false true false (ap has_ended l.at) (ap is_some l.own) (ap is_starting l.at)

    now : lives_of (takes w.image b (event.Gate l.gate.id (gate_ask.Leave l.end_ b.memory) gate_reply.Left)) ≡ 0
    now = ends_lives w b _ _ l.at (λ k. k) refl (λ c. let h = c in cc)

-- ---- turns

-- an actor that goes on, and comes to rest, holds the lives that it held
ready_lives : (actors : List ActorState) (a : ActorState) → lives_of (ready actors a) ≡ lives_of a
ready_lives actors a = by_case (readies actors a)
  where
    by_case : Readies actors a → lives_of (ready actors a) ≡ lives_of a
    by_case (Stays is) = ap (λ (z : ActorState). lives_of z) is
    by_case (Back k at r is) = ap (λ (z : ActorState). lives_of z) is ∙ sym (by_parts a false (is_some a.run_of) false (ap has_ended at) refl (ap is_starting at))

rest_lives : (i : Image) (a : ActorState) (t : Bool) → is_running a.phase ≡ t → lives_of (rest i a) ≡ lives_of a
rest_lives i a true e =
    let r = rests i a e in
    let runs = running_starts_none a.phase e in
    by_parts (rest i a) false (is_some a.run_of) false r.live (ap is_some r.run_of) (calm_start (rest i a).phase r.calm) ∙ sym (by_parts a false (is_some a.run_of) false runs.0 refl runs.1)
rest_lives i a false e = ap (λ (z : ActorState). lives_of z) (rest-stays i a e)

-- the count, and that it is no more than there may be
record AreCounted (w : WorldState) : Type 0 where
  counted : w.cells.lives ≡ lives_in w.actors
  few : w.cells.lives ≤ most_lives

turn_counted : (w : WorldState) (t : Turn) (new : WorldState) → AllReady w → turn_of w t.actor ≡ Some (record { event = t.event; world = new }) → AreCounted w → AreCounted new
turn_counted w t new all taken h =
    let p = turn_from w t.actor t.event new taken in
    let v = resumed w p.actor in
    let a = p.parts.actor in
    let b = rest w.image a in
    let x = takes w.image b t.event in
    let e = event_counted v b t.event (turn_happens w t.actor t.event new all p) in
    let was = turned_there w t.actor p.actor p.named in
    let goes = lives_put w.actors p.actor (ready w.actors p.actor) (ready_name w.actors p.actor) was in
    let alike = ready_lives w.actors p.actor in
    let there = turned_there v t.actor a p.parts.named in
    let put = lives_put v.actors a x (takes_name w.image b t.event ∙ rest-name w.image a) there in
    let rested = rest_lives w.image a _ refl in
    let inside = lives_within v.actors a.name a there in
    let begins = lives_begun (put_actor v.actors x) (actor_begun w.image b t.event) in
    let sum : lives_in new.actors ≡ lives_in (with_begun (put_actor v.actors x) (actor_begun w.image b t.event)) = ap (λ (z : WorldState). lives_in z.actors) p.parts.new_is in
    let cell : new.cells.lives ≡ (cells_after w.cells t.event).lives = ap (λ c. c.lives) (turn_cells w t new taken) in
    let before = h.counted in
    let own : lives_of b ≤ w.cells.lives = omega (arith, rested, inside, goes, alike, before) in
    let count = e.count own in
    let most = e.most h.few in
    record { counted = omega (arith, goes, alike, put, rested, begins, sum, cell, count, before); few = omega (arith, cell, most) }

runs_counted : (old : WorldState) (turns : List Turn) (new : WorldState) → AllReady old → AreCounted old → Runs old turns new → AreCounted new
runs_counted old [] new all h run = subst AreCounted (sym run) h
runs_counted old (t ∷ ts) new all h run = runs_counted run.0 ts new (turn_ready old t.actor t.event run.0 all run.1) (turn_counted old t run.0 all run.1 h) run.2

opening_counted : (i : Image) → AreCounted (initial_state i)
unfolding root
opening_counted i = record { counted = refl; few = omega arith }

pub lives_are_counted : LivesAreCounted
lives_are_counted i turns w run =
    let c = runs_counted (initial_state i) turns w (opening_ready i) (opening_counted i) run in
    let is = c.counted in
    let few = c.few in
    (is, omega (arith, is, few))
