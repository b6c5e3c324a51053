-- A call that is allowed and not refused takes place: from its turn on, its actor goes through the events of one row of the table.
use Rattle.std.proofs.Common.{◌≡◌, ℕ, zero, suc, ◌+◌, Bool, true, false, true≢false, List, [], ◌∷◌, ◌++◌, refl, sym, ap, subst, ◌∙◌, inl, inr}
use Rattle.std.specs.Prelude.{Option, Some, None, ◌⊎◌, ◌≢◌, ◌==◌, not, option_map, unwrap_or, slice_get, nat_lt, IsSomeAnd, if◌then◌else◌}
use Rattle.std.specs.List.{AllByRecursion}
use Rattle.cow_pages.specs.PrivateMemory.{PrivateMemory}
use Rattle.wedge_base.specs.Images.{Image}
use Rattle.wedge_base.specs.Names.{same}
use Rattle.wedge_base.specs.Maps.{has}
use Rattle.wedge_base.specs.Sheets.{Draft, empty_draft, sheet_of_draft, slot_on}
use Rattle.wedge_base.specs.declared.grants.GateKind.{GateKind}
use Rattle.wedge_base.specs.declared.grants.GateKind.TheVariants as gate_kind
use Rattle.wedge_base.specs.declared.image.FileEntry.{FileEntry}
use Rattle.wedge_base.specs.declared.rights.FdBits.{FdBits}
use Rattle.wedge_base.specs.declared.rights.Right.{Right}
use Rattle.wedge_base.specs.declared.rights.Right.TheVariants as right
use Rattle.wedge_base.specs.declared.rights.Denial.TheVariants as denial
use Rattle.wedge_base.specs.declared.rights.End.{End}
use Rattle.wedge_events.specs.Directories.{Directory, Claim, claim, claim_reply}
use Rattle.wedge_events.specs.declared.cells.DirectoryAsk.TheVariants as directory_ask
use Rattle.wedge_events.specs.declared.cells.DirectoryReply.TheVariants as directory_reply
use Rattle.wedge_events.specs.declared.cells.GateAsk.TheVariants as gate_ask
use Rattle.wedge_events.specs.declared.cells.GateReply.TheVariants as gate_reply
use Rattle.wedge_events.specs.declared.cells.LivesAsk.TheVariants as lives_ask
use Rattle.wedge_events.specs.declared.cells.LivesReply.TheVariants as lives_reply
use Rattle.wedge_events.specs.Slots.{Segment, slot_reply as slot_reply_of, place_reply}
use Rattle.wedge_events.specs.declared.cells.SlotAsk.{SlotAsk}
use Rattle.wedge_events.specs.declared.cells.SlotAsk.TheVariants as slot_ask
use Rattle.wedge_events.specs.declared.events.SlotWant.{SlotWant}
use Rattle.wedge_events.specs.declared.events.SlotWant.TheVariants as slot_want
use Rattle.wedge_events.specs.declared.cells.SlotReply.{SlotReply}
use Rattle.wedge_events.specs.declared.cells.SlotReply.TheVariants as slot_reply
use Rattle.wedge_events.specs.declared.cells.StreamAsk.TheVariants as stream_ask
use Rattle.wedge_events.specs.declared.cells.StreamReply.TheVariants as stream_reply
use Rattle.wedge_events.specs.declared.events.Event.{Event}
use Rattle.wedge_events.specs.declared.events.Event.TheVariants as event
use Rattle.wedge_events.specs.declared.events.Turn.{Turn}
use Rattle.wedge_events.specs.declared.events.Want.TheVariants as want
use Rattle.callgate.specs.declared.gate.Gate.{Gate}
use Rattle.rv_hart.specs.Local.{reg}
use Rattle.machine.specs.declared.copy_grant.CopyGrant.{CopyGrant}
use Rattle.machine.specs.declared.phase.Phase.{Phase}
use Rattle.machine.specs.declared.phase.Phase.TheVariants as phase
use Rattle.machine.specs.Actors.{ActorState, right_of, slot_held}
use Rattle.machine.specs.Calls.{a0}
use Rattle.machine.specs.Children.{child_name, without_child}
use Rattle.machine.specs.Entrance.{Entrance}
use Rattle.machine.specs.Local.{step, rest, has_ended, end_reached, is_running, run_local}
use Rattle.machine.specs.Opening.{FileOpening}
use Rattle.machine.specs.Preparation.{Preparation}
use Rattle.machine.specs.Take.{next_start, takes, actor_begun, answered_end}
use Rattle.run_laws.specs.Allowed.{lacks, is_refused, may_use, window_address, opened_as, with_gate_made, IsAboutToEnter}
use Rattle.machine.specs.Cells.{slot_in}
use Rattle.run_laws.specs.ChildCopies.{copies_in, grants_asked, IsOfTag, IsPrepared, Prepares, PreparesBy, SnapsNext}
use Rattle.run_laws.specs.Families.{after_start, after_enter, after_join}
use Rattle.run_laws.specs.GateCalls.{MakesWith, PreparesGate, BeginsUnless, GatesByRequest, InstrMakesGates, SnapsForGate, EventMakesGates}
use Rattle.run_laws.specs.Holding.{gate_for}
use Rattle.run_laws.specs.Laws.{AllowedCallsTakePlace}
use Rattle.run_laws.specs.MadeGates.{IsGateOf}
use Rattle.run_laws.specs.Moments.{GoesOnAs}
use Rattle.run_laws.specs.Refusals.{refused, refusal_after}
use Rattle.run_laws.specs.Requests.{Request, Opens, Creates, Makes, Enters, Deletes, Allots, request_at}
use Rattle.run_laws.specs.TakingPlace.{is_cow, of_tags, tags_copied, AreSnaps, next_name, IsEntry, after_opening, answered, TakesPlace, StandsAt, GoesThrough, CallsTakePlace, EachTurnOn}
use Rattle.machine.specs.Worlds.{WorldState, initial_state, actor_named, put_actor, turn_of, Runs, ended_with, resumes, ready_at, ready, resumed, with_actor, is_complete}
use Rattle.machine.proofs.Resting.{stays, goes_on, rest-name, rest-stays, rest-stops, running_is}
use Rattle.run_laws.proofs.AllEnd.{all_have_ended}
use Rattle.run_laws.proofs.Between.{event_for, takes_name}
use Rattle.run_laws.proofs.Checking.{put_there}
use Rattle.run_laws.proofs.GateMoments.{step_makes_gates, event_makes_gates}
use Rattle.run_laws.proofs.Happening.{Happens, AtRequest, AtJoin, AtSnap, AtGateSnap, AtStart, AtRelease, AtNumber, AtFile, AtEnter, AtRecycledEnter, Requested, Joined, Snaps, GateSnaps, Started, Opens as OpensTag, Releases, Numbers, OpensFile, LastJoined, Ended, EntersGate, LeavesGate, EntersRecycled, LeavesRecycled}
use Rattle.run_laws.proofs.MakesDrafted.{makes_drafted}
use Rattle.run_laws.proofs.Mediating.{one_more, none_lacking}
use Rattle.run_laws.proofs.Meeting.{step_comes, WantsAs, LoadsAt}
use Rattle.run_laws.proofs.Named.{same_equal, same_self, found_name, named_put_other, named_begun}
use Rattle.run_laws.proofs.Preparing.{event_prepares}
use Rattle.run_laws.proofs.Settling.{AllReady, turn_happens, turn_ready, opening_ready}
use Rattle.run_laws.proofs.TagSlots.{made_slot, used_slot, at_slot}
use Rattle.run_laws.proofs.Turns.{ready_name, ready_else, turn_from}

-- ---- the actor of a name in a turn

-- another's turn leaves it as it is
other_turn : (w : WorldState) (t : Turn) (mid : WorldState) (name : List ℕ) (y : ActorState) → turn_of w t.actor ≡ Some (record { event = t.event; world = mid }) → same t.actor name ≡ false
    → actor_named w.actors name ≡ Some y → actor_named mid.actors name ≡ Some y
other_turn w t mid name y turn apart there =
    let p = turn_from w t.actor t.event mid turn in
    let v = resumed w p.actor in
    let a = p.parts.actor in
    let x = takes v.image (rest v.image a) t.event in
    let first : same (ready w.actors p.actor).name name ≡ false = ap (λ (m : List ℕ). same m name) (ready_name w.actors p.actor ∙ found_name w.actors t.actor p.actor p.named) ∙ apart in
    let second : same x.name name ≡ false = ap (λ (m : List ℕ). same m name) (takes_name v.image (rest v.image a) t.event ∙ (rest-name v.image a ∙ found_name v.actors t.actor a p.parts.named)) ∙ apart in
    let before : actor_named v.actors name ≡ Some y = named_put_other w.actors (ready w.actors p.actor) name first ∙ there in
    let put : actor_named (put_actor v.actors x) name ≡ Some y = named_put_other v.actors x name second ∙ before in
    subst (λ (z : WorldState). actor_named z.actors name ≡ Some y) (sym p.parts.new_is) (named_begun (put_actor v.actors x) (actor_begun v.image (rest v.image a) t.event) name y put)

-- its own turn: what it rests as comes to the event, and is what the event makes of it
record OwnTurn (x : ActorState) (e : Event) (name : List ℕ) (mid : WorldState) : Type 0 where
  world : WorldState
  happens : Happens world x e
  there : actor_named mid.actors name ≡ Some (takes world.image x e)

own_turn : (w : WorldState) (t : Turn) (mid : WorldState) (a x : ActorState) → AllReady w → turn_of w t.actor ≡ Some (record { event = t.event; world = mid }) → actor_named w.actors t.actor ≡ Some a → rest w.image (ready w.actors a) ≡ x
    → OwnTurn x t.event t.actor mid
own_turn w t mid a x all turn named rests =
    let p = turn_from w t.actor t.event mid turn in
    let v = resumed w p.actor in
    let c = p.parts.actor in
    let b = rest w.image c in
    let y = takes w.image b t.event in
    let same_actor : p.actor ≡ a = let f : Some p.actor ≡ Some a = sym p.named ∙ named in cc in
    let is : b ≡ x = ap (rest w.image) p.is ∙ (ap (λ (z : ActorState). rest w.image (ready w.actors z)) same_actor ∙ rests) in
    let own : b.name ≡ t.actor = rest-name w.image c ∙ found_name v.actors t.actor c p.parts.named in
    let put : actor_named (put_actor v.actors y) b.name ≡ Some y = put_there v b y c (subst (λ m. actor_named v.actors m ≡ Some c) (sym own) p.parts.named) (takes_name w.image b t.event) in
    let begun = named_begun (put_actor v.actors y) (actor_begun w.image b t.event) t.actor y (subst (λ m. actor_named (put_actor v.actors y) m ≡ Some y) own put) in
    let after : actor_named mid.actors t.actor ≡ Some y = subst (λ (z : WorldState). actor_named z.actors t.actor ≡ Some y) (sym p.parts.new_is) begun in
    record {
      world = v;
      happens = subst (λ (z : ActorState). Happens v z t.event) is (turn_happens w t.actor t.event mid all p);
      there = after ∙ ap (λ (z : ActorState). Some (takes w.image z t.event)) is;
    }

-- ---- a course of events

-- how an actor goes on from a stage by an event: by the last one, or to another stage
data Onward (P : ActorState → Type 0) (Stage : ActorState → Type 0) (Left : ActorState → List Event → Type 0) (y : ActorState) (e : Event) (x : ActorState) : Type 0 where
  Last : Left y (e ∷ []) → P x → Onward P Stage Left y e x
  On : Stage x → ((es : List Event) → Left x es → Left y (e ∷ es)) → Onward P Stage Left y e x

-- the stages of a call, the events that are left at each, and how one leads to the next
record Course (a : ActorState) (P : ActorState → Type 0) (Stage : ActorState → Type 0) (Left : ActorState → List Event → Type 0) : Type 0 where
  some : (y : ActorState) → Stage y → (e : Event) × (es : List Event) × Left y (e ∷ es)
  stands : (y : ActorState) → Stage y → StandsAt a y
  lives : (y : ActorState) → Stage y → has_ended y.phase ≡ false
  awake : (y : ActorState) → Stage y → (k : ℕ) → y.phase ≡ phase.Waiting k → ⊥
  steps : (v : WorldState) (y : ActorState) (e : Event) → Stage y → Happens v y e → Onward P Stage Left y e (takes v.image y e)

-- it goes through events that are left
abbrev Goes : List ℕ → ActorState → (ActorState → Type 0) → (ActorState → List Event → Type 0) → ActorState → WorldState → List Turn → Type 0
Goes name a P Left y w ts = (e : Event) × (es : List Event) × Left y (e ∷ es) × GoesThrough name a P (e ∷ es) (Some y) w ts

-- one event of its own, and the others
goes_one : (name : List ℕ) (a : ActorState) (P : ActorState → Type 0) (e : Event) (es : List Event) (y : ActorState) (w : WorldState) (t : Turn) (mid : WorldState) (ts : List Turn)
    → StandsAt a y → turn_of w t.actor ≡ Some (record { event = t.event; world = mid }) → same t.actor name ≡ true → t.event ≡ e → GoesThrough name a P es (actor_named mid.actors name) mid ts → GoesThrough name a P (e ∷ es) (Some y) w (t ∷ ts)
goes_one name a P e es y w t mid ts stands turn own is others =
    (stands, mid, turn, subst {0, 0} (λ s. elim s [ true ↦ (t.event ≡ e) × GoesThrough name a P es (actor_named mid.actors name) mid ts | false ↦ GoesThrough name a P (e ∷ es) (actor_named mid.actors name) mid ts ]) (sym own) (is, others))

-- another's turn
goes_by : (name : List ℕ) (a : ActorState) (P : ActorState → Type 0) (e : Event) (es : List Event) (y : ActorState) (w : WorldState) (t : Turn) (mid : WorldState) (ts : List Turn)
    → StandsAt a y → turn_of w t.actor ≡ Some (record { event = t.event; world = mid }) → same t.actor name ≡ false → GoesThrough name a P (e ∷ es) (actor_named mid.actors name) mid ts → GoesThrough name a P (e ∷ es) (Some y) w (t ∷ ts)
goes_by name a P e es y w t mid ts stands turn apart others =
    (stands, mid, turn, subst {0, 0} (λ s. elim s [ true ↦ (t.event ≡ e) × GoesThrough name a P es (actor_named mid.actors name) mid ts | false ↦ GoesThrough name a P (e ∷ es) (actor_named mid.actors name) mid ts ]) (sym apart) others)

-- from a turn of its own on, where it goes on from whatever stage it then is at
take_turn : (name : List ℕ) (a : ActorState) (P : ActorState → Type 0) (Stage : ActorState → Type 0) (Left : ActorState → List Event → Type 0) → Course a P Stage Left
    → (y : ActorState) (w : WorldState) (t : Turn) (mid : WorldState) (ts : List Turn) → Stage y → turn_of w t.actor ≡ Some (record { event = t.event; world = mid }) → same t.actor name ≡ true → OwnTurn y t.event name mid
    → ((z : ActorState) → Stage z → actor_named mid.actors name ≡ Some z → Goes name a P Left z mid ts) → Goes name a P Left y w (t ∷ ts)
take_turn name a P Stage Left c y w t mid ts s turn own o later = elim (c.steps o.world y t.event s o.happens) [
  | Last left done ↦
      (t.event, [], left, goes_one name a P t.event [] y w t mid ts (c.stands y s) turn own refl (subst (λ x. IsSomeAnd x P) (sym o.there) done))
  | On stage glue ↦
      let g = later (takes o.world.image y t.event) stage o.there in
      (t.event, g.0 ∷ g.1, glue (g.0 ∷ g.1) g.2, goes_one name a P t.event (g.0 ∷ g.1) y w t mid ts (c.stands y s) turn own refl (subst (λ x. GoesThrough name a P (g.0 ∷ g.1) x mid ts) (sym o.there) g.3))
]

-- who stands at its call rests as it is
stands_rest : (w : WorldState) (a y : ActorState) → StandsAt a y → ((k : ℕ) → y.phase ≡ phase.Waiting k → ⊥) → rest w.image (ready w.actors y) ≡ y
stands_rest w a y stands awake = ap (rest w.image) (ready_else w.actors y awake) ∙ rest-stays w.image y stands.1

one_turn : (name : List ℕ) (a : ActorState) (P : ActorState → Type 0) (Stage : ActorState → Type 0) (Left : ActorState → List Event → Type 0) → Course a P Stage Left
    → (w : WorldState) (t : Turn) (mid : WorldState) (ts : List Turn) (y : ActorState) → AllReady w → Stage y → turn_of w t.actor ≡ Some (record { event = t.event; world = mid }) → actor_named w.actors name ≡ Some y
    → ((z : ActorState) → Stage z → actor_named mid.actors name ≡ Some z → Goes name a P Left z mid ts) → (u : Bool) → same t.actor name ≡ u → Goes name a P Left y w (t ∷ ts)
one_turn name a P Stage Left c w t mid ts y all s turn there later true own =
    let is : t.actor ≡ name = same_equal t.actor name own in
    let o = own_turn w t mid y y all turn (ap (actor_named w.actors) is ∙ there) (stands_rest w a y (c.stands y s) (c.awake y s)) in
    take_turn name a P Stage Left c y w t mid ts s turn own (subst (λ m. OwnTurn y t.event m mid) is o) later
one_turn name a P Stage Left c w t mid ts y all s turn there later false apart =
    let still = other_turn w t mid name y turn apart there in
    let g = later y s still in
    (g.0, g.1, g.2, goes_by name a P g.0 g.1 y w t mid ts (c.stands y s) turn apart (subst (λ x. GoesThrough name a P (g.0 ∷ g.1) x mid ts) (sym still) g.3))

-- everyone has ended, if the run is complete
abbrev EndsAll : WorldState → Type 0
EndsAll last = is_complete last ≡ true → (m : List ℕ) (z : ActorState) → actor_named last.actors m ≡ Some z → has_ended z.phase ≡ true

not_over : (last w : WorldState) (name : List ℕ) (y : ActorState) → EndsAll last → last ≡ w → actor_named w.actors name ≡ Some y → has_ended y.phase ≡ false → (u : Bool) → is_complete w ≡ u → u ≡ false
not_over last w name y over is there lives false e = refl
not_over last w name y over is there lives true e =
    absurd (true≢false (sym (over (ap is_complete is ∙ e) name y (ap (λ (z : WorldState). actor_named z.actors name) is ∙ there)) ∙ lives))

through : (name : List ℕ) (a : ActorState) (P : ActorState → Type 0) (Stage : ActorState → Type 0) (Left : ActorState → List Event → Type 0) → Course a P Stage Left
    → (last : WorldState) → EndsAll last → (ts : List Turn) (w : WorldState) (y : ActorState) → AllReady w → Runs w ts last → Stage y → actor_named w.actors name ≡ Some y → Goes name a P Left y w ts
through name a P Stage Left c last over [] w y all run s there =
    let l = c.some y s in
    (l.0, l.1, l.2, (c.stands y s, not_over last w name y over run there (c.lives y s) (is_complete w) refl))
through name a P Stage Left c last over (t ∷ ts) w y all run s there =
    one_turn name a P Stage Left c w t run.0 ts y all s run.1 there
    (λ z stage found. through name a P Stage Left c last over ts run.0 z (turn_ready w t.actor t.event run.0 all run.1) run.2 stage found)
    (same t.actor name) refl

-- ---- what an actor comes to, by what it is at

abbrev At : WorldState → ActorState → Event → Phase → Type 0
At v y e (phase.Within q) = AtRequest v y e ⊎ AtJoin v y e
At v y e (phase.Starting p) = AtSnap v y e ⊎ AtStart y e
At v y e (phase.MakingGate p) = AtGateSnap v y e
At v y e (phase.OpeningFile o) = AtNumber v y e ⊎ AtFile v y e
At v y e (phase.Entering x) = AtEnter y e ⊎ AtRecycledEnter v y e
At v y e (phase.Releasing slot) = AtRelease y e
At v y e p = Unit {0}

comes_at : (v : WorldState) (y : ActorState) (e : Event) → Happens v y e → At v y e y.phase
comes_at v y e (Requested r) = subst (At v y e) (sym r.at) (inl r)
comes_at v y e (Joined j) = subst (At v y e) (sym j.at) (inr j)
comes_at v y e (Snaps s) = subst (At v y e) (sym s.at) (inl s)
comes_at v y e (GateSnaps s) = subst (At v y e) (sym s.at) s
comes_at v y e (Started s) = subst (At v y e) (sym s.at) (inr s)
comes_at v y e (OpensTag o) = subst (At v y e) (sym o.at) tt
comes_at v y e (Releases r) = subst (At v y e) (sym r.at) r
comes_at v y e (Numbers n) = subst (At v y e) (sym n.at) (inl n)
comes_at v y e (OpensFile f) = subst (At v y e) (sym f.at) (inr f)
comes_at v y e (LastJoined j) = subst (At v y e) (sym j.at) tt
comes_at v y e (Ended f) = subst (At v y e) (sym f.at) tt
comes_at v y e (EntersGate x) = subst (At v y e) (sym x.at) (inl x)
comes_at v y e (LeavesGate l) = subst (At v y e) (sym l.at) tt
comes_at v y e (EntersRecycled x) = subst (At v y e) (sym x.at) (inr x)
comes_at v y e (LeavesRecycled l) = subst (At v y e) (sym l.at) tt

-- ---- copies

own_made : (a : ActorState) (g : CopyGrant) (gs : List CopyGrant) → right_of a g.tag ≡ Some right.Cow → of_tags a (g ∷ gs) ≡ of_tags a gs
own_made a g gs h = ap (λ (r : Option Right). if not (is_cow r) then g ∷ of_tags a gs else of_tags a gs) h

not_cow : (r : Option Right) → r ≢ Some right.Cow → is_cow r ≡ false
not_cow None h = refl
not_cow (Some right.Cow) h = absurd (h refl)
not_cow (Some right.Read) h = refl
not_cow (Some right.ReadWrite) h = refl

tag_first : (a : ActorState) (g : CopyGrant) (gs : List CopyGrant) → right_of a g.tag ≢ Some right.Cow → of_tags a (g ∷ gs) ≡ g ∷ of_tags a gs
tag_first a g gs h = ap (λ t. if not t then g ∷ of_tags a gs else of_tags a gs) (not_cow (right_of a g.tag) h)

behind_own : (a : ActorState) (done left : List CopyGrant) → AllByRecursion (λ g. right_of a g.tag ≡ Some right.Cow) done → of_tags a (done ++ left) ≡ of_tags a left
behind_own a [] left h = refl
behind_own a (g ∷ gs) left h = own_made a g (gs ++ left) h.0 ∙ behind_own a gs left h.1

-- two actors with the same rights
abbrev SameRights : ActorState → ActorState → Type 0
SameRights a y = (tag : ℕ) → right_of y tag ≡ right_of a tag

all_own : (a y : ActorState) → SameRights a y → (gs : List CopyGrant) → AllByRecursion (λ g. right_of y g.tag ≡ Some right.Cow) gs → AllByRecursion (λ g. right_of a g.tag ≡ Some right.Cow) gs
all_own a y rights [] h = tt
all_own a y rights (g ∷ gs) h = (sym (rights g.tag) ∙ h.0, all_own a y rights gs h.1)

first_of : (a y : ActorState) → SameRights a y → (gs : List CopyGrant) → IsOfTag y gs → IsOfTag a gs
first_of a y rights [] h = tt
first_of a y rights (g ∷ gs) h = λ e. h (rights g.tag ∙ e)

prepared_tags : (a y : ActorState) (m : PrivateMemory) (gs : List CopyGrant) (q : Preparation) → SameRights a y → IsPrepared y m gs q → of_tags a gs ≡ of_tags a q.left
prepared_tags a y m gs q rights p = ap (of_tags a) p.split ∙ behind_own a p.done q.left (all_own a y rights p.done p.own)

-- some events that make such copies
gone_snaps : (gs : List CopyGrant) → (es : List Event) × AreSnaps gs es
gone_snaps [] = ([], refl)
gone_snaps (g ∷ gs) = let others = gone_snaps gs in (event.Slot g.slot (slot_ask.Snap g.tag) slot_reply.Gone ∷ others.0, ((slot_reply.Gone, refl), others.1))

not_none : (es : List Event) (x : Event) → (e : Event) × (others : List Event) × (e ∷ others ≡ es ++ x ∷ [])
not_none [] x = (x, [], refl)
not_none (e ∷ es) x = (e, es ++ x ∷ [], refl)

-- the grants of which no copy is made yet
abbrev left_at : Phase → List CopyGrant
left_at (phase.Starting p) = p.left
left_at (phase.MakingGate p) = p.left
left_at p = []

-- ---- a start

record IsStarting (a y : ActorState) : Type 0 where
  preparation : Preparation
  is : y ≡ record a { phase = phase.Starting preparation }
  next : IsOfTag a preparation.left

abbrev StartLeft : ActorState → ActorState → List Event → Type 0
StartLeft a y es = (snaps : List Event) × AreSnaps (of_tags a (left_at y.phase)) snaps × (es ≡ snaps ++ event.Start (next_name a) ∷ [])

start_done : (i : Image) (a : ActorState) (p : Phase) (child : List ℕ) → takes i (record a { phase = p }) (event.Start child) ≡ after_start a
unfolding takes
start_done i a p child = refl

same_rights : (a y : ActorState) (p : Phase) → y ≡ record a { phase = p } → SameRights a y
same_rights a y p is = λ tag. ap (λ (z : ActorState). right_of z tag) is

starting_snap : (a : ActorState) (v : WorldState) (y : ActorState) (e : Event) → IsStarting a y → AtSnap v y e → Onward (λ b. b ≡ after_start a) (IsStarting a) (StartLeft a) y e (takes v.image y e)
starting_snap a v y e s k =
    let x = takes v.image y e in
    let g = k.grant in
    let gs = k.others in
    let rights = same_rights a y (phase.Starting s.preparation) s.is in
    let so : SnapsNext (with_actor v y) y k.preparation k.preparation.left e x = subst (λ ph. PreparesBy (with_actor v y) y ph e x) k.at (event_prepares v y e (Snaps k)) in
    let by : SnapsNext (with_actor v y) y k.preparation (g ∷ gs) e x = subst (λ l. SnapsNext (with_actor v y) y k.preparation l e x) k.left so in
    let q = by.1.preparation in
    let x_is : x ≡ record a { phase = phase.Starting q } = by.1.after ∙ ap (λ (z : ActorState). record z { phase = phase.Starting q }) s.is in
    let was : phase.Starting s.preparation ≡ phase.Starting k.preparation = sym (ap (λ (z : ActorState). z.phase) s.is) ∙ k.at in
    let first : IsOfTag a (g ∷ gs) = subst (IsOfTag a) k.left (subst (λ ph. IsOfTag a (left_at ph)) was s.next) in
    let rest_is : of_tags a gs ≡ of_tags a (left_at x.phase) = prepared_tags a y _ gs q rights by.1.prepared ∙ sym (ap (λ (z : ActorState). of_tags a (left_at z.phase)) x_is) in
    let tags : of_tags a (left_at y.phase) ≡ g ∷ of_tags a (left_at x.phase) = ap (λ ph. of_tags a (left_at ph)) k.at ∙ (ap (of_tags a) k.left ∙ (tag_first a g gs first ∙ ap (λ l. g ∷ l) rest_is)) in
    On (record { preparation = q; is = x_is; next = first_of a y rights q.left by.1.prepared.next })
    (λ es l. (e ∷ l.0, subst (λ t. AreSnaps t (e ∷ l.0)) (sym tags) ((_, by.0), l.1), ap (λ z. e ∷ z) l.2))

starting_start : (a : ActorState) (v : WorldState) (y : ActorState) (e : Event) → IsStarting a y → AtStart y e → Onward (λ b. b ≡ after_start a) (IsStarting a) (StartLeft a) y e (takes v.image y e)
starting_start a v y e s k =
    let none : of_tags a (left_at y.phase) ≡ [] = ap (λ ph. of_tags a (left_at ph)) k.at ∙ ap (of_tags a) k.complete in
    let is : e ≡ event.Start (next_name a) = k.is ∙ ap (λ (z : ActorState). event.Start (child_name z.name (next_start z))) s.is in
    Last ([], subst (λ t. AreSnaps t []) (sym none) refl, ap (λ z. z ∷ []) is)
    (ap (takes v.image y) is ∙ (ap (λ (z : ActorState). takes v.image z (event.Start (next_name a))) s.is ∙ start_done v.image a (phase.Starting s.preparation) (next_name a)))

starting : (a : ActorState) → Course a (λ b. b ≡ after_start a) (IsStarting a) (StartLeft a)
starting a = record {
  some = λ y s. let g = gone_snaps (of_tags a (left_at y.phase)) in let l = not_none g.0 (event.Start (next_name a)) in (l.0, l.1, (g.0, g.1, l.2));
  stands = λ y s. (s.is ∙ ap (λ p. record a { phase = p }) (sym (ap (λ (z : ActorState). z.phase) s.is)), ap (λ (z : ActorState). is_running z.phase) s.is);
  lives = λ y s. ap (λ (z : ActorState). has_ended z.phase) s.is;
  awake = λ y s k at. let f : phase.Starting s.preparation ≡ phase.Waiting k = sym (ap (λ (z : ActorState). z.phase) s.is) ∙ at in absurd cc;
  steps = λ v y e s h. elim (subst (At v y e) (ap (λ (z : ActorState). z.phase) s.is) (comes_at v y e h)) [ inl k ↦ starting_snap a v y e s k | inr k ↦ starting_start a v y e s k ];
}

-- ---- a gate that is made

record IsMaking (a y : ActorState) : Type 0 where
  preparation : Preparation
  grant : CopyGrant
  others : List CopyGrant
  is : y ≡ record a { phase = phase.MakingGate preparation }
  left : preparation.left ≡ grant ∷ others
  next : IsOfTag a preparation.left

abbrev SnapsLeft : ActorState → ActorState → List Event → Type 0
SnapsLeft a y es = AreSnaps (of_tags a (left_at y.phase)) es

abbrev HasMade : ActorState → Draft → ActorState → Type 0
HasMade a d b = (g : Gate) × IsGateOf a d g × (b ≡ with_gate_made a g)

-- the gate of an actor that stands at its call
made_at : (a : ActorState) (p : Phase) (d : Draft) (g : Gate) → IsGateOf (record a { phase = p }) d g → IsGateOf a d g
made_at a p d g h = record {
  id = h.id;
  entry = h.entry;
  sheet = h.sheet;
  asked = h.asked;
  within = h.within;
  user = h.user;
  root = h.root;
  argument = h.argument;
  fuel = h.fuel;
  kind = h.kind;
}

making_next : (a : ActorState) (d f : Draft) (y x : ActorState) (e : Event) (g : CopyGrant) (gs : List CopyGrant) (q : Preparation) (p : Phase) → y ≡ record a { phase = p } → f ≡ d
    → ((r : SlotReply) × (e ≡ event.Slot g.slot (slot_ask.Snap g.tag) r)) → of_tags a (left_at y.phase) ≡ g ∷ of_tags a q.left → IsOfTag a q.left → (l : List CopyGrant) → q.left ≡ l → MakesWith y f q l x
    → Onward (HasMade a d) (IsMaking a) (SnapsLeft a) y e x
making_next a d f y x e g gs q p y_is same_draft snap tags next [] left made =
    let all : of_tags a (left_at y.phase) ≡ g ∷ [] = tags ∙ ap (λ l. g ∷ of_tags a l) left in
    let is : x ≡ with_gate_made a made.0 = made.3 ∙ ap (λ (z : ActorState). with_gate_made z made.0) y_is in
    let so : IsGateOf (record a { phase = p }) d made.0 = subst (λ (z : ActorState). IsGateOf z d made.0) y_is (subst (λ k. IsGateOf y k made.0) same_draft made.1) in
    Last (subst (λ t. AreSnaps t (e ∷ [])) (sym all) (snap, refl)) (made.0, made_at a p d made.0 so, is)
making_next a d f y x e g gs q p y_is same_draft snap tags next (h ∷ hs) left made =
    let x_is : x ≡ record a { phase = phase.MakingGate q } = made ∙ ap (λ (z : ActorState). record z { phase = phase.MakingGate q }) y_is in
    let all : of_tags a (left_at y.phase) ≡ g ∷ of_tags a (left_at x.phase) = tags ∙ ap (λ l. g ∷ l) (sym (ap (λ (z : ActorState). of_tags a (left_at z.phase)) x_is)) in
    On (record { preparation = q; grant = h; others = hs; is = x_is; left = left; next = next }) (λ es l. subst (λ t. AreSnaps t (e ∷ es)) (sym all) (snap, l))

making_snap : (a : ActorState) (d : Draft) → slice_get a.drafts (a0 a) ≡ Some d → (v : WorldState) (y : ActorState) (e : Event) → IsMaking a y → AtGateSnap v y e → Onward (HasMade a d) (IsMaking a) (SnapsLeft a) y e (takes v.image y e)
making_snap a d drafted v y e s k =
    let x = takes v.image y e in
    let g = k.grant in
    let gs = k.others in
    let p = phase.MakingGate s.preparation in
    let rights = same_rights a y p s.is in
    let so : SnapsForGate (with_actor v y) y k.preparation k.preparation.left e x = subst (λ ph. EventMakesGates (with_actor v y) y ph e x) k.at (event_makes_gates v y e (GateSnaps k)) in
    let by : SnapsForGate (with_actor v y) y k.preparation (g ∷ gs) e x = subst (λ l. SnapsForGate (with_actor v y) y k.preparation l e x) k.left so in
    let q = by.1.preparation in
    let was : p ≡ phase.MakingGate k.preparation = sym (ap (λ (z : ActorState). z.phase) s.is) ∙ k.at in
    let first : IsOfTag a (g ∷ gs) = subst (IsOfTag a) k.left (subst (λ ph. IsOfTag a (left_at ph)) was s.next) in
    let tags : of_tags a (left_at y.phase) ≡ g ∷ of_tags a q.left =
    ap (λ ph. of_tags a (left_at ph)) k.at ∙ (ap (of_tags a) k.left ∙ (tag_first a g gs first ∙ ap (λ l. g ∷ l) (prepared_tags a y _ gs q rights by.1.prepared))) in
    let same_draft : unwrap_or (slice_get y.drafts (reg y.hart.regs 10)) empty_draft ≡ d = ap (λ (z : ActorState). unwrap_or (slice_get z.drafts (reg z.hart.regs 10)) empty_draft) s.is ∙ ap (λ o. unwrap_or o empty_draft) drafted in
    making_next a d _ y x e g gs q p s.is same_draft (_, by.0) tags (first_of a y rights q.left by.1.prepared.next) q.left refl by.1.after

making : (a : ActorState) (d : Draft) → slice_get a.drafts (a0 a) ≡ Some d → Course a (HasMade a d) (IsMaking a) (SnapsLeft a)
making a d drafted = record {
  some = some_left;
  stands = λ y s. (s.is ∙ ap (λ p. record a { phase = p }) (sym (ap (λ (z : ActorState). z.phase) s.is)), ap (λ (z : ActorState). is_running z.phase) s.is);
  lives = λ y s. ap (λ (z : ActorState). has_ended z.phase) s.is;
  awake = λ y s k at. let f : phase.MakingGate s.preparation ≡ phase.Waiting k = sym (ap (λ (z : ActorState). z.phase) s.is) ∙ at in absurd cc;
  steps = λ v y e s h. making_snap a d drafted v y e s (subst (At v y e) (ap (λ (z : ActorState). z.phase) s.is) (comes_at v y e h));
}
  where
    some_left : (y : ActorState) → IsMaking a y → (e : Event) × (es : List Event) × SnapsLeft a y (e ∷ es)
    some_left y s =
        let tags : of_tags a (left_at y.phase) ≡ s.grant ∷ of_tags a s.others =
        ap (λ (z : ActorState). of_tags a (left_at z.phase)) s.is ∙ (ap (of_tags a) s.left ∙ tag_first a s.grant s.others (subst (IsOfTag a) s.left s.next)) in
        let g = gone_snaps (of_tags a s.others) in
        let e = event.Slot s.grant.slot (slot_ask.Snap s.grant.tag) slot_reply.Gone in
        (e, g.0, subst (λ t. AreSnaps t (e ∷ g.0)) (sym tags) ((slot_reply.Gone, refl), g.1))

-- ---- the entry of a gate

abbrev IsEntering : ActorState → Entrance → ActorState → Type 0
IsEntering a x y = y ≡ record a { phase = phase.Entering x }

abbrev EntryLeft : ActorState → Entrance → ActorState → List Event → Type 0
EntryLeft a x y es = (e : Event) × IsEntry x.gate (next_name a) e × (es ≡ e ∷ [])

enter_done : (i : Image) (a : ActorState) (x : Entrance) (run : List ℕ) → takes i (record a { phase = phase.Entering x }) (event.Enter run) ≡ after_enter a x.gate.fuel
unfolding takes
enter_done i a x run = refl

recycled_done : (i : Image) (a : ActorState) (x : Entrance) (g : Gate) (run : List ℕ) (m : PrivateMemory) → takes i (record a { phase = phase.Entering x }) (event.Gate g.id (gate_ask.Enter run g.memory) (gate_reply.Entered m)) ≡ after_enter a x.gate.fuel
unfolding takes
recycled_done i a x g run m = refl

entering_fresh : (a : ActorState) (x : Entrance) (v : WorldState) (e : Event) → AtEnter (record a { phase = phase.Entering x }) e
    → Onward (λ b. b ≡ after_enter a x.gate.fuel) (IsEntering a x) (EntryLeft a x) (record a { phase = phase.Entering x }) e (takes v.image (record a { phase = phase.Entering x }) e)
entering_fresh a x v e k =
    let both : phase.Entering x ≡ phase.Entering k.entrance = k.at in
    let same_one : k.entrance ≡ x = cc in
    let kind : x.gate.kind ≡ gate_kind.Fresh = subst (λ (z : Entrance). z.gate.kind ≡ gate_kind.Fresh) same_one k.fresh in
    Last (e, inl (kind, k.is), refl) (ap (takes v.image (record a { phase = phase.Entering x })) k.is ∙ enter_done v.image a x (next_name a))

entering_recycled : (a : ActorState) (x : Entrance) (v : WorldState) (e : Event) → AtRecycledEnter v (record a { phase = phase.Entering x }) e
    → Onward (λ b. b ≡ after_enter a x.gate.fuel) (IsEntering a x) (EntryLeft a x) (record a { phase = phase.Entering x }) e (takes v.image (record a { phase = phase.Entering x }) e)
entering_recycled a x v e k =
    let both : phase.Entering x ≡ phase.Entering k.entrance = k.at in
    let same_one : k.entrance ≡ x = cc in
    let kind : x.gate.kind ≡ gate_kind.Recycled = subst (λ (z : Entrance). z.gate.kind ≡ gate_kind.Recycled) same_one k.recycled in
    let is : (m : PrivateMemory) × (e ≡ event.Gate x.gate.id (gate_ask.Enter (next_name a) x.gate.memory) (gate_reply.Entered m)) =
    subst (λ (z : Entrance). (m : PrivateMemory) × (e ≡ event.Gate z.gate.id (gate_ask.Enter (next_name a) z.gate.memory) (gate_reply.Entered m))) same_one (_, k.is) in
    Last (e, inr (kind, is.0, is.1), refl) (ap (takes v.image (record a { phase = phase.Entering x })) is.1 ∙ recycled_done v.image a x x.gate (next_name a) is.0)

entry_of : (a : ActorState) (g : Gate) → (e : Event) × IsEntry g (next_name a) e
entry_of a g = by_kind g.kind refl
  where
    by_kind : (k : GateKind) → g.kind ≡ k → (e : Event) × IsEntry g (next_name a) e
    by_kind gate_kind.Fresh is = (event.Enter (next_name a), inl (is, refl))
    by_kind gate_kind.Recycled is = (event.Gate g.id (gate_ask.Enter (next_name a) g.memory) (gate_reply.Entered g.memory), inr (is, g.memory, refl))

entering : (a : ActorState) (x : Entrance) → Course a (λ b. b ≡ after_enter a x.gate.fuel) (IsEntering a x) (EntryLeft a x)
entering a x = record {
  some = λ y s. let e = entry_of a x.gate in (e.0, [], (e.0, e.1, refl));
  stands = λ y s. (s ∙ ap (λ p. record a { phase = p }) (sym (ap (λ (z : ActorState). z.phase) s)), ap (λ (z : ActorState). is_running z.phase) s);
  lives = λ y s. ap (λ (z : ActorState). has_ended z.phase) s;
  awake = λ y s k at. let f : phase.Entering x ≡ phase.Waiting k = sym (ap (λ (z : ActorState). z.phase) s) ∙ at in absurd cc;
  steps = λ v y e s h.
      subst (λ (z : ActorState). Onward (λ b. b ≡ after_enter a x.gate.fuel) (IsEntering a x) (EntryLeft a x) z e (takes v.image z e)) (sym s)
      (elim (comes_at v (record a { phase = phase.Entering x }) e (subst (λ (z : ActorState). Happens v z e) s h)) [ inl k ↦ entering_fresh a x v e k | inr k ↦ entering_recycled a x v e k ]);
}

-- ---- the opening of a file, once a number is claimed

abbrev at_file : ActorState → List ℕ → FileEntry → FdBits → ℕ → ActorState
at_file a path f bits fd = record a { phase = phase.OpeningFile (record (opened_as path f bits) { number = Some fd }) }

abbrev file_event : FileEntry → ℕ → Event
file_event f fd = event.Fd fd (stream_ask.Open f.kind f.content) stream_reply.Opened

abbrev FileLeft : FileEntry → ℕ → ActorState → List Event → Type 0
FileLeft f fd y es = es ≡ file_event f fd ∷ []

file_done : (i : Image) (a : ActorState) (path : List ℕ) (f : FileEntry) (bits : FdBits) (fd : ℕ) → takes i (at_file a path f bits fd) (file_event f fd) ≡ after_opening a path bits fd
unfolding takes
file_done i a path f bits fd = refl

file_opens : (a : ActorState) (path : List ℕ) (f : FileEntry) (bits : FdBits) (fd : ℕ) (v : WorldState) (e : Event) → AtFile v (at_file a path f bits fd) e
    → Onward (λ b. b ≡ after_opening a path bits fd) (λ y. y ≡ at_file a path f bits fd) (FileLeft f fd) (at_file a path f bits fd) e (takes v.image (at_file a path f bits fd) e)
file_opens a path f bits fd v e k =
    let both : phase.OpeningFile (record (opened_as path f bits) { number = Some fd }) ≡ phase.OpeningFile k.opening = k.at in
    let same_one : k.opening ≡ record (opened_as path f bits) { number = Some fd } = cc in
    let number : Some fd ≡ Some k.fd = sym (ap (λ (o : FileOpening). o.number) same_one) ∙ k.some in
    let same_fd : k.fd ≡ fd = cc in
    let is : e ≡ file_event f fd = k.is ∙ (ap (λ (o : FileOpening). event.Fd k.fd (stream_ask.Open o.kind o.bytes) stream_reply.Opened) same_one ∙ ap (λ n. event.Fd n (stream_ask.Open f.kind f.content) stream_reply.Opened) same_fd) in
    Last (ap (λ z. z ∷ []) is) (ap (takes v.image (at_file a path f bits fd)) is ∙ file_done v.image a path f bits fd)

opening : (a : ActorState) (path : List ℕ) (f : FileEntry) (bits : FdBits) (fd : ℕ) → Course a (λ b. b ≡ after_opening a path bits fd) (λ y. y ≡ at_file a path f bits fd) (FileLeft f fd)
opening a path f bits fd = record {
  some = λ y s. (file_event f fd, [], refl);
  stands = λ y s. (s ∙ ap (λ p. record a { phase = p }) (sym (ap (λ (z : ActorState). z.phase) s)), ap (λ (z : ActorState). is_running z.phase) s);
  lives = λ y s. ap (λ (z : ActorState). has_ended z.phase) s;
  awake = λ y s k at. let g : (at_file a path f bits fd).phase ≡ phase.Waiting k = sym (ap (λ (z : ActorState). z.phase) s) ∙ at in absurd cc;
  steps = λ v y e s h.
      subst (λ (z : ActorState). Onward (λ b. b ≡ after_opening a path bits fd) (λ w. w ≡ at_file a path f bits fd) (FileLeft f fd) z e (takes v.image z e)) (sym s)
      (elim (comes_at v (at_file a path f bits fd) e (subst (λ (z : ActorState). Happens v z e) s h)) [ inl k ↦ absurd (claimed_before k) | inr k ↦ file_opens a path f bits fd v e k ]);
}
  where
    claimed_before : {v : WorldState} {e : Event} → AtNumber v (at_file a path f bits fd) e → ⊥
    claimed_before k =
        let both : phase.OpeningFile (record (opened_as path f bits) { number = Some fd }) ≡ phase.OpeningFile k.opening = k.at in
        let same_one : record (opened_as path f bits) { number = Some fd } ≡ k.opening = cc in
        let none : Some fd ≡ None = ap (λ (o : FileOpening). o.number) same_one ∙ k.none in
        absurd cc

-- ---- the turn of the call

-- what holds from a turn of the actor on: its turn, and a run behind it
record FromTurn (name : List ℕ) (y : ActorState) (w : WorldState) (t : Turn) (mid last : WorldState) (ts : List Turn) : Type 0 where
  turn : turn_of w t.actor ≡ Some (record { event = t.event; world = mid })
  own : same t.actor name ≡ true
  did : OwnTurn y t.event name mid
  ready : AllReady mid
  behind : Runs mid ts last
  over : EndsAll last

abbrev PlacedBy : List ℕ → ActorState → Request → ActorState → WorldState → List Turn → Type 0
PlacedBy name c r y w ts = TakesPlace c r (λ es P. GoesThrough name c P es (Some y) w ts)

-- a start: a life is claimed
abbrev at_claim : ActorState → ActorState
at_claim c = record c { phase = phase.Within (want.Lives lives_ask.Claim) }

claim_full : (i : Image) (c : ActorState) → takes i (at_claim c) (event.Lives lives_ask.Claim lives_reply.Full) ≡ refused c 2
unfolding takes
claim_full i c = refl

create_begins : (name : List ℕ) (c : ActorState) (d : Draft) (w : WorldState) (t : Turn) (mid last : WorldState) (ts : List Turn) → slice_get c.drafts (a0 c) ≡ Some d → FromTurn name (at_claim c) w t mid last ts
    → (u : Bool) → t.event ≡ event.Lives lives_ask.Claim (if u then lives_reply.Claimed else lives_reply.Full) → PlacedBy name c (Creates d) (at_claim c) w (t ∷ ts)
create_begins name c d w t mid last ts drafted f false is =
    let done : takes f.did.world.image (at_claim c) t.event ≡ refused c 2 = ap (takes f.did.world.image (at_claim c)) is ∙ claim_full f.did.world.image c in
    inl (goes_one name c (λ b. b ≡ refused c 2) (event.Lives lives_ask.Claim lives_reply.Full) [] (at_claim c) w t mid ts (refl, refl) f.turn f.own is (subst (λ x. IsSomeAnd x (λ b. b ≡ refused c 2)) (sym f.did.there) done))
create_begins name c d w t mid last ts drafted f true is =
    let v = f.did.world in
    let y = at_claim c in
    let x = takes v.image y t.event in
    let so : Prepares y _ (grants_asked y) x = subst (λ e. PreparesBy (with_actor v y) y (phase.Within (want.Lives lives_ask.Claim)) e x) is (event_prepares v y t.event f.did.happens) in
    let q = so.preparation in
    let rights = same_rights c y y.phase refl in
    let asked : grants_asked y ≡ copies_in (sheet_of_draft c.sheet c.made d).tags = ap (λ o. copies_in (sheet_of_draft c.sheet c.made (unwrap_or o empty_draft)).tags) drafted in
    let stage : IsStarting c x = record { preparation = q; is = so.after; next = first_of c y rights q.left so.prepared.next } in
    let g = through name c (λ b. b ≡ after_start c) (IsStarting c) (StartLeft c) (starting c) last f.over ts mid x f.ready f.behind stage f.did.there in
    let tags : of_tags c (left_at x.phase) ≡ tags_copied c d = ap (λ (z : ActorState). of_tags c (left_at z.phase)) so.after ∙ (sym (prepared_tags c y _ (grants_asked y) q rights so.prepared) ∙ ap (of_tags c) asked) in
    let goes : GoesThrough name c (λ b. b ≡ after_start c) (g.2.0 ++ event.Start (next_name c) ∷ []) (actor_named mid.actors name) mid ts =
    subst (λ o. GoesThrough name c (λ b. b ≡ after_start c) (g.2.0 ++ event.Start (next_name c) ∷ []) o mid ts) (sym f.did.there)
    (subst (λ es. GoesThrough name c (λ b. b ≡ after_start c) es (Some x) mid ts) g.2.2 g.3) in
    inr (g.2.0, subst (λ l. AreSnaps l g.2.0) tags g.2.1, goes_one name c (λ b. b ≡ after_start c) (event.Lives lives_ask.Claim lives_reply.Claimed) (g.2.0 ++ event.Start (next_name c) ∷ []) y w t mid ts (refl, refl) f.turn f.own is goes)

create_placed : (name : List ℕ) (c : ActorState) (d : Draft) (w : WorldState) (t : Turn) (mid last : WorldState) (ts : List Turn) → slice_get c.drafts (a0 c) ≡ Some d → FromTurn name (at_claim c) w t mid last ts
    → PlacedBy name c (Creates d) (at_claim c) w (t ∷ ts)
create_placed name c d w t mid last ts drafted f = elim (comes_at f.did.world (at_claim c) t.event f.did.happens) [
  | inl r ↦
      let both : phase.Within (want.Lives lives_ask.Claim) ≡ phase.Within r.want = r.at in
      let same_want : r.want ≡ want.Lives lives_ask.Claim = cc in
      create_begins name c d w t mid last ts drafted f (nat_lt f.did.world.cells.lives 256) (r.is ∙ ap (event_for f.did.world.cells (at_claim c)) same_want)
  | inr j ↦ let both : phase.Within (want.Lives lives_ask.Claim) ≡ phase.Within (want.Join j.number) = j.at in absurd cc
]

-- a gate that is made, at once or once its copies are made
make_placed : (name : List ℕ) (c : ActorState) (d : Draft) (y : ActorState) (w : WorldState) (t : Turn) (mid last : WorldState) (ts : List Turn) → slice_get c.drafts (a0 c) ≡ Some d → FromTurn name y w t mid last ts
    → (s : IsMaking c y) → of_tags c s.preparation.left ≡ tags_copied c d → PlacedBy name c (Makes d) y w (t ∷ ts)
make_placed name c d y w t mid last ts drafted f s tags =
    let course = making c d drafted in
    let g = take_turn name c (HasMade c d) (IsMaking c) (SnapsLeft c) course y w t mid ts s f.turn f.own f.did
    (λ z stage there. through name c (HasMade c d) (IsMaking c) (SnapsLeft c) course last f.over ts mid z f.ready f.behind stage there) in
    let all : of_tags c (left_at y.phase) ≡ tags_copied c d = ap (λ (z : ActorState). of_tags c (left_at z.phase)) s.is ∙ tags in
    (g.0 ∷ g.1, subst (λ l. AreSnaps l (g.0 ∷ g.1)) all g.2, g.3)

-- a gate that is entered
enter_placed : (name : List ℕ) (c : ActorState) (entry : ℕ) (lent : Option Draft) (x : Entrance) (w : WorldState) (t : Turn) (mid last : WorldState) (ts : List Turn) → gate_for c entry ≡ Some x.gate
    → FromTurn name (record c { phase = phase.Entering x }) w t mid last ts → PlacedBy name c (Enters entry lent) (record c { phase = phase.Entering x }) w (t ∷ ts)
enter_placed name c entry lent x w t mid last ts held f =
    let y : ActorState = record c { phase = phase.Entering x } in
    let P : ActorState → Type 0 = λ b. b ≡ after_enter c x.gate.fuel in
    let course = entering c x in
    let g = take_turn name c (λ b. b ≡ after_enter c x.gate.fuel) (IsEntering c x) (EntryLeft c x) course y w t mid ts refl f.turn f.own f.did
    (λ z stage there. through name c (λ b. b ≡ after_enter c x.gate.fuel) (IsEntering c x) (EntryLeft c x) course last f.over ts mid z f.ready f.behind stage there) in
    subst (λ o. IsSomeAnd o (λ h. (e : Event) × IsEntry h (next_name c) e × GoesThrough name c (λ b. b ≡ after_enter c h.fuel) (e ∷ []) (Some y) w (t ∷ ts))) (sym held)
    (g.2.0, g.2.1, subst (λ es. GoesThrough name c (λ b. b ≡ after_enter c x.gate.fuel) es (Some y) w (t ∷ ts)) g.2.2 g.3)

-- a file that is opened: a number is claimed
abbrev at_open : ActorState → List ℕ → FileEntry → FdBits → ActorState
at_open c path f bits = record c { phase = phase.OpeningFile (opened_as path f bits) }

number_full : (i : Image) (c : ActorState) (path : List ℕ) (f : FileEntry) (bits : FdBits) → takes i (at_open c path f bits) (event.Fds directory_ask.Claim directory_reply.Full) ≡ refused c 2
unfolding takes
number_full i c path f bits = refl

number_claimed : (i : Image) (c : ActorState) (path : List ℕ) (f : FileEntry) (bits : FdBits) (fd number : ℕ) → takes i (at_open c path f bits) (event.Fds directory_ask.Claim (directory_reply.Claimed fd number)) ≡ at_file c path f bits fd
unfolding takes
number_claimed i c path f bits fd number = refl

open_begins : (name : List ℕ) (c : ActorState) (path : List ℕ) (f : FileEntry) (bits : FdBits) (w : WorldState) (t : Turn) (mid last : WorldState) (ts : List Turn) → FromTurn name (at_open c path f bits) w t mid last ts
    → (k : Option Claim) (d : Directory) → t.event ≡ event.Fds directory_ask.Claim (claim_reply d k) → PlacedBy name c (Opens path f bits) (at_open c path f bits) w (t ∷ ts)
open_begins name c path f bits w t mid last ts h None d is =
    let done : takes h.did.world.image (at_open c path f bits) t.event ≡ refused c 2 = ap (takes h.did.world.image (at_open c path f bits)) is ∙ number_full h.did.world.image c path f bits in
    inl (goes_one name c (λ b. b ≡ refused c 2) (event.Fds directory_ask.Claim directory_reply.Full) [] (at_open c path f bits) w t mid ts (refl, refl) h.turn h.own is (subst (λ x. IsSomeAnd x (λ b. b ≡ refused c 2)) (sym h.did.there) done))
open_begins name c path f bits w t mid last ts h (Some k) d is =
    let y = at_open c path f bits in
    let x = takes h.did.world.image y t.event in
    let fd = k.place in
    let x_is : x ≡ at_file c path f bits fd = ap (takes h.did.world.image y) is ∙ number_claimed h.did.world.image c path f bits fd d.number in
    let g = through name c (λ b. b ≡ after_opening c path bits fd) (λ z. z ≡ at_file c path f bits fd) (FileLeft f fd) (opening c path f bits fd) last h.over ts mid x h.ready h.behind x_is h.did.there in
    let goes : GoesThrough name c (λ b. b ≡ after_opening c path bits fd) (file_event f fd ∷ []) (actor_named mid.actors name) mid ts =
    subst (λ o. GoesThrough name c (λ b. b ≡ after_opening c path bits fd) (file_event f fd ∷ []) o mid ts) (sym h.did.there)
    (subst (λ es. GoesThrough name c (λ b. b ≡ after_opening c path bits fd) es (Some x) mid ts) g.2 g.3) in
    inr (fd, d.number, goes_one name c (λ b. b ≡ after_opening c path bits fd) (event.Fds directory_ask.Claim (directory_reply.Claimed fd d.number)) (file_event f fd ∷ []) y w t mid ts (refl, refl) h.turn h.own is goes)

open_placed : (name : List ℕ) (c : ActorState) (path : List ℕ) (f : FileEntry) (bits : FdBits) (w : WorldState) (t : Turn) (mid last : WorldState) (ts : List Turn) → FromTurn name (at_open c path f bits) w t mid last ts
    → PlacedBy name c (Opens path f bits) (at_open c path f bits) w (t ∷ ts)
open_placed name c path f bits w t mid last ts h = elim (comes_at h.did.world (at_open c path f bits) t.event h.did.happens) [
  | inl n ↦ open_begins name c path f bits w t mid last ts h (claim h.did.world.cells.numbers) h.did.world.cells.numbers n.is
  | inr k ↦
      let both : phase.OpeningFile (opened_as path f bits) ≡ phase.OpeningFile k.opening = k.at in
      let same_one : opened_as path f bits ≡ k.opening = cc in
      let none : None ≡ Some k.fd = ap (λ (o : FileOpening). o.number) same_one ∙ k.some in
      absurd cc
]

-- a slot is asked to close the tag that lives there, or for a block in it
abbrev at_want : ActorState → ℕ → SlotWant → ActorState
at_want c slot q = record c { phase = phase.Within (want.Slot slot q) }

wanted_event : (name : List ℕ) (c : ActorState) (slot : ℕ) (q : SlotWant) (w : WorldState) (t : Turn) (mid last : WorldState) (ts : List Turn) (f : FromTurn name (at_want c slot q) w t mid last ts)
    → t.event ≡ event_for f.did.world.cells (at_want c slot q) (want.Slot slot q)
wanted_event name c slot q w t mid last ts f = elim (comes_at f.did.world (at_want c slot q) t.event f.did.happens) [
  | inl r ↦
      let both : phase.Within (want.Slot slot q) ≡ phase.Within r.want = r.at in
      let same_want : r.want ≡ want.Slot slot q = cc in
      r.is ∙ ap (event_for f.did.world.cells (at_want c slot q)) same_want
  | inr j ↦ let both : phase.Within (want.Slot slot q) ≡ phase.Within (want.Join j.number) = j.at in absurd cc
]

-- whatever refuses or answers it at once
one_event : (name : List ℕ) (c y : ActorState) (P : ActorState → Type 0) (e : Event) (w : WorldState) (t : Turn) (mid last : WorldState) (ts : List Turn) (f : FromTurn name y w t mid last ts) → StandsAt c y → t.event ≡ e → P (takes f.did.world.image y e)
    → GoesThrough name c P (e ∷ []) (Some y) w (t ∷ ts)
one_event name c y P e w t mid last ts f stands is done =
    goes_one name c P e [] y w t mid ts stands f.turn f.own is
    (subst (λ x. IsSomeAnd x P) (sym f.did.there) (subst (λ z. P (takes f.did.world.image y z)) (sym is) done))

slot_refused : (i : Image) (c : ActorState) (slot : ℕ) (w : SlotWant) (q : SlotAsk) → (takes i (at_want c slot w) (event.Slot slot q slot_reply.NoSuch) ≡ refused c 5) × (takes i (at_want c slot w) (event.Slot slot q slot_reply.Full) ≡ refused c 2)
unfolding takes
slot_refused i c slot w q = (refl, refl)

-- the slot of a tag that was closed is released
abbrev at_release : ActorState → ℕ → ActorState
at_release c slot = record c { phase = phase.Releasing slot }

abbrev release_event : ℕ → Event
release_event slot = event.Slots (directory_ask.Release slot) directory_reply.Released

abbrev ReleaseLeft : ℕ → ActorState → List Event → Type 0
ReleaseLeft slot y es = es ≡ release_event slot ∷ []

release_done : (i : Image) (c : ActorState) (slot : ℕ) → takes i (at_release c slot) (release_event slot) ≡ answered c 0
unfolding takes
release_done i c slot = refl

releases : (c : ActorState) (slot : ℕ) (v : WorldState) (e : Event) → AtRelease (at_release c slot) e
    → Onward (λ b. b ≡ answered c 0) (λ y. y ≡ at_release c slot) (ReleaseLeft slot) (at_release c slot) e (takes v.image (at_release c slot) e)
releases c slot v e k =
    let both : phase.Releasing slot ≡ phase.Releasing k.slot = k.at in
    let same_slot : k.slot ≡ slot = cc in
    let is : e ≡ release_event slot = k.is ∙ ap release_event same_slot in
    Last (ap (λ z. z ∷ []) is) (ap (takes v.image (at_release c slot)) is ∙ release_done v.image c slot)

releasing : (c : ActorState) (slot : ℕ) → Course c (λ b. b ≡ answered c 0) (λ y. y ≡ at_release c slot) (ReleaseLeft slot)
releasing c slot = record {
  some = λ y s. (release_event slot, [], refl);
  stands = λ y s. (s ∙ ap (λ p. record c { phase = p }) (sym (ap (λ (z : ActorState). z.phase) s)), ap (λ (z : ActorState). is_running z.phase) s);
  lives = λ y s. ap (λ (z : ActorState). has_ended z.phase) s;
  awake = λ y s k at. let g : phase.Releasing slot ≡ phase.Waiting k = sym (ap (λ (z : ActorState). z.phase) s) ∙ at in absurd cc;
  steps = λ v y e s h.
      subst (λ (z : ActorState). Onward (λ b. b ≡ answered c 0) (λ w. w ≡ at_release c slot) (ReleaseLeft slot) z e (takes v.image z e)) (sym s)
      (releases c slot v e (comes_at v (at_release c slot) e (subst (λ (z : ActorState). Happens v z e) s h)));
}

close_done : (i : Image) (c : ActorState) (slot tag : ℕ) → takes i (at_want c slot (slot_want.Close tag)) (event.Slot slot (slot_ask.Close tag) slot_reply.Closed) ≡ at_release c slot
unfolding takes
close_done i c slot tag = refl

-- a tag that is deleted
abbrev DeletedBy : List ℕ → ActorState → ℕ → ℕ → ActorState → WorldState → List Turn → Type 0
DeletedBy name c tag slot y w ts =
    GoesThrough name c (λ b. b ≡ refused c 5) (event.Slot slot (slot_ask.Close tag) slot_reply.NoSuch ∷ []) (Some y) w ts
    ⊎ GoesThrough name c (λ b. b ≡ answered c 0) (event.Slot slot (slot_ask.Close tag) slot_reply.Closed ∷ release_event slot ∷ []) (Some y) w ts

delete_by : (name : List ℕ) (c : ActorState) (tag slot : ℕ) (w : WorldState) (t : Turn) (mid last : WorldState) (ts : List Turn) (f : FromTurn name (at_want c slot (slot_want.Close tag)) w t mid last ts) (g : Option Segment)
    → t.event ≡ event.Slot slot (slot_ask.Close tag) (slot_reply_of g (slot_ask.Close tag)) → DeletedBy name c tag slot (at_want c slot (slot_want.Close tag)) w (t ∷ ts)
delete_by name c tag slot w t mid last ts f g is = by_slot g is
  where
    gone : t.event ≡ event.Slot slot (slot_ask.Close tag) slot_reply.NoSuch → DeletedBy name c tag slot (at_want c slot (slot_want.Close tag)) w (t ∷ ts)
    gone e = inl (one_event name c (at_want c slot (slot_want.Close tag)) (λ b. b ≡ refused c 5) _ w t mid last ts f (refl, refl) e (slot_refused f.did.world.image c slot (slot_want.Close tag) (slot_ask.Close tag)).0)

    closed : t.event ≡ event.Slot slot (slot_ask.Close tag) slot_reply.Closed → DeletedBy name c tag slot (at_want c slot (slot_want.Close tag)) w (t ∷ ts)
    closed e =
        let x = takes f.did.world.image (at_want c slot (slot_want.Close tag)) t.event in
        let x_is : x ≡ at_release c slot = ap (takes f.did.world.image (at_want c slot (slot_want.Close tag))) e ∙ close_done f.did.world.image c slot tag in
        let k = through name c (λ b. b ≡ answered c 0) (λ z. z ≡ at_release c slot) (ReleaseLeft slot) (releasing c slot) last f.over ts mid x f.ready f.behind x_is f.did.there in
        let goes : GoesThrough name c (λ b. b ≡ answered c 0) (release_event slot ∷ []) (actor_named mid.actors name) mid ts =
        subst (λ o. GoesThrough name c (λ b. b ≡ answered c 0) (release_event slot ∷ []) o mid ts) (sym f.did.there) (subst (λ es. GoesThrough name c (λ b. b ≡ answered c 0) es (Some x) mid ts) k.2 k.3) in
        inr (goes_one name c (λ b. b ≡ answered c 0) (event.Slot slot (slot_ask.Close tag) slot_reply.Closed) (release_event slot ∷ []) (at_want c slot (slot_want.Close tag)) w t mid ts (refl, refl) f.turn f.own e goes)

    by_tag : (u : Bool) → t.event ≡ event.Slot slot (slot_ask.Close tag) (if u then slot_reply.Closed else slot_reply.NoSuch) → DeletedBy name c tag slot (at_want c slot (slot_want.Close tag)) w (t ∷ ts)
    by_tag true e = closed e
    by_tag false e = gone e

    by_slot : (o : Option Segment) → t.event ≡ event.Slot slot (slot_ask.Close tag) (slot_reply_of o (slot_ask.Close tag)) → DeletedBy name c tag slot (at_want c slot (slot_want.Close tag)) w (t ∷ ts)
    by_slot None e = gone e
    by_slot (Some h) e = by_tag (h.tag == tag) e

delete_placed : (name : List ℕ) (c : ActorState) (tag : ℕ) (w : WorldState) (t : Turn) (mid last : WorldState) (ts : List Turn) → has c.made.tags tag ≡ true → FromTurn name (at_want c (slot_held c tag) (slot_want.Close tag)) w t mid last ts
    → PlacedBy name c (Deletes tag) (at_want c (slot_held c tag) (slot_want.Close tag)) w (t ∷ ts)
delete_placed name c tag w t mid last ts made f =
    let slot = slot_held c tag in
    at_slot (λ s. DeletedBy name c tag s (at_want c slot (slot_want.Close tag)) w (t ∷ ts)) (slot_on c.sheet c.made tag) slot (made_slot c tag made)
    (delete_by name c tag slot w t mid last ts f (slot_in f.did.world.cells slot) (wanted_event name c slot (slot_want.Close tag) w t mid last ts f))

-- a block that is placed
abbrev AllottedBy : List ℕ → ActorState → ℕ → ℕ → ℕ → ActorState → WorldState → List Turn → Type 0
AllottedBy name c tag size slot y w ts =
    GoesThrough name c (λ b. b ≡ refused c 5) (event.Slot slot (slot_ask.Smalloc tag size) slot_reply.NoSuch ∷ []) (Some y) w ts
    ⊎ GoesThrough name c (λ b. b ≡ refused c 2) (event.Slot slot (slot_ask.Smalloc tag size) slot_reply.Full ∷ []) (Some y) w ts
    ⊎ ((offset : ℕ) × GoesThrough name c (λ b. b ≡ answered c (window_address slot offset)) (event.Slot slot (slot_ask.Smalloc tag size) (slot_reply.Placed offset) ∷ []) (Some y) w ts)

place_done : (i : Image) (c : ActorState) (slot tag size offset : ℕ) → takes i (at_want c slot (slot_want.Smalloc tag size)) (event.Slot slot (slot_ask.Smalloc tag size) (slot_reply.Placed offset)) ≡ answered c (window_address slot offset)
unfolding takes
place_done i c slot tag size offset = refl

allot_by : (name : List ℕ) (c : ActorState) (tag size slot : ℕ) (w : WorldState) (t : Turn) (mid last : WorldState) (ts : List Turn) (f : FromTurn name (at_want c slot (slot_want.Smalloc tag size)) w t mid last ts) (g : Option Segment)
    → t.event ≡ event.Slot slot (slot_ask.Smalloc tag size) (slot_reply_of g (slot_ask.Smalloc tag size)) → AllottedBy name c tag size slot (at_want c slot (slot_want.Smalloc tag size)) w (t ∷ ts)
allot_by name c tag size slot w t mid last ts f g is = by_slot g is
  where
    gone : t.event ≡ event.Slot slot (slot_ask.Smalloc tag size) slot_reply.NoSuch → AllottedBy name c tag size slot (at_want c slot (slot_want.Smalloc tag size)) w (t ∷ ts)
    gone e = inl (one_event name c (at_want c slot (slot_want.Smalloc tag size)) (λ b. b ≡ refused c 5) _ w t mid last ts f (refl, refl) e (slot_refused f.did.world.image c slot (slot_want.Smalloc tag size) (slot_ask.Smalloc tag size)).0)

    by_gap : (o : Option ℕ) → t.event ≡ event.Slot slot (slot_ask.Smalloc tag size) (place_reply o) → AllottedBy name c tag size slot (at_want c slot (slot_want.Smalloc tag size)) w (t ∷ ts)
    by_gap None e = inr (inl (one_event name c (at_want c slot (slot_want.Smalloc tag size)) (λ b. b ≡ refused c 2) _ w t mid last ts f (refl, refl) e (slot_refused f.did.world.image c slot (slot_want.Smalloc tag size) (slot_ask.Smalloc tag size)).1))
    by_gap (Some offset) e = inr (inr (offset, one_event name c (at_want c slot (slot_want.Smalloc tag size)) (λ b. b ≡ answered c (window_address slot offset)) _ w t mid last ts f (refl, refl) e (place_done f.did.world.image c slot tag size offset)))

    by_tag : (u : Bool) (o : Option ℕ) → t.event ≡ event.Slot slot (slot_ask.Smalloc tag size) (if u then place_reply o else slot_reply.NoSuch) → AllottedBy name c tag size slot (at_want c slot (slot_want.Smalloc tag size)) w (t ∷ ts)
    by_tag true o e = by_gap o e
    by_tag false o e = gone e

    by_slot : (o : Option Segment) → t.event ≡ event.Slot slot (slot_ask.Smalloc tag size) (slot_reply_of o (slot_ask.Smalloc tag size)) → AllottedBy name c tag size slot (at_want c slot (slot_want.Smalloc tag size)) w (t ∷ ts)
    by_slot None e = gone e
    by_slot (Some h) e = by_tag (h.tag == tag) _ e

allot_placed : (name : List ℕ) (c : ActorState) (tag size : ℕ) (w : WorldState) (t : Turn) (mid last : WorldState) (ts : List Turn) → may_use c tag right.ReadWrite ≡ true
    → FromTurn name (at_want c (slot_held c tag) (slot_want.Smalloc tag size)) w t mid last ts → PlacedBy name c (Allots tag size) (at_want c (slot_held c tag) (slot_want.Smalloc tag size)) w (t ∷ ts)
allot_placed name c tag size w t mid last ts may f =
    let slot = slot_held c tag in
    at_slot (λ s. AllottedBy name c tag size s (at_want c slot (slot_want.Smalloc tag size)) w (t ∷ ts)) (slot_on c.sheet c.made tag) slot (used_slot c tag may)
    (allot_by name c tag size slot w t mid last ts f (slot_in f.did.world.cells slot) (wanted_event name c slot (slot_want.Smalloc tag size) w t mid last ts f))

-- ---- from the instruction on

-- so many instructions as it takes to come to rest
stop_alike : (i : Image) (n m : ℕ) (a : ActorState) (t : Bool) → is_running a.phase ≡ t → is_running (run_local i n a).phase ≡ false → is_running (run_local i m a).phase ≡ false → run_local i n a ≡ run_local i m a
stop_alike i n m a false e stop other = stays i n a e ∙ sym (stays i m a e)
stop_alike i zero m a true e stop other = let f : true ≡ false = sym e ∙ unfold run_local in stop in absurd cc
stop_alike i (suc n) zero a true e stop other = let f : true ≡ false = sym e ∙ unfold run_local in other in absurd cc
stop_alike i (suc n) (suc m) a true e stop other =
    let first : is_running (run_local i n (step i a)).phase ≡ false = ap (λ (x : ActorState). is_running x.phase) (sym (goes_on i n a e)) ∙ stop in
    let second : is_running (run_local i m (step i a)).phase ≡ false = ap (λ (x : ActorState). is_running x.phase) (sym (goes_on i m a e)) ∙ other in
    goes_on i n a e ∙ (stop_alike i n m (step i a) _ refl first second ∙ sym (goes_on i m a e))

rests_at : (i : Image) (n : ℕ) (a : ActorState) → is_running (run_local i n a).phase ≡ false → rest i a ≡ run_local i n a
unfolding rest
rests_at i n a stop = stop_alike i (a.fuel + 1) n a _ refl (rest-stops i a) stop

-- who goes on in a turn is as the turn has it
goes_is : (actors : List ActorState) (a b : ActorState) → GoesOnAs actors a a.phase b → b ≡ ready actors a
goes_is actors a b goes = by_phase a.phase refl goes
  where
    by_run : (k : ℕ) (o : Option ActorState) → a.phase ≡ phase.Waiting k → actor_named actors (a.name ++ k ∷ []) ≡ o → IsSomeAnd o (λ c. (e : End) × (c.phase ≡ phase.Ended e) × (b ≡ after_join a (phase.Waiting k) k e c.fuel)) → b ≡ ready actors a
    by_run k None at there so = absurd so
    by_run k (Some c) at there so =
        let ended : ended_with (actor_named actors (child_name a.name k)) ≡ Some (so.0, c.fuel) = ap ended_with there ∙ ap (λ p. option_map (λ e. (e, c.fuel)) (end_reached p)) so.1 in
        so.2 ∙ sym (ap (ready_at actors a) at ∙ (ap (resumes a k) ended ∙ ap (λ p. answered_end (record a { fuel = a.fuel + c.fuel; unjoined = without_child a.unjoined k }) p so.0) at))

    by_phase : (p : Phase) → a.phase ≡ p → GoesOnAs actors a p b → b ≡ ready actors a
    by_phase phase.Running at is = is ∙ sym (ap (ready_at actors a) at)
    by_phase (phase.Within q) at is = is ∙ sym (ap (ready_at actors a) at)
    by_phase (phase.Starting pre) at is = is ∙ sym (ap (ready_at actors a) at)
    by_phase (phase.MakingGate pre) at is = is ∙ sym (ap (ready_at actors a) at)
    by_phase (phase.Opening slot tag) at is = is ∙ sym (ap (ready_at actors a) at)
    by_phase (phase.Releasing slot) at is = is ∙ sym (ap (ready_at actors a) at)
    by_phase (phase.OpeningFile o) at is = is ∙ sym (ap (ready_at actors a) at)
    by_phase (phase.Entering x) at is = is ∙ sym (ap (ready_at actors a) at)
    by_phase (phase.Waiting k) at is = by_run k (actor_named actors (a.name ++ k ∷ [])) at refl is
    by_phase (phase.Ending e) at is = is ∙ sym (ap (ready_at actors a) at)
    by_phase (phase.Ended e) at is = is ∙ sym (ap (ready_at actors a) at)

-- the draft of a start
created_draft : (o : Option Draft) (d : Draft) → option_map (λ x. Creates x) o ≡ Some (Creates d) → o ≡ Some d
created_draft None d e = absurd cc
created_draft (Some x) d e = let is : x ≡ d = cc in ap Some is

-- a turn, as whose actor it goes on, and the run behind it
record CallTurn (old : WorldState) (t : Turn) (later : List Turn) (last : WorldState) (b : ActorState) : Type 0 where
  actor : ActorState
  all : AllReady old
  over : EndsAll last
  run : Runs old (t ∷ later) last
  named : actor_named old.actors t.actor ≡ Some actor
  goes : b ≡ ready old.actors actor

from_turn : (old : WorldState) (t : Turn) (later : List Turn) (last : WorldState) (b : ActorState) (n : ℕ) (c : CallTurn old t later last b) (x : ActorState)
    → run_local old.image (suc n) b ≡ x → is_running x.phase ≡ false → FromTurn t.actor x old t c.run.0 last later
from_turn old t later last b n c x is stops =
    let all = c.all in
    let stop : is_running (run_local old.image (suc n) b).phase ≡ false = ap (λ (z : ActorState). is_running z.phase) is ∙ stops in
    let rests : rest old.image (ready old.actors c.actor) ≡ x = ap (rest old.image) (sym c.goes) ∙ (rests_at old.image (suc n) b stop ∙ is) in
    record {
      turn = c.run.1;
      own = same_self t.actor;
      did = own_turn old t c.run.0 c.actor x all c.run.1 c.named rests;
      ready = turn_ready old t.actor t.event c.run.0 all c.run.1;
      behind = c.run.2;
      over = c.over;
    }

-- a gate that is made by the instruction itself, or waits for copies
gate_made : (old : WorldState) (t : Turn) (later : List Turn) (last : WorldState) (b : ActorState) (n : ℕ) (c : CallTurn old t later last b) (p : ActorState) (d : Draft) (x : ActorState)
    → run_local old.image (suc n) b ≡ x → slice_get p.drafts (a0 p) ≡ Some d → (q : Preparation) → of_tags p q.left ≡ tags_copied p d → IsOfTag p q.left → (l : List CopyGrant) → q.left ≡ l → MakesWith p d q l x
    → PlacedBy t.actor p (Makes d) x old (t ∷ later)
gate_made old t later last b n c p d x is drafted q tags next [] left made = ([], subst (λ k. AreSnaps k []) (ap (of_tags p) (sym left) ∙ tags) refl, (made.0, made.1, made.3))
gate_made old t later last b n c p d x is drafted q tags next (g ∷ gs) left made =
    let stops : is_running x.phase ≡ false = ap (λ (z : ActorState). is_running z.phase) made in
    make_placed t.actor p d x old t c.run.0 last later drafted (from_turn old t later last b n c x is stops) (record { preparation = q; grant = g; others = gs; is = made; left = left; next = next }) tags

-- by the request
module _ (old : WorldState) (t : Turn) (later : List Turn) (last : WorldState) (b : ActorState) (n : ℕ) (c : CallTurn old t later last b) (fuel : ℕ)
    (runs : is_running (run_local old.image n b).phase ≡ true) (enough : (run_local old.image n b).fuel ≡ suc fuel) where
  -- the actor at the call, with its unit of fuel taken, and after the instruction
  abbrev y : ActorState
  y = run_local old.image n b

  abbrev p : ActorState
  p = record y { fuel = fuel }

  stepped : run_local old.image (suc n) b ≡ step old.image y
  stepped = one_more old.image n b _ refl runs

  running : y.phase ≡ phase.Running
  running = running_is y.phase runs

  placed_at : (r : Request) (x : ActorState) → run_local old.image (suc n) b ≡ x → PlacedBy t.actor p r x old (t ∷ later) → PlacedBy t.actor p r (run_local old.image (suc n) b) old (t ∷ later)
  placed_at r x is h = subst (λ (z : ActorState). PlacedBy t.actor p r z old (t ∷ later)) (sym is) h

  placed : (r : Request) → request_at old.image old.cells p ≡ Some r → lacks p r ≡ None → is_refused p r ≡ false → PlacedBy t.actor p r (run_local old.image (suc n) b) old (t ∷ later)
  placed (Creates d) asked allowed passed =
      let comes = step_comes old.image y fuel running enough in
      let is : step old.image y ≡ at_claim p = (comes.met old.cells (Creates d) asked).done allowed passed in
      let wants = subst (λ (z : ActorState). WantsAs (LoadsAt old.image y.hart) p (λ k. request_at old.image k p) (λ k. refusal_after old.image k p) z z.phase) is comes.wants in
      let drafted : slice_get p.drafts (a0 p) ≡ Some d = created_draft (slice_get p.drafts (a0 p)) d (sym (wants.3 old.cells) ∙ asked) in
      let x_is = stepped ∙ is in
      placed_at (Creates d) (at_claim p) x_is (create_placed t.actor p d old t c.run.0 last later drafted (from_turn old t later last b n c (at_claim p) x_is refl))
  placed (Makes d) asked allowed passed =
      let drafted = makes_drafted old.image old.cells p d asked in
      let so : InstrMakesGates old y (suc fuel) (step old.image y) = subst (λ m. InstrMakesGates old y m (step old.image y)) enough (step_makes_gates old y running) in
      let by : BeginsUnless old.image p d (lacks p (Makes d)) (step old.image y) = subst (λ o. GatesByRequest old.image p o (step old.image y)) asked so in
      let g : PreparesGate p d _ (copies_in (sheet_of_draft p.sheet p.made d).tags) (step old.image y) = subst (λ o. BeginsUnless old.image p d o (step old.image y)) allowed by in
      let q = g.preparation in
      let tags : of_tags p q.left ≡ tags_copied p d = sym (prepared_tags p p _ _ q (λ tag. refl) g.prepared) in
      placed_at (Makes d) (step old.image y) stepped (gate_made old t later last b n c p d (step old.image y) stepped drafted q tags g.prepared.next q.left refl g.after)
  placed (Enters entry lent) asked allowed passed =
      let about : IsAboutToEnter p entry lent (step old.image y) = ((step_comes old.image y fuel running enough).met old.cells (Enters entry lent) asked).done allowed passed in
      let x : ActorState = record p { phase = phase.Entering about.0 } in
      let x_is = stepped ∙ about.3 in
      placed_at (Enters entry lent) x x_is (enter_placed t.actor p entry lent about.0 old t c.run.0 last later about.1 (from_turn old t later last b n c x x_is refl))
  placed (Opens path f bits) asked allowed passed =
      let is : step old.image y ≡ at_open p path f bits = ((step_comes old.image y fuel running enough).met old.cells (Opens path f bits) asked).done allowed passed in
      let x_is = stepped ∙ is in
      placed_at (Opens path f bits) (at_open p path f bits) x_is (open_placed t.actor p path f bits old t c.run.0 last later (from_turn old t later last b n c (at_open p path f bits) x_is refl))
  placed (Deletes tag) asked allowed passed =
      let x = at_want p (slot_held p tag) (slot_want.Close tag) in
      let is : step old.image y ≡ x = ((step_comes old.image y fuel running enough).met old.cells (Deletes tag) asked).done allowed passed in
      let x_is = stepped ∙ is in
      placed_at (Deletes tag) x x_is (delete_placed t.actor p tag old t c.run.0 last later (none_lacking _ (denial.NotMaker tag) allowed) (from_turn old t later last b n c x x_is refl))
  placed (Allots tag size) asked allowed passed =
      let x = at_want p (slot_held p tag) (slot_want.Smalloc tag size) in
      let is : step old.image y ≡ x = ((step_comes old.image y fuel running enough).met old.cells (Allots tag size) asked).done allowed passed in
      let x_is = stepped ∙ is in
      placed_at (Allots tag size) x x_is (allot_placed t.actor p tag size old t c.run.0 last later (none_lacking _ (denial.Tag tag right.ReadWrite) allowed) (from_turn old t later last b n c x x_is refl))
  placed r asked allowed passed = tt

turn_placed : (old : WorldState) (t : Turn) (later : List Turn) (last : WorldState) → AllReady old → EndsAll last → Runs old (t ∷ later) last → CallsTakePlace old t later
turn_placed old t later last all over run a b named goes n x r call =
    let turn : CallTurn old t later last b = record { actor = a; all = all; over = over; run = run; named = named; goes = goes_is old.actors a b goes } in
    let q : ActorState = record (run_local old.image n b) { fuel = call.fuel } in
    let asked : request_at old.image old.cells q ≡ Some r = subst (λ (z : ActorState). request_at old.image old.cells z ≡ Some r) call.is call.asked in
    let allowed : lacks q r ≡ None = subst (λ (z : ActorState). lacks z r ≡ None) call.is call.allowed in
    let passed : is_refused q r ≡ false = subst (λ (z : ActorState). is_refused z r ≡ false) call.is call.passed in
    subst (λ (z : ActorState). PlacedBy t.actor z r (run_local old.image (suc n) b) old (t ∷ later)) (sym call.is)
    (placed old t later last b n turn call.fuel call.runs call.enough r asked allowed passed)

each_placed : (last : WorldState) → EndsAll last → (ts : List Turn) (old : WorldState) → AllReady old → Runs old ts last → EachTurnOn CallsTakePlace old ts
each_placed last over [] old all run = tt
each_placed last over (t ∷ ts) old all run = (turn_placed old t ts last all over run, run.0, run.1, each_placed last over ts run.0 (turn_ready old t.actor t.event run.0 all run.1) run.2)

pub calls_take_place : AllowedCallsTakePlace
calls_take_place i turns last run = each_placed last (λ complete m z there. all_have_ended i turns last run complete m z there) turns (initial_state i) (opening_ready i) run
