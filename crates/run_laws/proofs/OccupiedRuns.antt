-- Every turn of a run leaves the slots and the tags as they should be, and so does every run.
use Rattle.std.proofs.Common.{◌≡◌, ℕ, zero, suc, ◌+◌, ◌<◌, ◌≤◌, ◌==◌, Bool, true, false, true≢false, List, [], ◌∷◌, length, refl, sym, ap, subst, ◌∙◌, arith, inl, inr}
use Rattle.std.proofs.lemmas.Bool.{eqb-true, eq-eqb}
use Rattle.std.proofs.lemmas.Bool.Decides.{nat_tests}
use Rattle.std.specs.Option.{option_or}
use Rattle.std.specs.Ordering.{nat_cmp, eq_by_cmp}
use Rattle.std.specs.Prelude.{Option, Some, None, option_map, not, ◌&&◌, ◌||◌, ◌⊎◌, nat_lt, slice_get, slice_range, if◌then◌else◌}
use Rattle.wedge_events.specs.declared.cells.GateReply.TheVariants as gate_reply
use Rattle.wedge_events.specs.declared.cells.GateAsk.TheVariants as gate_ask
use Rattle.wedge_base.specs.Blocks.{rounded, first_fit}
use Rattle.wedge_base.specs.Bytes.{number_of}
use Rattle.wedge_events.specs.Directories.{Directory, Claim, no_number, claim, claim_from, claim_reply, claim_next, contains_place, is_claimed, release}
use Rattle.wedge_base.specs.Images.{Image, most_pages}
use Rattle.wedge_base.specs.Maps.{Map, at}
use Rattle.wedge_base.specs.Names.{same, root_name}
use Rattle.wedge_base.specs.Sheets.{Sheet, Made, slot_on, with_grant, root_tags, made_tag}
use Rattle.wedge_events.specs.Slots.{Segment, place_reply, slot_reply as slot_reply_of, declared_segment}
use Rattle.wedge_base.specs.declared.image.TagEntry.{TagEntry}
use Rattle.wedge_base.specs.declared.rights.Grant.{Grant}
use Rattle.wedge_base.specs.declared.rights.Right.{Right}
use Rattle.wedge_base.specs.declared.rights.Right.TheVariants as right
use Rattle.wedge_events.specs.declared.events.SlotWant.TheVariants as slot_want
use Rattle.wedge_events.specs.declared.events.Want.{Want}
use Rattle.wedge_events.specs.declared.events.Want.TheVariants as want
use Rattle.wedge_events.specs.declared.events.Event.{Event}
use Rattle.wedge_events.specs.declared.events.Event.TheVariants as event
use Rattle.wedge_events.specs.declared.events.Turn.{Turn}
use Rattle.wedge_events.specs.declared.cells.DirectoryAsk.TheVariants as directory_ask
use Rattle.wedge_events.specs.declared.cells.DirectoryReply.TheVariants as directory_reply
use Rattle.wedge_events.specs.declared.cells.Live.{Live}
use Rattle.wedge_events.specs.declared.cells.LivesAsk.TheVariants as lives_ask
use Rattle.wedge_events.specs.declared.cells.LivesReply.TheVariants as lives_reply
use Rattle.wedge_events.specs.declared.cells.SlotAsk.{SlotAsk}
use Rattle.wedge_events.specs.declared.cells.SlotAsk.TheVariants as slot_ask
use Rattle.wedge_events.specs.declared.cells.SlotReply.{SlotReply}
use Rattle.wedge_events.specs.declared.cells.SlotReply.TheVariants as slot_reply
use Rattle.machine.specs.declared.phase.Phase.{Phase}
use Rattle.machine.specs.declared.phase.Phase.TheVariants as phase
use Rattle.machine.specs.Actors.{ActorState, root}
use Rattle.machine.specs.Between.{IsBetween}
use Rattle.machine.specs.Calls.{a0, are_pages}
use Rattle.run_laws.specs.CellHistories.{Occupant, occupant, occupant_in, occupant_by, occupant_after_event, places_after_event}
use Rattle.machine.specs.Cells.{Cells, opening_cells, slot_in, tag_in, cells_after}
use Rattle.machine.specs.Children.{child_name}
use Rattle.run_laws.specs.Families.{made_under, made_by}
use Rattle.run_laws.specs.Laws.{SlotsAreOccupied}
use Rattle.machine.specs.Local.{rest, is_running}
use Rattle.run_laws.specs.Moments.{EachTurn}
use Rattle.run_laws.specs.GateCalls.{EventMakesGates}
use Rattle.run_laws.specs.Occupancy.{slot_of_call, tag_of_call, slot_known, GateHasIn, HasIn, AreOccupied, AskSuits, most_numbers, IsFreed, SlotsSuit}
use Rattle.machine.specs.Take.{next_start, takes, actor_begun, child_of, run_by}
use Rattle.machine.specs.Worlds.{WorldState, initial_state, actor_named, with_actor, resumed, turn_of, Runs}
use Rattle.run_laws.proofs.Between.{IsPreparing, MayPrepare, MayNumber, Leaves, event_for, takes_name, takes_between, MayWait}
use Rattle.run_laws.proofs.Bounding.{equal_keys, with_same, with_other}
use Rattle.run_laws.proofs.CellChanging.{IsChanged, event_changes}
use Rattle.run_laws.proofs.Directing.{claimed_rises}
use Rattle.run_laws.proofs.Families.{takes_made, takes_sheet, made_same, want_made, child_begins, run_begins}
use Rattle.run_laws.proofs.FamilyRuns.{Acts, ActsAlone, Starts, Enters, Joins, acts, one_begins, kept_at_rest}
use Rattle.run_laws.proofs.GateMoments.{event_makes_gates}
use Rattle.run_laws.proofs.Happening.{Happens, snap_cases, Requested, Joined, Snaps, GateSnaps, Started, Opens, Releases, Numbers, OpensFile, LastJoined, Ended, EntersGate, LeavesGate, EntersRecycled, LeavesRecycled}
use Rattle.run_laws.proofs.KnownGates.{Grows, Keeps, by_phase}
use Rattle.run_laws.proofs.Meeting.{IsRequest}
use Rattle.run_laws.proofs.NumbersGiven.{Spends, turn_spends, opening_spends, released_number}
use Rattle.run_laws.proofs.Occupying.{Turns, IsPlain, occupied_after, stays_so, claims_so, opens_so, closes_so, releases_so}
use Rattle.run_laws.proofs.Opening.{cells_open}
use Rattle.machine.proofs.Resting.{rest-name, rest-stays, rest-uncalm}
use Rattle.run_laws.proofs.Settling.{AreCells, AllReady, slots_size, turn_happens, turn_ready, opening_ready, turned_there}
use Rattle.run_laws.proofs.SlotsKnown.{grown_has, rest_has, same_has, child_has, run_of_has}
use Rattle.run_laws.proofs.Trees.{IsPut, put_same}
use Rattle.run_laws.proofs.Turns.{Readies, Stays, Back, back, readies, turn_from}
use Rattle.tag_directory.specs.Laws.{AreReleased}
use Rattle.tag_directory.proofs.Places.{given_apart}

-- ---- which tag lives in a slot, as an event leaves it

tag_of : Option Occupant → Option ℕ
tag_of o = option_map (λ x. x.tag) o

tag_seen : (c : Cells) (slot : ℕ) → tag_in c slot ≡ tag_of (occupant_in c slot)
unfolding tag_of
tag_seen c slot = by_segment (slot_in c slot)
  where
    by_segment : (g : Option Segment) → option_map (λ x. x.tag) g ≡ option_map (λ (x : Occupant). x.tag) (option_map (λ y. occupant y.tag y.blocks) g)
    by_segment None = refl
    by_segment (Some g) = refl

-- an event of a slot that lets no tag live there, nor ends one
abbrev IsQuietSlot : SlotReply → SlotAsk → Type 0
IsQuietSlot slot_reply.Closed q = ⊥
IsQuietSlot r (slot_ask.Open tag pages) = ⊥
IsQuietSlot r q = Unit {0}

abbrev IsQuiet : Event → Type 0
IsQuiet (event.Slots q r) = ⊥
IsQuiet (event.Slot slot q r) = IsQuietSlot r q
IsQuiet e = Unit {0}

quiet_tag : (t : Option Occupant) (q : SlotAsk) (r : SlotReply) → IsQuietSlot r q → tag_of (occupant_by t q r) ≡ tag_of t
unfolding tag_of
quiet_tag t q slot_reply.Closed k = absurd k
quiet_tag t (slot_ask.Open tag pages) r k = absurd k
quiet_tag None (slot_ask.Smalloc tag size) (slot_reply.Placed offset) k = refl
quiet_tag (Some x) (slot_ask.Smalloc tag size) (slot_reply.Placed offset) k = refl
quiet_tag None (slot_ask.Sfree offset live) slot_reply.Freed k = refl
quiet_tag (Some x) (slot_ask.Sfree offset live) slot_reply.Freed k = refl
quiet_tag t (slot_ask.Close tag) r k = refl
quiet_tag t (slot_ask.Load width offset live) r k = refl
quiet_tag t (slot_ask.Store width offset value live) r k = refl
quiet_tag t (slot_ask.Smalloc tag size) r k = refl
quiet_tag t (slot_ask.Sfree offset live) r k = refl
quiet_tag t (slot_ask.Snap tag) r k = refl

quiet_tags : (slot : ℕ) (t : Option Occupant) (e : Event) → IsQuiet e → tag_of (occupant_after_event slot t e) ≡ tag_of t
quiet_tags slot t (event.Slot s q r) k = by_slot (s == slot)
  where
    by_slot : (b : Bool) → tag_of (if b then occupant_by t q r else t) ≡ tag_of t
    by_slot true = quiet_tag t q r k
    by_slot false = refl
quiet_tags slot t (event.Slots q r) k = absurd k
quiet_tags slot t e k = refl

quiet_places : (d : Directory) (e : Event) → IsQuiet e → places_after_event d e ≡ d
quiet_places d (event.Slots q r) k = absurd k
quiet_places d e k = refl

-- an actor that is between instructions is in no such call
between_calls : (p : Phase) → IsBetween p → (slot_of_call p ≡ None) × (tag_of_call p ≡ None)
between_calls phase.Running h = (refl, refl)
between_calls (phase.Within q) h = absurd h
between_calls (phase.Starting pre) h = absurd h
between_calls (phase.MakingGate pre) h = absurd h
between_calls (phase.Opening slot tag) h = absurd h
between_calls (phase.Releasing slot) h = absurd h
between_calls (phase.Entering entrance) h = absurd h
between_calls (phase.Waiting number) h = absurd h
between_calls (phase.OpeningFile o) h = absurd h
between_calls (phase.Ending e) h = (refl, refl)
between_calls (phase.Ended e) h = (refl, refl)

preparing_calls : (p : Phase) → IsPreparing p → (slot_of_call p ≡ None) × (tag_of_call p ≡ None)
preparing_calls (phase.Starting pre) h = (refl, refl)
preparing_calls p h = absurd h

prepared_calls : (p : Phase) → MayPrepare p → (slot_of_call p ≡ None) × (tag_of_call p ≡ None)
prepared_calls phase.Running h = (refl, refl)
prepared_calls (phase.Within q) h = absurd h
prepared_calls (phase.Starting pre) h = (refl, refl)
prepared_calls (phase.MakingGate pre) h = (refl, refl)
prepared_calls (phase.Opening slot tag) h = absurd h
prepared_calls (phase.Releasing slot) h = absurd h
prepared_calls (phase.Entering entrance) h = absurd h
prepared_calls (phase.Waiting number) h = absurd h
prepared_calls (phase.OpeningFile o) h = absurd h
prepared_calls (phase.Ending e) h = (refl, refl)
prepared_calls (phase.Ended e) h = (refl, refl)

numbered_calls : (fd : ℕ) (p : Phase) → MayNumber fd p → (slot_of_call p ≡ None) × (tag_of_call p ≡ None)
numbered_calls fd phase.Running h = (refl, refl)
numbered_calls fd (phase.OpeningFile o) h = (refl, refl)
numbered_calls fd (phase.Within q) h = absurd h
numbered_calls fd (phase.Starting pre) h = absurd h
numbered_calls fd (phase.MakingGate pre) h = absurd h
numbered_calls fd (phase.Opening slot tag) h = absurd h
numbered_calls fd (phase.Releasing slot) h = absurd h
numbered_calls fd (phase.Entering entrance) h = absurd h
numbered_calls fd (phase.Waiting number) h = absurd h
numbered_calls fd (phase.Ending x) h = absurd h
numbered_calls fd (phase.Ended x) h = absurd h

waiting_calls : (p : Phase) → MayWait p → (slot_of_call p ≡ None) × (tag_of_call p ≡ None)
waiting_calls phase.Running h = (refl, refl)
waiting_calls (phase.Waiting k) h = (refl, refl)
waiting_calls p h = absurd h

quiet_calls : (e : Event) (p : Phase) → IsQuiet e → Leaves e p → (slot_of_call p ≡ None) × (tag_of_call p ≡ None)
quiet_calls (event.Lives lives_ask.Claim lives_reply.Claimed) p k h = preparing_calls p h
quiet_calls (event.Slot slot q (slot_reply.Snapped pages)) p k h = prepared_calls p h
quiet_calls (event.Slot slot q slot_reply.Gone) p k h = prepared_calls p h
quiet_calls (event.Lives lives_ask.Claim lives_reply.Full) p k h = between_calls p h
quiet_calls (event.Lives lives_ask.Claim lives_reply.Released) p k h = between_calls p h
quiet_calls (event.Lives (lives_ask.Release x) r) p k h = between_calls p h
quiet_calls (event.Slots q r) p k h = absurd k
quiet_calls (event.Fds directory_ask.Claim (directory_reply.Claimed fd number)) p k h = numbered_calls fd p h
quiet_calls (event.Fds directory_ask.Claim directory_reply.Full) p k h = between_calls p h
quiet_calls (event.Fds directory_ask.Claim directory_reply.Released) p k h = between_calls p h
quiet_calls (event.Fds (directory_ask.Release place) r) p k h = between_calls p h
quiet_calls (event.Slot slot q slot_reply.Closed) p k h = absurd k
quiet_calls (event.Slot slot q r) p k h = between_calls p h
quiet_calls (event.Enter run) p k h = waiting_calls p h
quiet_calls (event.Gate id (gate_ask.Enter run first) (gate_reply.Entered memory)) p k h = waiting_calls p h
quiet_calls e p k h = between_calls p h

-- an actor that comes to rest in no such call was in none
running_free : (p : Phase) → is_running p ≡ true → slot_of_call p ≡ None
running_free phase.Running e = refl
running_free p e = absurd cc

rest_free : (i : Image) (a : ActorState) → slot_of_call (rest i a).phase ≡ None → slot_of_call a.phase ≡ None
rest_free i a free = by_running (is_running a.phase) refl
  where
    by_running : (t : Bool) → is_running a.phase ≡ t → slot_of_call a.phase ≡ None
    by_running true e = running_free a.phase e
    by_running false e = ap (λ (x : ActorState). slot_of_call x.phase) (sym (rest-stays i a e)) ∙ free

-- ---- the replies to requests that are quiet

load_quiet : (g : Option Segment) (offset width : ℕ) (live : Option Live) → IsQuietSlot (slot_reply_of g (slot_ask.Load width offset live)) (slot_ask.Load width offset live)
load_quiet None offset width live = tt
load_quiet (Some g) offset width live = by_tests _ _
  where
    by_tests : (u t : Bool) → IsQuietSlot (if not u then slot_reply.Unmapped else if t then slot_reply.Loaded (number_of (slice_range g.bytes offset (offset + width))) else slot_reply.Denied g.tag right.Read) (slot_ask.Load width offset live)
    by_tests false t = tt
    by_tests true false = tt
    by_tests true true = tt

store_quiet : (g : Option Segment) (offset width value : ℕ) (live : Option Live) → IsQuietSlot (slot_reply_of g (slot_ask.Store width offset value live)) (slot_ask.Store width offset value live)
store_quiet None offset width value live = tt
store_quiet (Some g) offset width value live = by_tests _ _
  where
    by_tests : (u t : Bool) → IsQuietSlot (if not u then slot_reply.Unmapped else if t then slot_reply.Stored else slot_reply.Denied g.tag right.ReadWrite) (slot_ask.Store width offset value live)
    by_tests false t = tt
    by_tests true false = tt
    by_tests true true = tt

place_quiet : (g : Option Segment) (tag size : ℕ) → IsQuietSlot (slot_reply_of g (slot_ask.Smalloc tag size)) (slot_ask.Smalloc tag size)
place_quiet None tag size = tt
place_quiet (Some g) tag size = by_tests (g.tag == tag) (first_fit 0 (rounded size) (length g.bytes) g.blocks)
  where
    by_tests : (t : Bool) (o : Option ℕ) → IsQuietSlot (if t then place_reply o else slot_reply.NoSuch) (slot_ask.Smalloc tag size)
    by_tests false o = tt
    by_tests true None = tt
    by_tests true (Some offset) = tt

free_quiet : (g : Option Segment) (offset : ℕ) (live : Option Live) → IsQuietSlot (slot_reply_of g (slot_ask.Sfree offset live)) (slot_ask.Sfree offset live)
free_quiet None offset live = tt
free_quiet (Some g) offset live = by_tests _ _
  where
    by_tests : (t u : Bool) → IsQuietSlot (if not t then slot_reply.Denied g.tag right.ReadWrite else if u then slot_reply.Freed else slot_reply.Bad) (slot_ask.Sfree offset live)
    by_tests false u = tt
    by_tests true true = tt
    by_tests true false = tt

snap_quiet : (g : Option Segment) (tag : ℕ) → IsQuietSlot (slot_reply_of g (slot_ask.Snap tag)) (slot_ask.Snap tag)
snap_quiet g tag = snap_cases (λ r. IsQuietSlot r (slot_ask.Snap tag)) g tag (λ pages. tt) tt

-- ---- what an actor holds

-- what an event makes of the cells, and of the gates of its actor
record Leads (w : WorldState) (a : ActorState) (e : Event) : Type 0 where
  changed : IsChanged w.cells e (cells_after w.cells e)
  grows : Grows (rest w.image a) (takes w.image (rest w.image a) e)

leads : (w : WorldState) (a : ActorState) (e : Event) → AreCells w.image w.cells → Happens w (rest w.image a) e → Leads w a e
leads w a e cells h =
    let b = rest w.image a in
    record { changed = event_changes w b e cells h; grows = by_phase (with_actor w b) b (takes w.image b e) b.phase e (event_makes_gates w b e h) }

-- an actor has no tag in another slot, where it made none more
still_has : (i : Image) (a : ActorState) (e : Event) → (made_by (rest i a) (Some e)).tags ≡ (rest i a).made.tags → Grows (rest i a) (takes i (rest i a) e) → (tag slot : ℕ) → HasIn (takes i (rest i a) e) tag slot → HasIn a tag slot
still_has i a e none grows tag slot h =
    let b = rest i a in
    rest_has i a tag slot (grown_has b (takes i b e) (takes_sheet i b e) (ap (λ (m : Made). m.tags) (takes_made i b e) ∙ none) grows tag slot h)

opened_made : (i : Image) (a : ActorState) (slot tag pages : ℕ) → (takes i (rest i a) (event.Slot slot (slot_ask.Open tag pages) slot_reply.Opened)).made.tags ≡ (made_tag a.made tag slot).tags
opened_made i a slot tag pages =
    ap (λ (m : Made). m.tags) (takes_made i (rest i a) (event.Slot slot (slot_ask.Open tag pages) slot_reply.Opened)) ∙ ap (λ (m : Made). (made_tag m tag slot).tags) (kept_at_rest i a _ refl).made

opened_sheet : (i : Image) (a : ActorState) (e : Event) → (takes i (rest i a) e).sheet ≡ a.sheet
opened_sheet i a e = takes_sheet i (rest i a) e ∙ (kept_at_rest i a _ refl).sheet

opened_gates : (i : Image) (a : ActorState) (slot tag pages : ℕ) → (takes i (rest i a) (event.Slot slot (slot_ask.Open tag pages) slot_reply.Opened)).gates ≡ (rest i a).gates
unfolding takes
opened_gates i a slot tag pages = refl

opened_other : (i : Image) (a : ActorState) (slot tag pages t : ℕ) → (t ≡ tag → ⊥) → slot_known (takes i (rest i a) (event.Slot slot (slot_ask.Open tag pages) slot_reply.Opened)) t ≡ slot_known a t
opened_other i a slot tag pages t ne =
    ap (λ (ts : Map ℕ). option_or (at ts t) (option_map (λ g. g.slot) (at (takes i (rest i a) (event.Slot slot (slot_ask.Open tag pages) slot_reply.Opened)).sheet.tags t))) (opened_made i a slot tag pages)
    ∙ (ap (λ (s : Sheet). slot_on s (made_tag a.made tag slot) t) (opened_sheet i a _) ∙ ap (λ o. option_or o (option_map (λ g. g.slot) (at a.sheet.tags t))) (with_other a.made.tags tag slot t ne))

opened_own : (i : Image) (a : ActorState) (slot tag pages : ℕ) → slot_known (takes i (rest i a) (event.Slot slot (slot_ask.Open tag pages) slot_reply.Opened)) tag ≡ Some slot
opened_own i a slot tag pages =
    ap (λ (ts : Map ℕ). option_or (at ts tag) (option_map (λ g. g.slot) (at (takes i (rest i a) (event.Slot slot (slot_ask.Open tag pages) slot_reply.Opened)).sheet.tags tag))) (opened_made i a slot tag pages)
    ∙ ap (λ o. option_or o (option_map (λ g. g.slot) (at (takes i (rest i a) (event.Slot slot (slot_ask.Open tag pages) slot_reply.Opened)).sheet.tags tag))) (with_same a.made.tags tag slot)

-- who opens a tag has it in the slot in which it was opened
opened_has : (i : Image) (a : ActorState) (slot tag pages : ℕ) (t s : ℕ) → HasIn (takes i (rest i a) (event.Slot slot (slot_ask.Open tag pages) slot_reply.Opened)) t s → ((t ≡ tag) × (s ≡ slot)) ⊎ HasIn a t s
opened_has i a slot tag pages t s (inr gate) = inr (rest_has i a t s (inr (subst (λ gs. GateHasIn gs t s) (opened_gates i a slot tag pages) gate)))
opened_has i a slot tag pages t s (inl own) = by_tag (t == tag) refl
  where
    by_tag : (b : Bool) → (t == tag) ≡ b → ((t ≡ tag) × (s ≡ slot)) ⊎ HasIn a t s
    by_tag true is =
        let the_tag : t ≡ tag = eqb-true t tag is in
        let x = takes i (rest i a) (event.Slot slot (slot_ask.Open tag pages) slot_reply.Opened) in
        let both : Some slot ≡ Some s = sym (opened_own i a slot tag pages) ∙ (ap (slot_known x) (sym the_tag) ∙ own) in
        let the_slot : s ≡ slot = cc in
        inl (the_tag, the_slot)
    by_tag false is = inr (inl (sym (opened_other i a slot tag pages t (λ e. true≢false (sym (eq-eqb t tag e) ∙ is))) ∙ own))

-- ---- each kind of turn

-- a turn of the actor a in the world w, by this event
abbrev TurnsBy : WorldState → ActorState → Event → Type 0
TurnsBy w a e = Turns (cells_after w.cells e) w.actors a (takes w.image (rest w.image a) e)

pub record Occupied (w : WorldState) : Type 0 where
  pub occupied : AreOccupied w.cells w.actors
  pub released : AreReleased w.cells.places.unused w.cells.places.released

quiet_turn : (w : WorldState) (a : ActorState) (e : Event) → Occupied w → actor_named w.actors a.name ≡ Some a → slot_of_call (rest w.image a).phase ≡ None → IsQuiet e → (made_by (rest w.image a) (Some e)).tags ≡ (rest w.image a).made.tags → Leads w a e → TurnsBy w a e
quiet_turn w a e occ there free quiet none l =
    let calls = quiet_calls e (takes w.image (rest w.image a) e).phase quiet (takes_between w.image (rest w.image a) e) in
    stays_so w.cells (cells_after w.cells e) w.actors a (takes w.image (rest w.image a) e) occ.occupied (slots_size w.cells e) there (rest_free w.image a free) (l.changed.places ∙ quiet_places w.cells.places e quiet)
    (λ slot. tag_seen (cells_after w.cells e) slot ∙ (ap tag_of (l.changed.occupants slot) ∙ (quiet_tags slot (occupant_in w.cells slot) e quiet ∙ sym (tag_seen w.cells slot))))
    calls.0 calls.1 (still_has w.image a e none l.grows)

-- the claim of a slot
claim_turn : (w : WorldState) (a : ActorState) (o : Option Claim) → Occupied w → actor_named w.actors a.name ≡ Some a → slot_of_call (rest w.image a).phase ≡ None → claim w.cells.places ≡ o
    → Turns (record w.cells { places = claim_next w.cells.places o }) w.actors a (takes w.image (rest w.image a) (event.Slots directory_ask.Claim (claim_reply w.cells.places o)))
unfolding takes
claim_turn w a None occ there free is = stays_so w.cells w.cells w.actors a _ occ.occupied refl there (rest_free w.image a free) refl (λ slot. refl) refl refl (still_has w.image a (event.Slots directory_ask.Claim directory_reply.Full) refl (Keeps refl refl refl))
claim_turn w a (Some k) occ there free is =
    claims_so w.cells (record w.cells { places = k.left }) w.actors a _ k occ.occupied refl there (rest_free w.image a free) (given_apart.gives w.cells.places k occ.released is) (claimed_rises w.cells.places k is) refl (λ slot. refl) refl refl
    (still_has w.image a (event.Slots directory_ask.Claim (directory_reply.Claimed k.place w.cells.places.number)) refl (Keeps refl refl refl))

if_tag : (t : Bool) (o p : Option Occupant) → tag_of (if t then o else p) ≡ (if t then tag_of o else tag_of p)
if_tag true o p = refl
if_tag false o p = refl

-- the close of a tag
close_turn : (w : WorldState) (a : ActorState) (slot tag : ℕ) (g : Option Segment) → Occupied w → actor_named w.actors a.name ≡ Some a → slot_of_call (rest w.image a).phase ≡ None → slot_in w.cells slot ≡ g
    → Leads w a (event.Slot slot (slot_ask.Close tag) (slot_reply_of g (slot_ask.Close tag)))
    → TurnsBy w a (event.Slot slot (slot_ask.Close tag) (slot_reply_of g (slot_ask.Close tag)))
unfolding takes tag_of
close_turn w a slot tag None occ there free lives l = quiet_turn w a (event.Slot slot (slot_ask.Close tag) slot_reply.NoSuch) occ there free tt refl l
close_turn w a slot tag (Some g) occ there free lives l = by_test (g.tag == tag) refl l
  where
    closed : (g.tag == tag) ≡ true → Leads w a (event.Slot slot (slot_ask.Close tag) slot_reply.Closed) → TurnsBy w a (event.Slot slot (slot_ask.Close tag) slot_reply.Closed)
    closed is l =
        closes_so w.cells (cells_after w.cells (event.Slot slot (slot_ask.Close tag) slot_reply.Closed)) w.actors a (takes w.image (rest w.image a) (event.Slot slot (slot_ask.Close tag) slot_reply.Closed)) slot tag occ.occupied (slots_size w.cells (event.Slot slot (slot_ask.Close tag) slot_reply.Closed)) there (rest_free w.image a free)
        (ap (option_map (λ x. x.tag)) lives ∙ ap Some (eqb-true g.tag tag is)) refl
        (λ s. tag_seen (cells_after w.cells (event.Slot slot (slot_ask.Close tag) slot_reply.Closed)) s ∙ (ap tag_of (l.changed.occupants s) ∙ (if_tag (slot == s) None (occupant_in w.cells s) ∙ ap (λ o. if slot == s then None else o) (sym (tag_seen w.cells s)))))
        refl refl (still_has w.image a (event.Slot slot (slot_ask.Close tag) slot_reply.Closed) refl l.grows)

    by_test : (t : Bool) → (g.tag == tag) ≡ t
        → Leads w a (event.Slot slot (slot_ask.Close tag) (if t then slot_reply.Closed else slot_reply.NoSuch))
        → TurnsBy w a (event.Slot slot (slot_ask.Close tag) (if t then slot_reply.Closed else slot_reply.NoSuch))
    by_test true is l = closed is l
    by_test false is l = quiet_turn w a (event.Slot slot (slot_ask.Close tag) slot_reply.NoSuch) occ there free tt refl l

-- the opening of a tag
open_turn : (w : WorldState) (a : ActorState) (slot tag pages : ℕ) → Occupied w → slot < length w.cells.slots → actor_named w.actors a.name ≡ Some a → a.phase ≡ phase.Opening slot tag
    → IsChanged w.cells (event.Slot slot (slot_ask.Open tag pages) slot_reply.Opened) (cells_after w.cells (event.Slot slot (slot_ask.Open tag pages) slot_reply.Opened))
    → TurnsBy w a (event.Slot slot (slot_ask.Open tag pages) slot_reply.Opened)
unfolding takes tag_of
open_turn w a slot tag pages occ inside there at_ c =
    opens_so w.cells (cells_after w.cells (event.Slot slot (slot_ask.Open tag pages) slot_reply.Opened)) w.actors a (takes w.image (rest w.image a) (event.Slot slot (slot_ask.Open tag pages) slot_reply.Opened)) slot tag occ.occupied (slots_size w.cells (event.Slot slot (slot_ask.Open tag pages) slot_reply.Opened)) inside there (ap slot_of_call at_) (ap tag_of_call at_) refl
    (λ s. tag_seen (cells_after w.cells (event.Slot slot (slot_ask.Open tag pages) slot_reply.Opened)) s ∙ (ap tag_of (c.occupants s) ∙ (if_tag (slot == s) (Some (occupant tag [])) (occupant_in w.cells s) ∙ ap (λ o. if slot == s then Some tag else o) (sym (tag_seen w.cells s)))))
    refl refl (opened_has w.image a slot tag pages)

-- the release of a slot
released_claims : (d : Directory) (slot s : ℕ) (t : Bool) → (slot == s) ≡ false → is_claimed (if t then record d { released = slot ∷ d.released } else d) s ≡ is_claimed d s
released_claims d slot s false apart = refl
released_claims d slot s true apart = ap (λ b. nat_lt s d.unused && not (b || contains_place d.released s)) apart

-- a place that is released is among those released
free_again : (d : Directory) (place : ℕ) → is_claimed d place ≡ true → is_claimed (release d place) place ≡ false
free_again d place e = subst (λ t. is_claimed (if t then record d { released = place ∷ d.released } else d) place ≡ false) (sym e) (now_free (nat_lt place d.unused) (place == place) (eq-eqb place place refl))
  where
    now_free : (u t : Bool) → t ≡ true → (u && not (t || contains_place d.released place)) ≡ false
    now_free true true h = refl
    now_free false true h = refl
    now_free u false h = absurd (true≢false (sym h))

release_turn : (w : WorldState) (a : ActorState) (slot : ℕ) → Occupied w → actor_named w.actors a.name ≡ Some a → a.phase ≡ phase.Releasing slot → TurnsBy w a (event.Slots (directory_ask.Release slot) directory_reply.Released)
unfolding takes
release_turn w a slot occ there at_ =
    releases_so w.cells (record w.cells { places = release w.cells.places slot }) w.actors a _ slot occ.occupied refl there (ap slot_of_call at_) (released_number w.cells.places slot)
    (free_again w.cells.places slot (occ.occupied.called a.name a slot there (ap slot_of_call at_)).0)
    (λ s apart. released_claims w.cells.places slot s (is_claimed w.cells.places slot) apart) (λ s. refl) refl refl (still_has w.image a (event.Slots (directory_ask.Release slot) directory_reply.Released) refl (Keeps refl refl refl))

-- ---- any turn

-- who opens a file makes no tag
tags_under : (m : Made) (p : Phase) (fd : ℕ) → (made_under m p fd).tags ≡ m.tags
tags_under m phase.Running fd = refl
tags_under m (phase.Within q) fd = refl
tags_under m (phase.Starting pre) fd = refl
tags_under m (phase.MakingGate pre) fd = refl
tags_under m (phase.Opening slot tag) fd = refl
tags_under m (phase.Releasing slot) fd = refl
tags_under m (phase.Entering entrance) fd = refl
tags_under m (phase.Waiting number) fd = refl
tags_under m (phase.OpeningFile o) fd = refl
tags_under m (phase.Ending x) fd = refl
tags_under m (phase.Ended x) fd = refl

-- no tag is made by a request
want_turn : (w : WorldState) (a : ActorState) (N : ℕ → Type 0) (q : Want) → Occupied w → actor_named w.actors a.name ≡ Some a → slot_of_call (rest w.image a).phase ≡ None → IsRequest N (rest w.image a) q
    → (made_by (rest w.image a) (Some (event_for w.cells (rest w.image a) q))).tags ≡ (rest w.image a).made.tags
    → Leads w a (event_for w.cells (rest w.image a) q) → TurnsBy w a (event_for w.cells (rest w.image a) q)
want_turn w a N (want.Slots directory_ask.Claim) occ there free own none l = claim_turn w a (claim w.cells.places) occ there free refl
want_turn w a N (want.Slot slot (slot_want.Close tag)) occ there free own none l = close_turn w a slot tag (slot_in w.cells slot) occ there free refl l
want_turn w a N (want.Slot slot (slot_want.Load offset width)) occ there free own none l = quiet_turn w a _ occ there free (load_quiet (slot_in w.cells slot) offset width _) none l
want_turn w a N (want.Slot slot (slot_want.Store offset width value)) occ there free own none l = quiet_turn w a _ occ there free (store_quiet (slot_in w.cells slot) offset width value _) none l
want_turn w a N (want.Slot slot (slot_want.Smalloc tag size)) occ there free own none l = quiet_turn w a _ occ there free (place_quiet (slot_in w.cells slot) tag size) none l
want_turn w a N (want.Slot slot (slot_want.Sfree offset)) occ there free own none l = quiet_turn w a _ occ there free (free_quiet (slot_in w.cells slot) offset _) none l
want_turn w a N (want.Fd fd q) occ there free own none l = quiet_turn w a _ occ there free tt none l
want_turn w a N (want.Lives lives_ask.Claim) occ there free own none l = quiet_turn w a _ occ there free tt none l
want_turn w a N q occ there free own none l = absurd own

by_happening : (w : WorldState) (a : ActorState) (e : Event) → AreCells w.image w.cells → Occupied w → actor_named w.actors a.name ≡ Some a → Happens w (rest w.image a) e → TurnsBy w a e
by_happening w a e cells occ there (Requested r) =
    subst (TurnsBy w a) (sym r.is)
    (want_turn w a _ r.want occ there (ap slot_of_call r.at) r.own (ap (λ (m : Made). m.tags) (want_made _ w.cells (rest w.image a) r.want r.own r.at)) (subst (Leads w a) r.is (leads w a e cells (Requested r))))
by_happening w a e cells occ there (Joined j) = subst (TurnsBy w a) (sym j.join.is) (quiet_turn w a _ occ there (ap slot_of_call j.at) tt refl (subst (Leads w a) j.join.is (leads w a e cells (Joined j))))
by_happening w a e cells occ there (Snaps s) =
    subst (TurnsBy w a) (sym s.is)
    (quiet_turn w a _ occ there (ap slot_of_call s.at) (snap_quiet (slot_in w.cells s.grant.slot) s.grant.tag) (ap (λ (m : Made). m.tags) (made_same (rest w.image a).made s.grant.slot _ _ tt)) (subst (Leads w a) s.is (leads w a e cells (Snaps s))))
by_happening w a e cells occ there (GateSnaps s) =
    subst (TurnsBy w a) (sym s.is)
    (quiet_turn w a _ occ there (ap slot_of_call s.at) (snap_quiet (slot_in w.cells s.grant.slot) s.grant.tag) (ap (λ (m : Made). m.tags) (made_same (rest w.image a).made s.grant.slot _ _ tt)) (subst (Leads w a) s.is (leads w a e cells (GateSnaps s))))
by_happening w a e cells occ there (Started s) = subst (TurnsBy w a) (sym s.is) (quiet_turn w a _ occ there (ap slot_of_call s.at) tt refl (subst (Leads w a) s.is (leads w a e cells (Started s))))
by_happening w a e cells occ there (Opens o) =
    let l = subst (Leads w a) o.is (leads w a e cells (Opens o)) in
    subst (TurnsBy w a) (sym o.is) (open_turn w a o.slot o.tag (a0 (rest w.image a)) occ (subst (λ n. o.slot < n) (sym cells.slots) o.inside) there (rest-uncalm w.image a (phase.Opening o.slot o.tag) (λ h. h) o.at) l.changed)
by_happening w a e cells occ there (Releases r) =
    subst (TurnsBy w a) (sym r.is) (release_turn w a r.slot occ there (rest-uncalm w.image a (phase.Releasing r.slot) (λ h. h) r.at))
by_happening w a e cells occ there (Numbers n) = subst (TurnsBy w a) (sym n.is) (quiet_turn w a _ occ there (ap slot_of_call n.at) tt refl (subst (Leads w a) n.is (leads w a e cells (Numbers n))))
by_happening w a e cells occ there (OpensFile f) =
    subst (TurnsBy w a) (sym f.is) (quiet_turn w a _ occ there (ap slot_of_call f.at) tt (tags_under (rest w.image a).made (rest w.image a).phase f.fd) (subst (Leads w a) f.is (leads w a e cells (OpensFile f))))
by_happening w a e cells occ there (LastJoined j) = subst (TurnsBy w a) (sym j.join.is) (quiet_turn w a _ occ there (ap slot_of_call j.at) tt refl (subst (Leads w a) j.join.is (leads w a e cells (LastJoined j))))
by_happening w a e cells occ there (Ended f) = subst (TurnsBy w a) (sym f.is) (quiet_turn w a _ occ there (ap slot_of_call f.at) tt refl (subst (Leads w a) f.is (leads w a e cells (Ended f))))
by_happening w a e cells occ there (EntersGate x) = subst (TurnsBy w a) (sym x.is) (quiet_turn w a _ occ there (ap slot_of_call x.at) tt refl (subst (Leads w a) x.is (leads w a e cells (EntersGate x))))
by_happening w a e cells occ there (EntersRecycled x) = subst (TurnsBy w a) (sym x.is) (quiet_turn w a _ occ there (ap slot_of_call x.at) tt refl (subst (Leads w a) x.is (leads w a e cells (EntersRecycled x))))
by_happening w a e cells occ there (LeavesGate f) = subst (TurnsBy w a) (sym f.is) (quiet_turn w a _ occ there (ap slot_of_call f.at) tt refl (subst (Leads w a) f.is (leads w a e cells (LeavesGate f))))
by_happening w a e cells occ there (LeavesRecycled f) = subst (TurnsBy w a) (sym f.is) (quiet_turn w a _ occ there (ap slot_of_call f.at) tt refl (subst (Leads w a) f.is (leads w a e cells (LeavesRecycled f))))

-- who starts a child, and who enters a gate, has what it had
begins_plain : (w : WorldState) (a : ActorState) (e : Event) → EventMakesGates (with_actor w (rest w.image a)) (rest w.image a) (rest w.image a).phase e (takes w.image (rest w.image a) e) → Acts w (rest w.image a) e
    → (k : ActorState) → actor_begun w.image (rest w.image a) e ≡ Some k → IsPlain (takes w.image (rest w.image a) e) k
begins_plain w a e gates (ActsAlone one) k is = let f : None ≡ Some k = sym (one_begins w.image (rest w.image a) e one) ∙ is in absurd cc
begins_plain w a e gates (Joins n listed j) k is = let f : None ≡ Some k = sym (ap (actor_begun w.image (rest w.image a)) j.is) ∙ is in absurd cc
begins_plain w a e gates (Starts s) k is =
    let b = rest w.image a in
    let x = takes w.image b e in
    let child = child_of w.image b (child_name b.name (next_start b)) in
    let both : Some child ≡ Some k = sym (ap (actor_begun w.image b) s.is) ∙ is in
    let same_child : child ≡ k = cc in
    let begins = child_begins w.image b s.preparation s.at s.complete s.ready in
    let known = (subst (λ p. EventMakesGates (with_actor w b) b p e x) s.at gates).known in
    let tags : x.made.tags ≡ b.made.tags = ap (λ (m : Made). m.tags) (takes_made w.image b e) ∙ ap (λ y. (made_by b (Some y)).tags) s.is in
    subst (IsPlain x) same_child (record { calls = refl; opens = refl; holds = λ tag slot h. same_has b x (takes_sheet w.image b e) tags known tag slot (child_has b child begins tag slot h) })
begins_plain w a e gates (Enters y) k is =
    let b = rest w.image a in
    let x = takes w.image b e in
    let run = run_by b (child_name b.name (next_start b)) y.kept y.entrance in
    let both : Some run ≡ Some k = sym y.begins ∙ is in
    let same_run : run ≡ k = cc in
    let begins = run_begins b y.kept y.entrance y.at y.may in
    let known = (subst (λ p. EventMakesGates (with_actor w b) b p e x) y.at gates).known in
    let tags : x.made.tags ≡ b.made.tags = ap (λ (m : Made). m.tags) (takes_made w.image b e) ∙ ap (λ (m : Made). m.tags) y.makes in
    subst (IsPlain x) same_run (record { calls = refl; opens = refl; holds = λ tag slot h. same_has b x (takes_sheet w.image b e) tags known tag slot (run_of_has b run begins tag slot h) })

cells_released : (c : Cells) (e : Event) → AreReleased c.places.unused c.places.released → AreReleased (cells_after c e).places.unused (cells_after c e).places.released
cells_released c (event.Slots q r) h = given_apart.keeps c.places q h
cells_released c (event.Slot slot q r) h = h
cells_released c (event.Fds q r) h = h
cells_released c (event.Fd fd q r) h = h
cells_released c (event.Lives q r) h = h
cells_released c (event.Gate id q r) h = h
cells_released c (event.Start child) h = h
cells_released c (event.Join k end fuel) h = h
cells_released c (event.Enter run) h = h
cells_released c (event.Leave end) h = h

-- an actor that goes on is in no such call, and has what it had
pub resumed_occupied : (w : WorldState) (a : ActorState) → Occupied w → actor_named w.actors a.name ≡ Some a → Occupied (resumed w a)
resumed_occupied w a occ there = by_case (readies w.actors a)
  where
    by_case : Readies w.actors a → Occupied (resumed w a)
    by_case (Stays is) = subst Occupied (sym (ap (λ (x : ActorState). with_actor w x) is ∙ ap (λ actors. record w { actors = actors }) (put_same w.actors a there))) occ
    by_case (Back k at r is) =
        let x = back a k r.how r.run.fuel in
        let put : IsPut w.actors a x = record { name = refl; there = there } in
        let goes = stays_so w.cells w.cells w.actors a x occ.occupied refl there (ap slot_of_call at) refl (λ slot. refl) refl refl (λ tag slot h. h) in
        subst (λ (y : ActorState). Occupied (with_actor w y)) (sym is)
        (record { occupied = occupied_after w.cells w.cells w.actors a x None occ.occupied put goes (λ c e. absurd cc); released = occ.released })

pub turn_occupied : (w : WorldState) (name : List ℕ) (e : Event) (new : WorldState) → AllReady w → Occupied w → turn_of w name ≡ Some (record { event = e; world = new }) → Occupied new
turn_occupied w name e new all occ t =
    let p = turn_from w name e new t in
    let v = resumed w p.actor in
    let a = p.parts.actor in
    let b = rest w.image a in
    let x = takes w.image b e in
    let h = turn_happens w name e new all p in
    let goes = resumed_occupied w p.actor occ (turned_there w name p.actor p.named) in
    let there = turned_there v name a p.parts.named in
    let put : IsPut v.actors a x = record { name = takes_name w.image b e ∙ rest-name w.image a; there = there } in
    let after = occupied_after w.cells (cells_after w.cells e) v.actors a x (actor_begun w.image b e) goes.occupied put (by_happening v a e all.cells goes there h) (begins_plain v a e (event_makes_gates v b e h) (acts v b e h)) in
    subst Occupied (sym p.parts.new_is) (record { occupied = after; released = cells_released w.cells e occ.released })

-- ---- each ask suits

abbrev first_unused : Directory → Claim
first_unused d = record { place = d.unused; left = record d { number = d.number + 1; unused = d.unused + 1 } }

-- where no place can be claimed, numbers are used up or each place is claimed
all_claimed : (d : Directory) → claim d ≡ None → (no_number ≤ d.number) ⊎ ((place : ℕ) → place < d.places → is_claimed d place ≡ true)
all_claimed d none = by_number (nat_lt d.number no_number) refl none
  where
    beyond : (n : ℕ) → nat_lt n no_number ≡ false → no_number ≤ n
    beyond n e = grind (arith, nat_tests, e)

    below : (place unused places : ℕ) → nat_lt unused places ≡ false → place < places → nat_lt place unused ≡ true
    below place unused places e h = grind (arith, nat_tests, e, h)

    by_unused : (t : Bool) → nat_lt d.unused d.places ≡ t → (if t then Some (first_unused d) else None) ≡ None → nat_lt d.unused d.places ≡ false
    by_unused true e f = absurd cc
    by_unused false e f = e

    by_released : (ps : List ℕ) → d.released ≡ ps → claim_from d ps ≡ None → (place : ℕ) → place < d.places → is_claimed d place ≡ true
    by_released [] is f place h =
        ap (λ ps. nat_lt place d.unused && not (contains_place ps place)) is ∙ ap (λ t. t && true) (below place d.unused d.places (by_unused _ refl f) h)
    by_released (p ∷ ps) is f place h = absurd cc

    by_number : (t : Bool) → nat_lt d.number no_number ≡ t → (if t then claim_from d d.released else None) ≡ None → (no_number ≤ d.number) ⊎ ((place : ℕ) → place < d.places → is_claimed d place ≡ true)
    by_number true e f = inr (by_released d.released refl f)
    by_number false e f = inl (beyond d.number e)

-- no more numbers were given than a run of the image can use
abbrev pub HasFewNumbers : WorldState → Type 0
HasFewNumbers w = w.cells.places.number ≤ most_numbers w.image

suits_claim : (w : WorldState) (o : Option Claim) → Occupied w → HasFewNumbers w → claim w.cells.places ≡ o → AskSuits w.image w.cells (event.Slots directory_ask.Claim (claim_reply w.cells.places o))
suits_claim w None occ few is = λ enough slot inside. by_cause enough (all_claimed w.cells.places is) slot inside
  where
    by_cause : most_numbers w.image < no_number → (no_number ≤ w.cells.places.number) ⊎ ((slot : ℕ) → slot < w.cells.places.places → is_claimed w.cells.places slot ≡ true) → (slot : ℕ) → slot < w.cells.places.places → is_claimed w.cells.places slot ≡ true
    by_cause enough (inl spent) slot inside = absurd (omega (arith, enough, spent, few))
    by_cause enough (inr all) slot inside = all slot inside
suits_claim w (Some k) occ few is =
    let new = given_apart.gives w.cells.places k occ.released is in
    (new.free, empty (tag_in w.cells k.place) refl (λ tag e. true≢false (sym (occ.occupied.lived k.place tag e) ∙ new.free)))
  where
    empty : (x : Option ℕ) → tag_in w.cells k.place ≡ x → ((tag : ℕ) → tag_in w.cells k.place ≡ Some tag → ⊥) → tag_in w.cells k.place ≡ None
    empty None e none = e
    empty (Some tag) e none = absurd (none tag e)

suits_want : (w : WorldState) (b : ActorState) (N : ℕ → Type 0) (q : Want) → Occupied w → HasFewNumbers w → IsRequest N b q → AskSuits w.image w.cells (event_for w.cells b q)
suits_want w b N (want.Slots directory_ask.Claim) occ few own = suits_claim w (claim w.cells.places) occ few refl
suits_want w b N (want.Slot slot (slot_want.Close tag)) occ few own = tt
suits_want w b N (want.Slot slot (slot_want.Load offset width)) occ few own = tt
suits_want w b N (want.Slot slot (slot_want.Store offset width value)) occ few own = tt
suits_want w b N (want.Slot slot (slot_want.Smalloc tag size)) occ few own = tt
suits_want w b N (want.Slot slot (slot_want.Sfree offset)) occ few own = tt
suits_want w b N (want.Fd fd q) occ few own = tt
suits_want w b N (want.Lives lives_ask.Claim) occ few own = tt
suits_want w b N q occ few own = absurd own

pub few_pages : (n : ℕ) → are_pages n ≡ true → (1 ≤ n) × (n ≤ most_pages)
few_pages n e = (some n e, few n e)
  where
    some : (n : ℕ) → are_pages n ≡ true → 1 ≤ n
    some n e = grind (arith, nat_tests, e)

    few : (n : ℕ) → are_pages n ≡ true → n ≤ most_pages
    few n e = grind (arith, nat_tests, e)

suits : (w : WorldState) (a : ActorState) (e : Event) → AreCells w.image w.cells → Occupied w → HasFewNumbers w → actor_named w.actors a.name ≡ Some a → Happens w (rest w.image a) e → AskSuits w.image w.cells e
suits w a e cells occ few there (Requested r) = subst (AskSuits w.image w.cells) (sym r.is) (suits_want w (rest w.image a) _ r.want occ few r.own)
suits w a e cells occ few there (Joined j) = subst (AskSuits w.image w.cells) (sym j.join.is) tt
suits w a e cells occ few there (Snaps s) = subst (AskSuits w.image w.cells) (sym s.is) tt
suits w a e cells occ few there (GateSnaps s) = subst (AskSuits w.image w.cells) (sym s.is) tt
suits w a e cells occ few there (Started s) = subst (AskSuits w.image w.cells) (sym s.is) tt
suits w a e cells occ few there (Opens o) =
    let at_ = rest-uncalm w.image a (phase.Opening o.slot o.tag) (λ h. h) o.at in
    let h = occ.occupied.called a.name a o.slot there (ap slot_of_call at_) in
    let p = few_pages (a0 (rest w.image a)) o.pages in
    subst (AskSuits w.image w.cells) (sym o.is) (h.0, h.1, subst (λ n. o.slot < n) (sym cells.slots) o.inside, p.0, p.1)
suits w a e cells occ few there (Releases r) =
    let at_ = rest-uncalm w.image a (phase.Releasing r.slot) (λ h. h) r.at in
    subst (AskSuits w.image w.cells) (sym r.is) (occ.occupied.called a.name a r.slot there (ap slot_of_call at_))
suits w a e cells occ few there (Numbers n) = subst (AskSuits w.image w.cells) (sym n.is) tt
suits w a e cells occ few there (OpensFile f) = subst (AskSuits w.image w.cells) (sym f.is) tt
suits w a e cells occ few there (LastJoined j) = subst (AskSuits w.image w.cells) (sym j.join.is) tt
suits w a e cells occ few there (Ended f) = subst (AskSuits w.image w.cells) (sym f.is) tt
suits w a e cells occ few there (EntersGate x) = subst (AskSuits w.image w.cells) (sym x.is) tt
suits w a e cells occ few there (EntersRecycled x) = subst (AskSuits w.image w.cells) (sym x.is) tt
suits w a e cells occ few there (LeavesGate l) = subst (AskSuits w.image w.cells) (sym l.is) tt
suits w a e cells occ few there (LeavesRecycled l) = subst (AskSuits w.image w.cells) (sym l.is) tt

-- ---- a slot that was released can be claimed again

freed_want : (w : WorldState) (b : ActorState) (N : ℕ → Type 0) (q : Want) → IsRequest N b q → IsFreed (event_for w.cells b q) (cells_after w.cells (event_for w.cells b q))
freed_want w b N (want.Slots directory_ask.Claim) own = tt
freed_want w b N (want.Slot slot (slot_want.Close tag)) own = tt
freed_want w b N (want.Slot slot (slot_want.Load offset width)) own = tt
freed_want w b N (want.Slot slot (slot_want.Store offset width value)) own = tt
freed_want w b N (want.Slot slot (slot_want.Smalloc tag size)) own = tt
freed_want w b N (want.Slot slot (slot_want.Sfree offset)) own = tt
freed_want w b N (want.Fd fd q) own = tt
freed_want w b N (want.Lives lives_ask.Claim) own = tt
freed_want w b N q own = absurd own

freed : (w : WorldState) (a : ActorState) (e : Event) → Occupied w → actor_named w.actors a.name ≡ Some a → Happens w (rest w.image a) e → IsFreed e (cells_after w.cells e)
freed w a e occ there (Requested r) = subst (λ x. IsFreed x (cells_after w.cells x)) (sym r.is) (freed_want w (rest w.image a) _ r.want r.own)
freed w a e occ there (Releases r) =
    let at_ = rest-uncalm w.image a (phase.Releasing r.slot) (λ h. h) r.at in
    subst (λ x. IsFreed x (cells_after w.cells x)) (sym r.is) (free_again w.cells.places r.slot (occ.occupied.called a.name a r.slot there (ap slot_of_call at_)).0)
freed w a e occ there (Joined j) = subst (λ x. IsFreed x (cells_after w.cells x)) (sym j.join.is) tt
freed w a e occ there (Snaps s) = subst (λ x. IsFreed x (cells_after w.cells x)) (sym s.is) tt
freed w a e occ there (GateSnaps s) = subst (λ x. IsFreed x (cells_after w.cells x)) (sym s.is) tt
freed w a e occ there (Started s) = subst (λ x. IsFreed x (cells_after w.cells x)) (sym s.is) tt
freed w a e occ there (Opens o) = subst (λ x. IsFreed x (cells_after w.cells x)) (sym o.is) tt
freed w a e occ there (Numbers n) = subst (λ x. IsFreed x (cells_after w.cells x)) (sym n.is) tt
freed w a e occ there (OpensFile f) = subst (λ x. IsFreed x (cells_after w.cells x)) (sym f.is) tt
freed w a e occ there (LastJoined j) = subst (λ x. IsFreed x (cells_after w.cells x)) (sym j.join.is) tt
freed w a e occ there (Ended f) = subst (λ x. IsFreed x (cells_after w.cells x)) (sym f.is) tt
freed w a e occ there (EntersGate x) = subst (λ y. IsFreed y (cells_after w.cells y)) (sym x.is) tt
freed w a e occ there (EntersRecycled x) = subst (λ y. IsFreed y (cells_after w.cells y)) (sym x.is) tt
freed w a e occ there (LeavesGate l) = subst (λ y. IsFreed y (cells_after w.cells y)) (sym l.is) tt
freed w a e occ there (LeavesRecycled l) = subst (λ y. IsFreed y (cells_after w.cells y)) (sym l.is) tt

pub turn_suits : (w : WorldState) (t : Turn) (new : WorldState) → AllReady w → Occupied w → HasFewNumbers w → turn_of w t.actor ≡ Some (record { event = t.event; world = new }) → SlotsSuit w t new
turn_suits w t new all occ few e =
    let p = turn_from w t.actor t.event new e in
    let v = resumed w p.actor in
    let goes = resumed_occupied w p.actor occ (turned_there w t.actor p.actor p.named) in
    let there = turned_there v t.actor p.parts.actor p.parts.named in
    let h = turn_happens w t.actor t.event new all p in (
      suits v p.parts.actor t.event all.cells goes few there h,
      subst (λ (x : WorldState). IsFreed t.event x.cells) (sym p.parts.new_is) (freed v p.parts.actor t.event goes there h),
    )

-- ---- runs

-- as a run begins, a declared tag lives in the slot of its number
declared_so : (i : Image) (slot tag : ℕ) → tag_in (opening_cells i) slot ≡ Some tag → (slot ≡ tag) × (slot < length i.tags)
declared_so i slot tag e = by_entry (slice_get i.tags slot) refl (sym (ap (option_map (λ (g : Segment). g.tag)) ((cells_open i).slots slot)) ∙ e)
  where
    inside : {X : Type 0} (xs : List X) (n : ℕ) (x : X) → slice_get xs n ≡ Some x → n < length xs
    inside [] n x e = absurd cc
    inside (y ∷ ys) zero x e = omega arith
    inside (y ∷ ys) (suc n) x e = let h = inside ys n x e in omega (arith, h)

    by_entry : (o : Option TagEntry) → slice_get i.tags slot ≡ o → option_map (λ (g : Segment). g.tag) (option_map (declared_segment slot) o) ≡ Some tag → (slot ≡ tag) × (slot < length i.tags)
    by_entry None there f = absurd cc
    by_entry (Some t) there f = (cc, inside i.tags slot t there)

-- and in each slot that is claimed then a declared tag lives
declared_lives : (i : Image) (slot : ℕ) → slot < length i.tags → tag_in (opening_cells i) slot ≡ Some slot
declared_lives i slot h =
    let entry = entry_at i.tags slot h in
    ap (option_map (λ (g : Segment). g.tag)) ((cells_open i).slots slot) ∙ ap (λ (o : Option TagEntry). option_map (λ (g : Segment). g.tag) (option_map (declared_segment slot) o)) entry.1
  where
    entry_at : (ts : List TagEntry) (n : ℕ) → n < length ts → (t : TagEntry) × (slice_get ts n ≡ Some t)
    entry_at [] n h = absurd (omega (arith, h))
    entry_at (t ∷ ts) zero h = (t, refl)
    entry_at (t ∷ ts) (suc n) h = let inner : n < length ts = omega (arith, h) in entry_at ts n inner

-- and the root has each of its tags in that slot
root_known : (n : ℕ) (ts : List TagEntry) (k : ℕ) (g : Grant) → at (root_tags n ts) k ≡ Some g → (g.slot ≡ k) × (k < n + length ts)
root_known n [] k g e = absurd cc
root_known n (t ∷ ts) k g e = by_right t.right e (root_known (n + 1) ts k g)
  where
    by_key : (b : Bool) (r : Right) → eq_by_cmp nat_cmp k n ≡ b → (if b then Some (record { right = r; slot = n }) else at (root_tags (n + 1) ts) k) ≡ Some g → (at (root_tags (n + 1) ts) k ≡ Some g → (g.slot ≡ k) × (k < n + 1 + length ts))
        → (g.slot ≡ k) × (k < n + suc (length ts))
    by_key true r is f others =
        let key : k ≡ n = equal_keys k n is in
        let grant : record { right = r; slot = n } ≡ g = cc in
        (ap (λ (x : Grant). x.slot) (sym grant) ∙ sym key, omega (arith, key))
    by_key false r is f others = let h = others f in (h.0, omega (arith, h.1))

    by_right : (o : Option Right) → at (with_grant n o (root_tags (n + 1) ts)) k ≡ Some g → (at (root_tags (n + 1) ts) k ≡ Some g → (g.slot ≡ k) × (k < n + 1 + length ts)) → (g.slot ≡ k) × (k < n + suc (length ts))
    by_right None f others = let h = others f in (h.0, omega (arith, h.1))
    by_right (Some r) f others = by_key (eq_by_cmp nat_cmp k n) r refl f others

pub opening_occupied : (i : Image) → Occupied (initial_state i)
unfolding root
opening_occupied i = record {
  occupied = record {
    lived = λ slot tag e. claimed slot (declared_so i slot tag e).1;
    called = λ m a slot there e. none_called m a slot there e;
    alone = λ m n a b slot p q e f. none_called m a slot p e;
    belongs = λ slot e f. none_empty slot e f;
    numbered = λ slot tag e. let h = declared_so i slot tag e in subst (λ n. n < length i.tags) h.0 h.1;
    apart = λ s t tag e f. (declared_so i s tag e).0 ∙ sym (declared_so i t tag f).0;
    coming = λ m a tag there e. none_coming m a tag there e;
    once = λ m n a b tag p q e f. none_coming m a tag p e;
    held = λ m a tag slot there e. root_held m a tag slot there e;
    unheld = λ m n a b tag slot p q e f. none_coming m a tag p e;
  };
  released = tt;
}
  where
    claimed : (slot : ℕ) → slot < length i.tags → (nat_lt slot (length i.tags) && true) ≡ true
    claimed slot e = grind (arith, nat_tests, e)

    declared : (slot : ℕ) (t : Bool) → nat_lt slot (length i.tags) ≡ t → (t && true) ≡ true → slot < length i.tags
    declared slot true is e = grind (arith, nat_tests, is)
    declared slot false is e = absurd cc

    none_empty : {X : Type 0} (slot : ℕ) → (nat_lt slot (length i.tags) && true) ≡ true → tag_in (opening_cells i) slot ≡ None → X
    none_empty slot e f = let g : None ≡ Some slot = sym f ∙ declared_lives i slot (declared slot (nat_lt slot (length i.tags)) refl e) in absurd cc

    is_root : (m : List ℕ) (a : ActorState) (t : Bool) → (if t then Some (root i) else None) ≡ Some a → root i ≡ a
    is_root m a true e = cc
    is_root m a false e = absurd cc

    none_called : {X : Type 0} (m : List ℕ) (a : ActorState) (slot : ℕ) → actor_named (initial_state i).actors m ≡ Some a → slot_of_call a.phase ≡ Some slot → X
    none_called m a slot there e = let f : None ≡ Some slot = ap (λ (x : ActorState). slot_of_call x.phase) (is_root m a (same root_name m) there) ∙ e in absurd cc

    none_coming : {X : Type 0} (m : List ℕ) (a : ActorState) (tag : ℕ) → actor_named (initial_state i).actors m ≡ Some a → tag_of_call a.phase ≡ Some tag → X
    none_coming m a tag there e = let f : None ≡ Some tag = ap (λ (x : ActorState). tag_of_call x.phase) (is_root m a (same root_name m) there) ∙ e in absurd cc

    by_grant : (tag slot : ℕ) (o : Option Grant) → at (root_tags 0 i.tags) tag ≡ o → option_map (λ (g : Grant). g.slot) o ≡ Some slot → (slot ≡ tag) × (tag < length i.tags)
    by_grant tag slot None there e = absurd cc
    by_grant tag slot (Some g) there e =
        let h = root_known 0 i.tags tag g there in
        let is : g.slot ≡ slot = cc in
        (sym is ∙ h.0, omega (arith, h.1))

    root_held : (m : List ℕ) (a : ActorState) (tag slot : ℕ) → actor_named (initial_state i).actors m ≡ Some a → HasIn a tag slot → (tag < length i.tags) × ((s : ℕ) → tag_in (opening_cells i) s ≡ Some tag → s ≡ slot) × (slot < length (opening_cells i).slots)
    root_held m a tag slot there e = by_root (subst (λ (x : ActorState). HasIn x tag slot) (sym (is_root m a (same root_name m) there)) e)
      where
        by_root : HasIn (root i) tag slot → (tag < length i.tags) × ((s : ℕ) → tag_in (opening_cells i) s ≡ Some tag → s ≡ slot) × (slot < length (opening_cells i).slots)
        by_root (inl own) = let h = by_grant tag slot (at (root_tags 0 i.tags) tag) refl own in (h.1, λ s f. (declared_so i s tag f).0 ∙ sym h.0, subst (λ n. slot < n) (sym (opening_ready i).cells.slots) (omega (arith, h.0, h.1)))
        by_root (inr gate) = absurd gate

runs_occupied : (old : WorldState) (turns : List Turn) (new : WorldState) → AllReady old → Occupied old → Runs old turns new → Occupied new
runs_occupied old [] new all occ run = subst Occupied (sym run) occ
runs_occupied old (t ∷ ts) new all occ run = runs_occupied run.0 ts new (turn_ready old t.actor t.event run.0 all run.1) (turn_occupied old t.actor t.event run.0 all occ run.1) run.2

each_suits : (old : WorldState) (turns : List Turn) (new : WorldState) → AllReady old → Occupied old → Spends old → Runs old turns new → EachTurn SlotsSuit old turns
each_suits old [] new all occ spends run = tt
each_suits old (t ∷ ts) new all occ spends run =
    let bound = spends.few in
    (run.0, run.1, turn_suits old t run.0 all occ (omega (arith, bound)) run.1, each_suits run.0 ts new (turn_ready old t.actor t.event run.0 all run.1) (turn_occupied old t.actor t.event run.0 all occ run.1) (turn_spends old t.actor t.event run.0 all spends run.1) run.2)

pub slots_occupied : SlotsAreOccupied
slots_occupied i turns new run = record {
  occupied = (runs_occupied (initial_state i) turns new (opening_ready i) (opening_occupied i) run).occupied;
  suit = each_suits (initial_state i) turns new (opening_ready i) (opening_occupied i) (opening_spends i) run;
}
