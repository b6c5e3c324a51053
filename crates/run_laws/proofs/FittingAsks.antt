-- In each turn of a run what is asked of a cell fits it.
use Rattle.std.proofs.Common.{◌≡◌, ℕ, ◌≤◌, ◌<◌, Bool, true, false, List, [], ◌∷◌, length, refl, sym, ap, subst, ◌∙◌, arith, inl}
use Rattle.std.proofs.lemmas.Bool.{eqb-true}
use Rattle.std.proofs.lemmas.Bool.Decides.{nat_tests}
use Rattle.std.specs.Prelude.{Option, Some, None, option_map, unwrap_or, map, ◌==◌, ◌&&◌, ◌||◌}
use Rattle.wedge_base.specs.Images.{Image, slots as most_slots}
use Rattle.wedge_base.specs.Maps.{Map}
use Rattle.wedge_base.specs.Sheets.{Sheet, Made, slot_on, is_copy, tag_granted}
use Rattle.wedge_base.specs.declared.grants.GateKind.TheVariants as gate_kind
use Rattle.wedge_base.specs.declared.rights.Right.{Right}
use Rattle.wedge_events.specs.Slots.{Segment, IsPair}
use Rattle.wedge_events.specs.Streams.{most_fds}
use Rattle.wedge_events.specs.declared.cells.DirectoryAsk.TheVariants as directory_ask
use Rattle.wedge_events.specs.declared.cells.LivesAsk.TheVariants as lives_ask
use Rattle.wedge_events.specs.declared.events.SlotWant.TheVariants as slot_want
use Rattle.wedge_events.specs.declared.events.Want.{Want}
use Rattle.wedge_events.specs.declared.events.Want.TheVariants as want
use Rattle.wedge_events.specs.declared.events.Event.{Event}
use Rattle.wedge_events.specs.declared.events.Turn.{Turn}
use Rattle.callgate.specs.declared.gate.Gate.{Gate}
use Rattle.machine.specs.declared.copy_grant.CopyGrant.{CopyGrant}
use Rattle.machine.specs.Actors.{ActorState, slot_held}
use Rattle.machine.specs.Calls.{a0, draft_at}
use Rattle.machine.specs.Local.{is_running, has_ended, rest}
use Rattle.machine.specs.Preparation.{Preparation}
use Rattle.machine.specs.Take.{pair}
use Rattle.machine.specs.Cells.{kept_in, slot_in}
use Rattle.run_laws.specs.CopiesGranted.{grants_copy}
use Rattle.run_laws.specs.FittingAsks.{EventFits, TurnFits}
use Rattle.run_laws.specs.Laws.{AsksFit}
use Rattle.run_laws.specs.MemoryRanges.{GateHasRanges, HasRanges}
use Rattle.run_laws.specs.Moments.{EachTurn}
use Rattle.run_laws.specs.Occupancy.{slot_known}
use Rattle.machine.specs.Worlds.{WorldState, initial_state, turn_of, Runs, ready, resumed}
use Rattle.run_laws.proofs.Between.{event_for}
use Rattle.run_laws.proofs.GrantedCopies.{HasGranted, AllKept, rested_granted, turn_kept, opening_kept}
use Rattle.run_laws.proofs.GrantedPreparing.{AreAllGranted, IsGranted, child_grants}
use Rattle.run_laws.proofs.GateRuns.{each_entered}
use Rattle.run_laws.proofs.Happening.{Happens, Requested, Joined, Snaps, GateSnaps, Started, Opens, Releases, Numbers, OpensFile, LastJoined, Ended, EntersGate, LeavesGate, EntersRecycled, LeavesRecycled}
use Rattle.run_laws.proofs.ImagesRanges.{AllRanges, rested_ranges, turn_ranges, opening_ranges}
use Rattle.run_laws.proofs.Meeting.{IsRequest, IsInCell}
use Rattle.run_laws.proofs.OccupiedRuns.{Occupied, few_pages, resumed_occupied, turn_occupied, opening_occupied}
use Rattle.run_laws.proofs.Settling.{AllReady, AreCells, turn_happens, turn_ready, opening_ready, turned_there}
use Rattle.run_laws.proofs.SlotsKnown.{rest_has}
use Rattle.run_laws.proofs.TagSlots.{made_slot, used_slot}
use Rattle.run_laws.proofs.Turns.{ready_is, ready_ended, turn_from}
use Rattle.machine.proofs.Resting.{rests, rest-stays, rest-ended}

-- the pair of an actor names what lives there
pub pair_names : (s : Option Segment) (a : ActorState) → IsPair s (pair a (option_map (λ (g : Segment). g.tag) s))
pair_names None a = refl
pair_names (Some g) a = refl

some_bytes : (size : ℕ) → (size == 0) ≡ false → 1 ≤ size
some_bytes size e = grind (arith, nat_tests, e)

-- each slot in which an actor has a tag is one that there is
abbrev IsKnownInside : ActorState → ℕ → Type 0
IsKnownInside a n = (tag slot : ℕ) → slot_known a tag ≡ Some slot → slot < n

-- so is the slot of each grant of a copy on the sheet of its draft
copy_inside : (s : Sheet) (m : Made) (ts : Map Right) (n slot : ℕ) → ((tag k : ℕ) → slot_on s m tag ≡ Some k → k < n) → 0 < n → grants_copy (map (tag_granted s m) ts) slot ≡ true → slot < n
copy_inside s m [] n slot known some e = absurd cc
copy_inside s m (t ∷ ts) n slot known some e = by_right (is_copy t.1) (copy_inside s m ts n slot known some) e
  where
    of_slot : (o : Option ℕ) → slot_on s m t.0 ≡ o → unwrap_or o 0 < n
    of_slot None is = some
    of_slot (Some k) is = known t.0 k is

    by_slot : (b : Bool) → (unwrap_or (slot_on s m t.0) 0 == slot) ≡ b → (grants_copy (map (tag_granted s m) ts) slot ≡ true → slot < n) → (b || grants_copy (map (tag_granted s m) ts) slot) ≡ true → slot < n
    by_slot true is later f = subst (λ k. k < n) (eqb-true (unwrap_or (slot_on s m t.0) 0) slot is) (of_slot (slot_on s m t.0) refl)
    by_slot false is later f = later f

    by_right : (b : Bool) → (grants_copy (map (tag_granted s m) ts) slot ≡ true → slot < n) → ((b && (unwrap_or (slot_on s m t.0) 0 == slot)) || grants_copy (map (tag_granted s m) ts) slot) ≡ true → slot < n
    by_right true later f = by_slot _ refl later f
    by_right false later f = later f

next_inside : (b : ActorState) (p : Preparation) (grant : CopyGrant) (others : List CopyGrant) (n : ℕ) → IsKnownInside b n → 0 < n → IsGranted (child_grants b) p → p.left ≡ grant ∷ others → grant.slot < n
next_inside b p grant others n known some granted left =
    copy_inside b.sheet b.made (draft_at b.drafts (a0 b)).tags n grant.slot known some (subst (AreAllGranted (child_grants b)) left granted.left).0

-- what a request asks for
wanted_fits : (w : WorldState) (b : ActorState) (N : ℕ → Type 0) (q : Want) → most_slots ≤ length w.cells.slots → most_fds ≤ length w.cells.streams → IsKnownInside b (length w.cells.slots) → IsRequest N b q → IsInCell q → EventFits w.image w.cells (event_for w.cells b q)
wanted_fits w b N (want.Slots directory_ask.Claim) slots fds known own inside = tt
wanted_fits w b N (want.Slot slot (slot_want.Close tag)) slots fds known own inside = (subst (λ n. n < length w.cells.slots) (sym own.1) (known tag (slot_held b tag) (made_slot b tag own.0)), tt)
wanted_fits w b N (want.Slot slot (slot_want.Load offset width)) slots fds known own inside = (omega (arith, inside.0, slots), (inside.1, pair_names (slot_in w.cells slot) b))
wanted_fits w b N (want.Slot slot (slot_want.Store offset width value)) slots fds known own inside = (omega (arith, inside.0, slots), (inside.1, pair_names (slot_in w.cells slot) b))
wanted_fits w b N (want.Slot slot (slot_want.Smalloc tag size)) slots fds known own inside =
    (subst (λ n. n < length w.cells.slots) (sym own.1) (known tag (slot_held b tag) (used_slot b tag own.0)), some_bytes size own.2)
wanted_fits w b N (want.Slot slot (slot_want.Sfree offset)) slots fds known own inside = (omega (arith, inside.0, slots), (inside.1, pair_names (slot_in w.cells slot) b))
wanted_fits w b N (want.Fd fd q) slots fds known own inside = omega (arith, inside, fds)
wanted_fits w b N (want.Lives lives_ask.Claim) slots fds known own inside = tt
wanted_fits w b N q slots fds known own inside = absurd own

-- a run that leaves a recycled gate is in it
abbrev IsLeaving : WorldState → ActorState → Type 0
IsLeaving w b = (g : Gate) → b.run_of ≡ Some g → g.kind ≡ gate_kind.Recycled → has_ended b.phase ≡ false → (kept_in w.cells g.id).entered ≡ true

event_fits : (w : WorldState) (b : ActorState) (e : Event) → AreCells w.image w.cells → IsKnownInside b (length w.cells.slots) → HasGranted b → IsLeaving w b → HasRanges w.image b → Happens w b e → EventFits w.image w.cells e
event_fits w b e cells known granted leaves h (Requested r) =
    let slots = cells.slots in
    let streams = cells.streams in
    subst (EventFits w.image w.cells) (sym r.is) (wanted_fits w b _ r.want (omega (arith, slots)) (omega (arith, streams)) known r.own r.inside)
event_fits w b e cells known granted leaves h (Joined j) = subst (EventFits w.image w.cells) (sym j.join.is) tt
event_fits w b e cells known granted leaves h (Snaps s) =
    let slots = cells.slots in
    subst (EventFits w.image w.cells) (sym s.is) (next_inside b s.preparation s.grant s.others (length w.cells.slots) known (omega (arith, slots)) (granted.child s.preparation s.at) s.left, tt)
event_fits w b e cells known granted leaves h (GateSnaps s) =
    let slots = cells.slots in
    subst (EventFits w.image w.cells) (sym s.is) (next_inside b s.preparation s.grant s.others (length w.cells.slots) known (omega (arith, slots)) (granted.making s.preparation s.at) s.left, tt)
event_fits w b e cells known granted leaves h (Started s) = subst (EventFits w.image w.cells) (sym s.is) tt
event_fits w b e cells known granted leaves h (Opens o) = subst (EventFits w.image w.cells) (sym o.is) (subst (λ n. o.slot < n) (sym cells.slots) o.inside, few_pages (a0 b) o.pages)
event_fits w b e cells known granted leaves h (Releases r) = subst (EventFits w.image w.cells) (sym r.is) tt
event_fits w b e cells known granted leaves h (Numbers n) = subst (EventFits w.image w.cells) (sym n.is) tt
event_fits w b e cells known granted leaves h (OpensFile f) = subst (EventFits w.image w.cells) (sym f.is) (subst (λ n. f.fd < n) (sym cells.streams) f.inside)
event_fits w b e cells known granted leaves h (LastJoined j) = subst (EventFits w.image w.cells) (sym j.join.is) tt
event_fits w b e cells known granted leaves h (Ended f) = subst (EventFits w.image w.cells) (sym f.is) tt
event_fits w b e cells known granted leaves h (EntersGate x) = subst (EventFits w.image w.cells) (sym x.is) tt
event_fits w b e cells known granted leaves h (EntersRecycled x) = subst (EventFits w.image w.cells) (sym x.is) (x.free, each_entered (GateHasRanges w.image) b (a0 b) x.entrance.gate h.gates x.may.held)
event_fits w b e cells known granted leaves h (LeavesGate l) = subst (EventFits w.image w.cells) (sym l.is) tt
event_fits w b e cells known granted leaves h (LeavesRecycled l) = subst (EventFits w.image w.cells) (sym l.is) (leaves l.gate l.own l.recycled (ap has_ended l.at), h.own (ap has_ended l.at))

-- an actor that goes on, and one at rest, is the run of the gate of which it was one
rest_run : (i : Image) (a : ActorState) (t : Bool) → is_running a.phase ≡ t → (rest i a).run_of ≡ a.run_of
rest_run i a true e = (rests i a e).run_of
rest_run i a false e = ap (λ (x : ActorState). x.run_of) (rest-stays i a e)

ready_run : (actors : List ActorState) (a : ActorState) → (ready actors a).run_of ≡ a.run_of
ready_run actors a = ready_is (λ x. x.run_of ≡ a.run_of) actors a refl (λ k e fuel. refl)

turn_fits : (w : WorldState) (t : Turn) (new : WorldState) → AllReady w → Occupied w → AllKept w → AllRanges w → turn_of w t.actor ≡ Some (record { event = t.event; world = new }) → TurnFits w t new
turn_fits w t new all occ kept ranges is =
    let p = turn_from w t.actor t.event new is in
    let v = resumed w p.actor in
    let a = p.parts.actor in
    let b = rest w.image a in
    let goes = resumed_occupied w p.actor occ (turned_there w t.actor p.actor p.named) in
    let there = turned_there v t.actor a p.parts.named in
    let run : b.run_of ≡ p.actor.run_of = rest_run w.image a _ refl ∙ (ap (λ (x : ActorState). x.run_of) p.is ∙ ready_run w.actors p.actor) in
    let live : has_ended b.phase ≡ has_ended p.actor.phase = rest-ended w.image a ∙ (ap (λ (x : ActorState). has_ended x.phase) p.is ∙ ready_ended w.actors p.actor) in
    event_fits v b t.event all.cells
    (λ tag slot own. (goes.occupied.held a.name a tag slot there (rest_has w.image a tag slot (inl own))).2)
    (rested_granted w t.actor t.event new p kept.granted)
    (λ g own recycled lives. kept.alone.entered t.actor p.actor g.id p.named (record { gate = g; own = sym run ∙ own; recycled = recycled; named = refl; live = sym live ∙ lives }))
    (rested_ranges w t.actor t.event new p ranges) (turn_happens w t.actor t.event new all p)

each_fits : (old : WorldState) (turns : List Turn) (new : WorldState) → AllReady old → Occupied old → AllKept old → AllRanges old → Runs old turns new → EachTurn TurnFits old turns
each_fits old [] new all occ kept ranges run = tt
each_fits old (t ∷ ts) new all occ kept ranges run =
    let later = each_fits run.0 ts new (turn_ready old t.actor t.event run.0 all run.1) (turn_occupied old t.actor t.event run.0 all occ run.1) (turn_kept old t.actor t.event run.0 all kept run.1) (turn_ranges old t.actor t.event run.0 all ranges run.1) run.2 in
    (run.0, run.1, turn_fits old t run.0 all occ kept ranges run.1, later)

pub asks_fit : AsksFit
asks_fit i turns new run = each_fits (initial_state i) turns new (opening_ready i) (opening_occupied i) (opening_kept i) (opening_ranges i) run
