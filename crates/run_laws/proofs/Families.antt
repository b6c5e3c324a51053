-- Starts, joins and ends among actors are as the registers, the drafts and the child say.
use Rattle.std.proofs.Common.{◌≡◌, ℕ, ◌+◌, Bool, true, false, List, [], ◌∷◌, ◌++◌, refl, sym, ap, subst, ◌∙◌, arith}
use Rattle.std.proofs.lemmas.Bool.{eq-eqb}
use Rattle.std.specs.Prelude.{Option, Some, None, IsSomeAnd, option_and_then, unwrap_or, is_some, ◌&&◌, if◌then◌else◌, IfSome}
use Rattle.cow_pages.specs.PrivateMemory.{PrivateMemory}
use Rattle.wedge_base.specs.declared.grants.GateKind.TheVariants as gate_kind
use Rattle.wedge_events.specs.declared.cells.GateReply.TheVariants as gate_reply
use Rattle.wedge_events.specs.declared.cells.GateAsk.TheVariants as gate_ask
use Rattle.wedge_base.specs.Images.{Image, fetch}
use Rattle.wedge_base.specs.Names.{same}
use Rattle.wedge_base.specs.Sheets.{Made, empty_draft, sheet_of_draft, Draft}
use Rattle.wedge_base.specs.declared.rights.End.{End}
use Rattle.wedge_events.specs.declared.events.Want.{Want}
use Rattle.wedge_events.specs.declared.events.Want.TheVariants as want
use Rattle.wedge_events.specs.declared.events.SlotWant.TheVariants as slot_want
use Rattle.wedge_events.specs.declared.events.Event.{Event}
use Rattle.wedge_events.specs.declared.events.Event.TheVariants as event
use Rattle.wedge_events.specs.declared.cells.LivesAsk.TheVariants as lives_ask
use Rattle.wedge_events.specs.declared.cells.LivesReply.TheVariants as lives_reply
use Rattle.wedge_events.specs.declared.cells.DirectoryAsk.TheVariants as directory_ask
use Rattle.wedge_events.specs.declared.cells.DirectoryReply.TheVariants as directory_reply
use Rattle.wedge_events.specs.declared.cells.SlotAsk.{SlotAsk}
use Rattle.wedge_events.specs.declared.cells.SlotAsk.TheVariants as slot_ask
use Rattle.wedge_events.specs.declared.cells.SlotReply.{SlotReply}
use Rattle.wedge_events.specs.declared.cells.SlotReply.TheVariants as slot_reply
use Rattle.wedge_events.specs.declared.cells.StreamAsk.{StreamAsk}
use Rattle.wedge_events.specs.declared.cells.StreamAsk.TheVariants as stream_ask
use Rattle.wedge_events.specs.declared.cells.StreamReply.{StreamReply}
use Rattle.wedge_events.specs.declared.cells.StreamReply.TheVariants as reply
use Rattle.grant_sheet.specs.Granting.{IsWithin}
use Rattle.grant_sheet.proofs.SheetWithin.{sheet_within}
use Rattle.rv_isa.specs.declared.Instr.{Instr}
use Rattle.rv_isa.specs.Table.{decode}
use Rattle.rv_hart.specs.declared.Need.{Need}
use Rattle.rv_hart.specs.declared.Need.TheVariants as need
use Rattle.rv_hart.specs.Local.{local}
use Rattle.machine.specs.declared.opening.StreamLabel.{StreamLabel}
use Rattle.machine.specs.declared.phase.Phase.{Phase}
use Rattle.machine.specs.declared.phase.Phase.TheVariants as phase
use Rattle.machine.specs.Actors.{ActorState, but_gates}
use Rattle.machine.specs.Calls.{a0, draft_at}
use Rattle.machine.specs.Cells.{Cells}
use Rattle.machine.specs.Children.{Children, is_number, fuel_given, is_child, without_child, child_name}
use Rattle.run_laws.specs.Ends.{is_end_event}
use Rattle.run_laws.specs.Families.{IsChild, IsStart, IsFirst, IsToJoin, ActsAlone, made_in, made_under, made_by, labelled_under, labels_by, after_join, KeepsFamily, IsRun, IsEnter, EndsAsIs, DoesNext}
use Rattle.machine.specs.Local.{end_reached, step}
use Rattle.cow_pages.specs.Listed.{bytes_listed}
use Rattle.machine.specs.Preparation.{Preparation}
use Rattle.machine.specs.Take.{runs, loads_by, loads_at, next_start, takes, child_of, memory_made, has_opened_file, has_entered, run_by, run_at}
use Rattle.machine.specs.Worlds.{WorldState, actor_named, put_actor, apply_event, with_actor, with_begun}
use Rattle.run_laws.proofs.Between.{event_for, IsJoin, joined_is, numbered_is, snapped_is, takes_name, entered_is, entered_by}
use Rattle.run_laws.proofs.Happening.{AtOpen, AtFile, Happens, Requested, Joined, Snaps, GateSnaps, Started, Opens, Releases, Numbers, OpensFile, LastJoined, Ended, joined_at, EntersGate, LeavesGate, EntersRecycled, LeavesRecycled, AtRecycledEnter, memory_for}
use Rattle.run_laws.proofs.Meeting.{IsRequest, IsStartable}
use Rattle.run_laws.proofs.Named.{put_put, named_put_other}
use Rattle.machine.proofs.Resting.{steps_step}
use Rattle.callgate.specs.Lending.{IsRunSheet}
use Rattle.machine.specs.Entrance.{Entrance}
use Rattle.machine.specs.Entering.{sheet_lent, excess_lent}
use Rattle.run_laws.proofs.EnteringGates.{IsEnterable, run_is}
use Rattle.run_laws.specs.Holding.{loan, IsDrafted}
use Rattle.run_laws.proofs.Drafted.{is_drafted}

-- ---- what an event leaves as it is

pub record IsSameWith (made_ : Made) (labels_ : List StreamLabel) (a x : ActorState) : Type 0 where
  pub compartment : x.compartment ≡ a.compartment
  pub run_of : x.run_of ≡ a.run_of
  pub sheet : x.sheet ≡ a.sheet
  pub made : but_gates x.made ≡ but_gates made_
  pub labels : x.labels ≡ labels_
  pub starts : x.starts ≡ a.starts
  pub unjoined : x.unjoined ≡ a.unjoined

abbrev pub IsSame : Option Event → ActorState → ActorState → Type 0
IsSame e a x = IsSameWith (made_by a e) (labels_by a e) a x

loaded_same : (ins : Instr) (n : Need) (a : ActorState) (value : ℕ) → IsSame None a (loads_by ins n a value)
loaded_same ins need.Done a value = record { compartment = refl; run_of = refl; sheet = refl; made = refl; labels = refl; starts = refl; unjoined = refl }
loaded_same ins (need.Load address width s) a value = record { compartment = refl; run_of = refl; sheet = refl; made = refl; labels = refl; starts = refl; unjoined = refl }
loaded_same ins (need.Store address width v) a value = record { compartment = refl; run_of = refl; sheet = refl; made = refl; labels = refl; starts = refl; unjoined = refl }
loaded_same ins need.Call a value = record { compartment = refl; run_of = refl; sheet = refl; made = refl; labels = refl; starts = refl; unjoined = refl }
loaded_same ins need.Break a value = record { compartment = refl; run_of = refl; sheet = refl; made = refl; labels = refl; starts = refl; unjoined = refl }
loaded_same ins need.JumpMisaligned a value = record { compartment = refl; run_of = refl; sheet = refl; made = refl; labels = refl; starts = refl; unjoined = refl }

loads_same : (a : ActorState) (ins : Option Instr) (value : ℕ) → IsSame None a (loads_at a ins value)
loads_same a None value = record { compartment = refl; run_of = refl; sheet = refl; made = refl; labels = refl; starts = refl; unjoined = refl }
loads_same a (Some ins) value = loaded_same ins (local ins a.hart).need a value

-- the stream of a file is opened
opened_same : (a : ActorState) (p : Phase) (fd : ℕ) → IsSameWith (made_under a.made p fd) (labelled_under a.labels p fd) a (has_opened_file a p fd)
opened_same a phase.Running fd = record { compartment = refl; run_of = refl; sheet = refl; made = refl; labels = refl; starts = refl; unjoined = refl }
opened_same a (phase.Within q) fd = record { compartment = refl; run_of = refl; sheet = refl; made = refl; labels = refl; starts = refl; unjoined = refl }
opened_same a (phase.Starting pre) fd = record { compartment = refl; run_of = refl; sheet = refl; made = refl; labels = refl; starts = refl; unjoined = refl }
opened_same a (phase.MakingGate pre) fd = record { compartment = refl; run_of = refl; sheet = refl; made = refl; labels = refl; starts = refl; unjoined = refl }
opened_same a (phase.Opening slot tag) fd = record { compartment = refl; run_of = refl; sheet = refl; made = refl; labels = refl; starts = refl; unjoined = refl }
opened_same a (phase.Releasing slot) fd = record { compartment = refl; run_of = refl; sheet = refl; made = refl; labels = refl; starts = refl; unjoined = refl }
opened_same a (phase.Entering entrance) fd = record { compartment = refl; run_of = refl; sheet = refl; made = refl; labels = refl; starts = refl; unjoined = refl }
opened_same a (phase.Waiting number) fd = record { compartment = refl; run_of = refl; sheet = refl; made = refl; labels = refl; starts = refl; unjoined = refl }
opened_same a (phase.OpeningFile o) fd = record { compartment = refl; run_of = refl; sheet = refl; made = refl; labels = refl; starts = refl; unjoined = refl }
opened_same a (phase.Ending x) fd = record { compartment = refl; run_of = refl; sheet = refl; made = refl; labels = refl; starts = refl; unjoined = refl }
opened_same a (phase.Ended x) fd = record { compartment = refl; run_of = refl; sheet = refl; made = refl; labels = refl; starts = refl; unjoined = refl }

-- an event of no other actor
abbrev pub IsOfOne : Event → Type 0
IsOfOne (event.Start child) = ⊥
IsOfOne (event.Enter run) = ⊥
IsOfOne (event.Gate id (gate_ask.Enter run first) (gate_reply.Entered memory)) = ⊥
IsOfOne (event.Join k e fuel) = ⊥
IsOfOne e = Unit {0}

pub takes_same : (i : Image) (a : ActorState) (e : Event) → IsOfOne e → IsSame (Some e) a (takes i a e)
unfolding takes
takes_same i a (event.Slot slot q (slot_reply.Loaded value)) h =
    let s = loads_same (runs a) (option_and_then decode (fetch i a.hart.pc)) value in
    record { compartment = s.compartment; run_of = s.run_of; sheet = s.sheet; made = s.made; labels = s.labels; starts = s.starts; unjoined = s.unjoined }
takes_same i a (event.Slots (directory_ask.Release place) r) h = record { compartment = refl; run_of = refl; sheet = refl; made = refl; labels = refl; starts = refl; unjoined = refl }
takes_same i a (event.Slots directory_ask.Claim (directory_reply.Claimed place number)) h = record { compartment = refl; run_of = refl; sheet = refl; made = refl; labels = refl; starts = refl; unjoined = refl }
takes_same i a (event.Slots directory_ask.Claim directory_reply.Full) h = record { compartment = refl; run_of = refl; sheet = refl; made = refl; labels = refl; starts = refl; unjoined = refl }
takes_same i a (event.Slots directory_ask.Claim directory_reply.Released) h = record { compartment = refl; run_of = refl; sheet = refl; made = refl; labels = refl; starts = refl; unjoined = refl }
takes_same i a (event.Slot slot q (slot_reply.Snapped pages)) h =
    snapped_is (IsSame (Some (event.Slot slot q (slot_reply.Snapped pages))) a) a a.phase slot (Some (bytes_listed pages)) (record { compartment = refl; run_of = refl; sheet = refl; made = refl; labels = refl; starts = refl; unjoined = refl }) (λ x. record { compartment = refl; run_of = refl; sheet = refl; made = refl; labels = refl; starts = refl; unjoined = refl }) (λ x. record { compartment = refl; run_of = refl; sheet = refl; made = refl; labels = refl; starts = refl; unjoined = refl }) (λ g. record { compartment = refl; run_of = refl; sheet = refl; made = refl; labels = refl; starts = refl; unjoined = refl })
takes_same i a (event.Slot slot q slot_reply.Gone) h =
    snapped_is (IsSame (Some (event.Slot slot q slot_reply.Gone)) a) a a.phase slot None (record { compartment = refl; run_of = refl; sheet = refl; made = refl; labels = refl; starts = refl; unjoined = refl }) (λ x. record { compartment = refl; run_of = refl; sheet = refl; made = refl; labels = refl; starts = refl; unjoined = refl }) (λ x. record { compartment = refl; run_of = refl; sheet = refl; made = refl; labels = refl; starts = refl; unjoined = refl }) (λ g. record { compartment = refl; run_of = refl; sheet = refl; made = refl; labels = refl; starts = refl; unjoined = refl })
takes_same i a (event.Slot slot (slot_ask.Sfree offset live) (slot_reply.Denied tag wants)) h = record { compartment = refl; run_of = refl; sheet = refl; made = refl; labels = refl; starts = refl; unjoined = refl }
takes_same i a (event.Slot slot (slot_ask.Open tag pages) slot_reply.Opened) h = record { compartment = refl; run_of = refl; sheet = refl; made = refl; labels = refl; starts = refl; unjoined = refl }
takes_same i a (event.Slot slot q r) h = record { compartment = refl; run_of = refl; sheet = refl; made = refl; labels = refl; starts = refl; unjoined = refl }
takes_same i a (event.Fd fd q reply.Opened) h = opened_same a a.phase fd
takes_same i a (event.Fds (directory_ask.Release place) r) h = record { compartment = refl; run_of = refl; sheet = refl; made = refl; labels = refl; starts = refl; unjoined = refl }
takes_same i a (event.Fds directory_ask.Claim (directory_reply.Claimed fd number)) h =
    numbered_is (IsSame (Some (event.Fds directory_ask.Claim (directory_reply.Claimed fd number))) a) a a.phase fd (record { compartment = refl; run_of = refl; sheet = refl; made = refl; labels = refl; starts = refl; unjoined = refl }) (λ o. record { compartment = refl; run_of = refl; sheet = refl; made = refl; labels = refl; starts = refl; unjoined = refl })
takes_same i a (event.Fds directory_ask.Claim directory_reply.Full) h = record { compartment = refl; run_of = refl; sheet = refl; made = refl; labels = refl; starts = refl; unjoined = refl }
takes_same i a (event.Fds directory_ask.Claim directory_reply.Released) h = record { compartment = refl; run_of = refl; sheet = refl; made = refl; labels = refl; starts = refl; unjoined = refl }
takes_same i a (event.Fd fd q (reply.Given bytes)) h = record { compartment = refl; run_of = refl; sheet = refl; made = refl; labels = refl; starts = refl; unjoined = refl }
takes_same i a (event.Fd fd q reply.Appended) h = record { compartment = refl; run_of = refl; sheet = refl; made = refl; labels = refl; starts = refl; unjoined = refl }
takes_same i a (event.Fd fd q reply.Closed) h = record { compartment = refl; run_of = refl; sheet = refl; made = refl; labels = refl; starts = refl; unjoined = refl }
takes_same i a (event.Fd fd q reply.NoSuch) h = record { compartment = refl; run_of = refl; sheet = refl; made = refl; labels = refl; starts = refl; unjoined = refl }
takes_same i a (event.Fd fd q (reply.Denied wants)) h = record { compartment = refl; run_of = refl; sheet = refl; made = refl; labels = refl; starts = refl; unjoined = refl }
takes_same i a (event.Fd fd q reply.Bad) h = record { compartment = refl; run_of = refl; sheet = refl; made = refl; labels = refl; starts = refl; unjoined = refl }
takes_same i a (event.Lives lives_ask.Claim lives_reply.Claimed) h = record { compartment = refl; run_of = refl; sheet = refl; made = refl; labels = refl; starts = refl; unjoined = refl }
takes_same i a (event.Lives lives_ask.Claim lives_reply.Full) h = record { compartment = refl; run_of = refl; sheet = refl; made = refl; labels = refl; starts = refl; unjoined = refl }
takes_same i a (event.Lives lives_ask.Claim lives_reply.Released) h = record { compartment = refl; run_of = refl; sheet = refl; made = refl; labels = refl; starts = refl; unjoined = refl }
takes_same i a (event.Lives (lives_ask.Release x) r) h = record { compartment = refl; run_of = refl; sheet = refl; made = refl; labels = refl; starts = refl; unjoined = refl }
takes_same i a (event.Start child) h = absurd h
takes_same i a (event.Enter run) h = absurd h
takes_same i a (event.Gate id (gate_ask.Enter run first) (gate_reply.Entered memory)) h = absurd h
takes_same i a (event.Join k e fuel) h = absurd h
takes_same i a e h = record { compartment = refl; run_of = refl; sheet = refl; made = refl; labels = refl; starts = refl; unjoined = refl }

-- ---- an instruction, and an event of no other actor

pub step_family : (w : WorldState) (b : ActorState) → b.phase ≡ phase.Running → KeepsFamily (with_actor w b) b None (with_actor w (step w.image b))
step_family w b run =
    let s = steps_step w.image b in
    record {
      after = step w.image b;
      actors = sym (put_put w.actors b (step w.image b) s.name);
      name = s.name;
      compartment = s.compartment;
      run_of = s.run_of;
      sheet = s.sheet;
      made = s.made;
      labels = s.labels;
      starts = s.starts;
      unjoined = s.unjoined;
      next = subst (λ p. DoesNext p None) (sym run) tt;
      childless = λ e. absurd cc;
      leaving = tt;
    }

-- the world after an event
abbrev after : WorldState → ActorState → Event → WorldState
after w b e = (apply_event w b e).world

alone : (w : WorldState) (b : ActorState) (e : Event) → IsOfOne e → (after w b e).actors ≡ put_actor w.actors (takes w.image b e) → DoesNext b.phase (Some e) → (is_end_event (Some e) ≡ true → b.unjoined ≡ []) → EndsAsIs b.run_of b.memory (Some e)
    → ActsAlone (with_actor w b) b (Some e) (after w b e)
alone w b e one actors next childless leaving =
    let s = takes_same w.image b e one in
    record {
      after = takes w.image b e;
      actors = actors ∙ sym (put_put w.actors b (takes w.image b e) (takes_name w.image b e));
      name = takes_name w.image b e;
      compartment = s.compartment;
      run_of = s.run_of;
      sheet = s.sheet;
      made = s.made;
      labels = s.labels;
      starts = s.starts;
      unjoined = s.unjoined;
      next = next;
      childless = childless;
      leaving = leaving;
    }

-- the event of a request
next_at : (b : ActorState) (p : Phase) (e : Event) → b.phase ≡ p → DoesNext p (Some e) → DoesNext b.phase (Some e)
next_at b p e at h = subst (λ x. DoesNext x (Some e)) (sym at) h

want_family : (w : WorldState) (b : ActorState) (N : ℕ → Type 0) (q : Want) → IsRequest N b q → b.phase ≡ phase.Within q → KeepsFamily (with_actor w b) b (Some (event_for w.cells b q)) (after w b (event_for w.cells b q))
want_family w b N (want.Slots directory_ask.Claim) own at = alone w b _ tt refl (next_at b _ _ at tt) (λ e. absurd cc) tt
want_family w b N (want.Slot slot (slot_want.Close tag)) own at = alone w b _ tt refl (next_at b _ _ at tt) (λ e. absurd cc) tt
want_family w b N (want.Slot slot (slot_want.Smalloc tag size)) own at = alone w b _ tt refl (next_at b _ _ at tt) (λ e. absurd cc) tt
want_family w b N (want.Slot slot (slot_want.Sfree offset)) own at = alone w b _ tt refl (next_at b _ _ at tt) (λ e. absurd cc) tt
want_family w b N (want.Slot slot (slot_want.Load offset width)) own at = alone w b _ tt refl (next_at b _ _ at tt) (λ e. absurd cc) tt
want_family w b N (want.Slot slot (slot_want.Store offset width value)) own at = alone w b _ tt refl (next_at b _ _ at tt) (λ e. absurd cc) tt
want_family w b N (want.Fd fd q) own at = alone w b _ tt refl (next_at b _ _ at tt) (λ e. absurd cc) tt
want_family w b N (want.Lives lives_ask.Claim) own at = alone w b _ tt refl (next_at b _ _ at tt) (λ e. absurd cc) tt
want_family w b N q own at = absurd own

-- an event makes a tag of its actor's only where it opens one
pub takes_made : (i : Image) (a : ActorState) (e : Event) → but_gates (takes i a e).made ≡ but_gates (made_by a (Some e))
unfolding takes
takes_made i a (event.Start child) = refl
takes_made i a (event.Join k x fuel) = joined_is (λ y. but_gates y.made ≡ but_gates a.made) (record a { fuel = a.fuel + fuel; unjoined = without_child a.unjoined k }) a.phase x refl refl
takes_made i a (event.Slots q r) = (takes_same i a (event.Slots q r) tt).made
takes_made i a (event.Slot slot q r) = (takes_same i a (event.Slot slot q r) tt).made
takes_made i a (event.Fds q r) = (takes_same i a (event.Fds q r) tt).made
takes_made i a (event.Fd fd q r) = (takes_same i a (event.Fd fd q r) tt).made
takes_made i a (event.Lives q r) = (takes_same i a (event.Lives q r) tt).made
takes_made i a (event.Gate id (gate_ask.Enter run first) (gate_reply.Entered memory)) = entered_is (λ y. but_gates y.made ≡ but_gates a.made) a a.phase refl (λ x. refl)
takes_made i a (event.Gate id (gate_ask.Enter run first) gate_reply.Left) = refl
takes_made i a (event.Gate id (gate_ask.Leave x left) r) = refl
takes_made i a (event.Enter run) = entered_is (λ y. but_gates y.made ≡ but_gates a.made) a a.phase refl (λ x. refl)
takes_made i a (event.Leave end) = (takes_same i a (event.Leave end) tt).made

pub takes_sheet : (i : Image) (a : ActorState) (e : Event) → (takes i a e).sheet ≡ a.sheet
unfolding takes
takes_sheet i a (event.Start child) = refl
takes_sheet i a (event.Join k x fuel) = joined_is (λ y. y.sheet ≡ a.sheet) (record a { fuel = a.fuel + fuel; unjoined = without_child a.unjoined k }) a.phase x refl refl
takes_sheet i a (event.Slots q r) = (takes_same i a (event.Slots q r) tt).sheet
takes_sheet i a (event.Slot slot q r) = (takes_same i a (event.Slot slot q r) tt).sheet
takes_sheet i a (event.Fds q r) = (takes_same i a (event.Fds q r) tt).sheet
takes_sheet i a (event.Fd fd q r) = (takes_same i a (event.Fd fd q r) tt).sheet
takes_sheet i a (event.Lives q r) = (takes_same i a (event.Lives q r) tt).sheet
takes_sheet i a (event.Gate id (gate_ask.Enter run first) (gate_reply.Entered memory)) = entered_is (λ y. y.sheet ≡ a.sheet) a a.phase refl (λ x. refl)
takes_sheet i a (event.Gate id (gate_ask.Enter run first) gate_reply.Left) = refl
takes_sheet i a (event.Gate id (gate_ask.Leave x left) r) = refl
takes_sheet i a (event.Enter run) = entered_is (λ y. y.sheet ≡ a.sheet) a a.phase refl (λ x. refl)
takes_sheet i a (event.Leave end) = (takes_same i a (event.Leave end) tt).sheet

-- no tag is made where none was to be opened
abbrev pub IsNoOpening : SlotAsk → Type 0
IsNoOpening (slot_ask.Open tag pages) = ⊥
IsNoOpening q = Unit {0}

pub made_same : (m : Made) (slot : ℕ) (r : SlotReply) (q : SlotAsk) → IsNoOpening q → made_in m slot r q ≡ m
made_same m slot slot_reply.Opened (slot_ask.Open tag pages) k = absurd k
made_same m slot slot_reply.Opened (slot_ask.Close tag) k = refl
made_same m slot slot_reply.Opened (slot_ask.Load width offset live) k = refl
made_same m slot slot_reply.Opened (slot_ask.Store width offset value live) k = refl
made_same m slot slot_reply.Opened (slot_ask.Smalloc tag size) k = refl
made_same m slot slot_reply.Opened (slot_ask.Sfree offset live) k = refl
made_same m slot slot_reply.Opened (slot_ask.Snap tag) k = refl
made_same m slot r q k = refl

-- nor a descriptor by who has opened no file
pub made_within : (b : ActorState) (q : Want) (fd : ℕ) (x : StreamAsk) (r : StreamReply) → b.phase ≡ phase.Within q → made_by b (Some (event.Fd fd x r)) ≡ b.made
made_within b q fd x reply.Opened at = ap (λ p. made_under b.made p fd) at
made_within b q fd x (reply.Given bytes) at = refl
made_within b q fd x reply.Appended at = refl
made_within b q fd x reply.Closed at = refl
made_within b q fd x reply.NoSuch at = refl
made_within b q fd x (reply.Denied wants) at = refl
made_within b q fd x reply.Bad at = refl

pub want_made : (N : ℕ → Type 0) (c : Cells) (b : ActorState) (q : Want) → IsRequest N b q → b.phase ≡ phase.Within q → made_by b (Some (event_for c b q)) ≡ b.made
want_made N c b (want.Slots directory_ask.Claim) own at = refl
want_made N c b (want.Slot slot (slot_want.Close tag)) own at = made_same b.made slot _ _ tt
want_made N c b (want.Slot slot (slot_want.Load offset width)) own at = made_same b.made slot _ _ tt
want_made N c b (want.Slot slot (slot_want.Store offset width value)) own at = made_same b.made slot _ _ tt
want_made N c b (want.Slot slot (slot_want.Smalloc tag size)) own at = made_same b.made slot _ _ tt
want_made N c b (want.Slot slot (slot_want.Sfree offset)) own at = made_same b.made slot _ _ tt
want_made N c b (want.Fd fd q) own at = made_within b (want.Fd fd q) fd q _ at
want_made N c b (want.Lives lives_ask.Claim) own at = refl
want_made N c b q own at = absurd own

-- what an event makes its actor have made: nothing, a tag that it opens, or the descriptor of a file
pub data MadeBy (w : WorldState) (b : ActorState) (e : Event) : Type 0 where
  MadeNothing : made_by b (Some e) ≡ b.made → MadeBy w b e
  MadeTag : AtOpen w b e → MadeBy w b e
  MadeFd : AtFile w b e → MadeBy w b e

pub happens_made : (w : WorldState) (b : ActorState) (e : Event) → Happens w b e → MadeBy w b e
happens_made w b e (Requested r) = MadeNothing (ap (λ y. made_by b (Some y)) r.is ∙ want_made _ w.cells b r.want r.own r.at)
happens_made w b e (Joined j) = MadeNothing (ap (λ y. made_by b (Some y)) j.join.is)
happens_made w b e (Snaps s) = MadeNothing (ap (λ y. made_by b (Some y)) s.is ∙ made_same b.made s.grant.slot _ _ tt)
happens_made w b e (GateSnaps s) = MadeNothing (ap (λ y. made_by b (Some y)) s.is ∙ made_same b.made s.grant.slot _ _ tt)
happens_made w b e (Started s) = MadeNothing (ap (λ y. made_by b (Some y)) s.is)
happens_made w b e (Opens o) = MadeTag o
happens_made w b e (Releases r) = MadeNothing (ap (λ y. made_by b (Some y)) r.is)
happens_made w b e (Numbers n) = MadeNothing (ap (λ y. made_by b (Some y)) n.is)
happens_made w b e (OpensFile f) = MadeFd f
happens_made w b e (LastJoined j) = MadeNothing (ap (λ y. made_by b (Some y)) j.join.is)
happens_made w b e (Ended f) = MadeNothing (ap (λ y. made_by b (Some y)) f.is)
happens_made w b e (EntersGate x) = MadeNothing (ap (λ y. made_by b (Some y)) x.is)
happens_made w b e (EntersRecycled x) = MadeNothing (ap (λ y. made_by b (Some y)) x.is)
happens_made w b e (LeavesGate l) = MadeNothing (ap (λ y. made_by b (Some y)) l.is)
happens_made w b e (LeavesRecycled l) = MadeNothing (ap (λ y. made_by b (Some y)) l.is)

-- ---- a start

pub child_begins : (i : Image) (b : ActorState) (p : Preparation) → b.phase ≡ phase.Starting p → p.left ≡ [] → IsStartable b → IsChild b (child_of i b (child_name b.name (next_start b)))
child_begins i b p at complete ready =
    let found : draft_at b.drafts (a0 b) ≡ ready.draft = ap (λ o. unwrap_or o empty_draft) ready.drafted in
    let sheet : sheet_of_draft b.sheet b.made (draft_at b.drafts (a0 b)) ≡ sheet_of_draft b.sheet b.made ready.draft = ap (sheet_of_draft b.sheet b.made) found in
    record {
      draft = ready.draft;
      drafted = ready.drafted;
      allowed = ready.allowed;
      sheet = sheet;
      within = subst (IsWithin b.sheet b.made) (sym sheet) (sheet_within b.sheet b.made ready.draft ready.allowed);
      asked = subst (IsDrafted b.sheet b.made ready.draft) (sym sheet) (is_drafted b.sheet b.made ready.draft ready.allowed);
      name = refl;
      compartment = refl;
      own = refl;
      hart = refl;
      prepared = p;
      preparing = at;
      complete = complete;
      memory = ap (memory_made i) at;
      fuel = refl;
      gates = refl;
      fresh = (refl, refl, refl, refl, refl, refl, refl);
    }

start_family : (w : WorldState) (b : ActorState) (p : Preparation) → b.phase ≡ phase.Starting p → p.left ≡ [] → IsStartable b
    → IsStart (with_actor w b) b (child_name b.name (next_start b)) (after w b (event.Start (child_name b.name (next_start b))))
unfolding takes
start_family w b p at complete ready = record {
  child = child_of w.image b (child_name b.name (next_start b));
  begins = child_begins w.image b p at complete ready;
  named = sym (child_begins w.image b p at complete ready).name;
  actors = ap (λ (as_ : List ActorState). as_ ++ child_of w.image b (child_name b.name (next_start b)) ∷ []) (sym (put_put w.actors b (takes w.image b (event.Start (child_name b.name (next_start b)))) refl));
}

-- ---- the entry of a gate
-- what is lent is within what its caller holds
lent_within : (b : ActorState) (lent : Option Draft) → excess_lent b lent ≡ None → IfSome (sheet_lent b lent) (IsWithin b.sheet b.made)
lent_within b None e = tt
lent_within b (Some d) e = sheet_within b.sheet b.made d e

lent_drafted : (b : ActorState) (lent : Option Draft) → excess_lent b lent ≡ None → IfSome lent (λ d. IfSome (loan b lent) (IsDrafted b.sheet b.made d))
lent_drafted b None e = tt
lent_drafted b (Some d) e = is_drafted b.sheet b.made d e

pub run_begins : (b : ActorState) (kept : Option PrivateMemory) (x : Entrance) → b.phase ≡ phase.Entering x → IsEnterable b x → IsRun b (run_by b (child_name b.name (next_start b)) kept x)
run_begins b kept x at may = record {
  entrance = x;
  entering = at;
  held = may.held;
  lent = may.lent;
  asked = may.asked;
  lendable = may.lendable;
  allowed = may.allowed;
  within = lent_within b may.lent may.allowed;
  lends = lent_drafted b may.lent may.allowed;
  sheet = subst (IsRunSheet x.gate.sheet (sheet_lent b may.lent)) (sym may.sheet) (run_is x.gate.sheet (sheet_lent b may.lent));
  name = refl;
  compartment = refl;
  own = refl;
  hart = refl;
  fuel = refl;
  gates = refl;
  fresh = (refl, refl, refl, refl, refl, refl, refl);
}

enter_family : (w : WorldState) (b : ActorState) (x : Entrance) → b.phase ≡ phase.Entering x → IsEnterable b x
    → x.gate.kind ≡ gate_kind.Fresh → IsEnter (with_actor w b) b (event.Enter (child_name b.name (next_start b))) (child_name b.name (next_start b)) (after w b (event.Enter (child_name b.name (next_start b))))
unfolding takes run_begins
enter_family w b x at may fresh =
    let name = child_name b.name (next_start b) in
    let run = run_by b name None x in
    let is : (after w b (event.Enter name)).actors ≡ put_actor w.actors (entered_by b x) ++ run ∷ [] = ap (λ p. with_begun (put_actor w.actors (has_entered b p)) (run_at b name None p)) at in
    record {
      run = run;
      begins = run_begins b None x at may;
      memory = (fresh, refl);
      named = refl;
      actors = is ∙ ap (λ (as_ : List ActorState). as_ ++ run ∷ []) (sym (put_put w.actors b (entered_by b x) refl));
    }

-- that of a recycled one, which is free
recycled_family : (w : WorldState) (b : ActorState) (e : Event) (x : AtRecycledEnter w b e) → KeepsFamily (with_actor w b) b (Some e) (after w b e)
unfolding takes run_begins
recycled_family w b e x =
    let name = child_name b.name (next_start b) in
    let m = memory_for w.cells x.entrance.gate in
    let run = run_by b name (Some m) x.entrance in
    let y = event.Gate x.entrance.gate.id (gate_ask.Enter name x.entrance.gate.memory) (gate_reply.Entered m) in
    let is : (after w b y).actors ≡ put_actor w.actors (entered_by b x.entrance) ++ run ∷ [] = ap (λ p. with_begun (put_actor w.actors (has_entered b p)) (run_at b name (Some m) p)) x.at in
    subst (λ z. KeepsFamily (with_actor w b) b (Some z) (after w b z)) (sym x.is)
    (record {
      run = run;
      begins = run_begins b (Some m) x.entrance x.at x.may;
      memory = (x.recycled, refl, refl, x.free, refl, refl);
      named = refl;
      actors = is ∙ ap (λ (as_ : List ActorState). as_ ++ run ∷ []) (sym (put_put w.actors b (entered_by b x.entrance) refl));
    })

-- ---- a join

longer : (n : List ℕ) (k : ℕ) → same n (child_name n k) ≡ false
longer [] k = refl
longer (x ∷ xs) k = ap (λ t. t && same xs (child_name xs k)) (eq-eqb x x refl) ∙ longer xs k

pub ended_so : (p : Phase) (x : End) → end_reached p ≡ Some x → p ≡ phase.Ended x
ended_so phase.Running x e = absurd cc
ended_so (phase.Within q) x e = absurd cc
ended_so (phase.Starting pre) x e = absurd cc
ended_so (phase.MakingGate pre) x e = absurd cc
ended_so (phase.Opening slot tag) x e = absurd cc
ended_so (phase.Releasing slot) x e = absurd cc
ended_so (phase.Entering entrance) x e = absurd cc
ended_so (phase.Waiting number) x e = absurd cc
ended_so (phase.OpeningFile o) x e = absurd cc
ended_so (phase.Ending y) x e = absurd cc
ended_so (phase.Ended y) x e = cc

join_child : (w : WorldState) (b : ActorState) (k : ℕ) (e : Event) (j : IsJoin w b k e) → IsSomeAnd (actor_named (put_actor w.actors b) (b.name ++ k ∷ [])) (λ c. (c.phase ≡ phase.Ended j.how) × (c.fuel ≡ j.child.fuel))
join_child w b k e j =
    subst (λ o. IsSomeAnd o (λ c. (c.phase ≡ phase.Ended j.how) × (c.fuel ≡ j.child.fuel))) (sym (named_put_other w.actors b (child_name b.name k) (longer b.name k) ∙ j.there))
    (ended_so j.child.phase j.how j.ended, refl)

joins_as : (i : Image) (b : ActorState) (p : Phase) (k : ℕ) (x : End) (fuel : ℕ) → b.phase ≡ p → takes i b (event.Join k x fuel) ≡ after_join b p k x fuel
unfolding takes
joins_as i b phase.Running k x fuel at = joined_at b phase.Running x k fuel at
joins_as i b (phase.Within q) k x fuel at = joined_at b (phase.Within q) x k fuel at
joins_as i b (phase.Starting pre) k x fuel at = joined_at b (phase.Starting pre) x k fuel at
joins_as i b (phase.MakingGate pre) k x fuel at = joined_at b (phase.MakingGate pre) x k fuel at
joins_as i b (phase.Opening slot tag) k x fuel at = joined_at b (phase.Opening slot tag) x k fuel at
joins_as i b (phase.Releasing slot) k x fuel at = joined_at b (phase.Releasing slot) x k fuel at
joins_as i b (phase.Entering entrance) k x fuel at = joined_at b (phase.Entering entrance) x k fuel at
joins_as i b (phase.Waiting number) k x fuel at = joined_at b (phase.Waiting number) x k fuel at
joins_as i b (phase.OpeningFile o) k x fuel at = joined_at b (phase.OpeningFile o) x k fuel at
joins_as i b (phase.Ending y) k x fuel at = joined_at b (phase.Ending y) x k fuel at
joins_as i b (phase.Ended y) k x fuel at = joined_at b (phase.Ended y) x k fuel at

join_family : (w : WorldState) (b : ActorState) (k : ℕ) (e : Event) → IsJoin w b k e → IsToJoin b b.phase k → is_child b.unjoined k ≡ true → KeepsFamily (with_actor w b) b (Some e) (after w b e)
join_family w b k e j due listed =
    let x = takes w.image b (event.Join k j.how j.child.fuel) in
    let is : x ≡ after_join b b.phase k j.how j.child.fuel = joins_as w.image b b.phase k j.how j.child.fuel refl in
    subst (λ y. KeepsFamily (with_actor w b) b (Some y) (after w b y)) (sym j.is)
    (record {
      listed = listed;
      child = join_child w b k e j;
      due = due;
      actors = sym (put_put w.actors b x (takes_name w.image b (event.Join k j.how j.child.fuel))) ∙ ap (put_actor (put_actor w.actors b)) is;
    })

-- ---- any event

pub first_child : (c : ℕ × ℕ) (cs : Children) → is_child (c ∷ cs) c.0 ≡ true
first_child c cs = by_same (is_number c.0 c.0) (number_itself c.0)
  where
    number_itself : (k : ℕ) → is_number k k ≡ true
    number_itself k = grind (arith)

    by_same : (t : Bool) → t ≡ true → is_some (if t then Some c.1 else fuel_given cs c.0) ≡ true
    by_same true e = refl
    by_same false e = absurd cc

pub event_family : (w : WorldState) (b : ActorState) (e : Event) → Happens w b e → KeepsFamily (with_actor w b) b (Some e) (after w b e)
event_family w b e (Requested r) = subst (λ y. KeepsFamily (with_actor w b) b (Some y) (after w b y)) (sym r.is) (want_family w b _ r.want r.own r.at)
event_family w b e (Joined j) = join_family w b j.number e j.join (subst (λ p. IsToJoin b p j.number) (sym j.at) (refl, j.named)) j.listed
event_family w b e (Started s) = subst (λ y. KeepsFamily (with_actor w b) b (Some y) (after w b y)) (sym s.is) (start_family w b s.preparation s.at s.complete s.ready)
event_family w b e (Snaps s) =
    subst (λ y. KeepsFamily (with_actor w b) b (Some y) (after w b y)) (sym s.is)
    (alone w b (event.Slot s.grant.slot (slot_ask.Snap s.grant.tag) _) tt refl (next_at b _ _ s.at (λ none. let f : s.grant ∷ s.others ≡ [] = sym s.left ∙ none in cc)) (λ h. absurd cc) tt)
event_family w b e (GateSnaps s) =
    subst (λ y. KeepsFamily (with_actor w b) b (Some y) (after w b y)) (sym s.is)
    (alone w b (event.Slot s.grant.slot (slot_ask.Snap s.grant.tag) _) tt refl (next_at b _ _ s.at tt) (λ h. absurd cc) tt)
event_family w b e (LastJoined j) =
    join_family w b j.first.0 e j.join (subst (λ p. IsToJoin b p j.first.0) (sym j.at) (subst (λ cs. IsFirst cs j.first.0) (sym j.left) refl))
    (subst (λ cs. is_child cs j.first.0 ≡ true) (sym j.left) (first_child j.first j.others))
event_family w b e (Opens o) =
    subst (λ y. KeepsFamily (with_actor w b) b (Some y) (after w b y)) (sym o.is)
    (alone w b (event.Slot o.slot (slot_ask.Open o.tag (a0 b)) slot_reply.Opened) tt refl (next_at b _ _ o.at tt) (λ h. absurd cc) tt)
event_family w b e (Releases r) =
    subst (λ y. KeepsFamily (with_actor w b) b (Some y) (after w b y)) (sym r.is)
    (alone w b (event.Slots (directory_ask.Release r.slot) directory_reply.Released) tt refl (next_at b _ _ r.at tt) (λ h. absurd cc) tt)
event_family w b e (Numbers n) =
    subst (λ y. KeepsFamily (with_actor w b) b (Some y) (after w b y)) (sym n.is)
    (alone w b (event.Fds directory_ask.Claim _) tt refl (next_at b _ _ n.at tt) (λ h. absurd cc) tt)
event_family w b e (OpensFile f) =
    subst (λ y. KeepsFamily (with_actor w b) b (Some y) (after w b y)) (sym f.is)
    (alone w b (event.Fd f.fd (stream_ask.Open f.opening.kind f.opening.bytes) reply.Opened) tt refl (next_at b _ _ f.at tt) (λ h. absurd cc) tt)
event_family w b e (EntersGate x) = subst (λ y. KeepsFamily (with_actor w b) b (Some y) (after w b y)) (sym x.is) (enter_family w b x.entrance x.at x.may x.fresh)
event_family w b e (EntersRecycled x) = recycled_family w b e x
event_family w b e (LeavesGate l) =
    subst (λ y. KeepsFamily (with_actor w b) b (Some y) (after w b y)) (sym l.is)
    (alone w b (event.Leave l.end_) tt refl (next_at b _ _ l.at refl) (λ h. l.left) (subst (λ g. IsSomeAnd g (λ h. h.kind ≡ gate_kind.Fresh)) (sym l.own) l.fresh))
event_family w b e (LeavesRecycled l) =
    subst (λ y. KeepsFamily (with_actor w b) b (Some y) (after w b y)) (sym l.is)
    (alone w b (event.Gate l.gate.id (gate_ask.Leave l.end_ b.memory) gate_reply.Left) tt refl (next_at b _ _ l.at refl) (λ h. l.left)
    (subst (λ g. IsSomeAnd g (λ h. (h.kind ≡ gate_kind.Recycled) × (l.gate.id ≡ h.id))) (sym l.own) (l.recycled, refl), refl))
event_family w b e (Ended f) =
    subst (λ y. KeepsFamily (with_actor w b) b (Some y) (after w b y)) (sym f.is)
    (alone w b (event.Lives (lives_ask.Release f.end_) lives_reply.Released) tt refl (next_at b _ _ f.at refl) (λ h. f.left) f.own)
