-- A child is prepared by the claim of a life and by the copies of tags: what its memory then has.
use Rattle.std.proofs.Common.{◌≡◌, ◌≢◌, ◌⊎◌, inl, inr, ⊎_elim, ℕ, Bool, true, false, List, [], ◌∷◌, refl, sym, ap, subst, ◌∙◌}
use Rattle.std.specs.Prelude.{Option, Some, None, ◌==◌, nat_lt, option_map, if◌then◌else◌}
use Rattle.std.specs.List.{cons_option}
use Rattle.std.specs.Option.{option_or}
use Rattle.std.proofs.lemmas.Bool.{eqb-true, eq-eqb}
use Rattle.wedge_events.specs.declared.cells.GateReply.TheVariants as gate_reply
use Rattle.wedge_events.specs.declared.cells.GateAsk.TheVariants as gate_ask
use Rattle.cow_pages.specs.Copies.{Copies, is_slot, copy_at}
use Rattle.cow_pages.specs.Listed.{bytes_listed}
use Rattle.cow_pages.specs.PrivateMemory.{PrivateMemory}
use Rattle.wedge_base.specs.Images.{Image}
use Rattle.wedge_base.specs.Maps.{Map}
use Rattle.wedge_base.specs.Pages.{pages_of}
use Rattle.wedge_base.specs.Sheets.{is_copy, sheet_of_draft}
use Rattle.wedge_base.specs.declared.rights.Grant.{Grant}
use Rattle.wedge_events.specs.Slots.{Segment, slot_reply as slot_reply_of}
use Rattle.wedge_events.specs.declared.cells.DirectoryAsk.TheVariants as directory_ask
use Rattle.wedge_events.specs.declared.cells.DirectoryReply.TheVariants as directory_reply
use Rattle.wedge_events.specs.declared.cells.LivesAsk.TheVariants as lives_ask
use Rattle.wedge_events.specs.declared.cells.LivesReply.TheVariants as lives_reply
use Rattle.wedge_events.specs.declared.cells.SlotAsk.TheVariants as slot_ask
use Rattle.wedge_events.specs.declared.cells.SlotReply.TheVariants as slot_reply
use Rattle.wedge_events.specs.declared.events.Event.{Event}
use Rattle.wedge_events.specs.declared.events.Event.TheVariants as event
use Rattle.wedge_events.specs.declared.events.SlotWant.TheVariants as slot_want
use Rattle.wedge_events.specs.declared.events.Want.{Want}
use Rattle.wedge_events.specs.declared.events.Want.TheVariants as want
use Rattle.wedge_base.specs.declared.rights.Right.{Right}
use Rattle.wedge_base.specs.declared.rights.Right.TheVariants as right
use Rattle.machine.specs.declared.copy_grant.CopyGrant.{CopyGrant}
use Rattle.machine.specs.declared.phase.Phase.{Phase}
use Rattle.machine.specs.declared.phase.Phase.TheVariants as phase
use Rattle.machine.specs.Actors.{ActorState, pristine, right_of}
use Rattle.machine.specs.Calls.{a0, draft_at}
use Rattle.machine.specs.Cells.{slot_in}
use Rattle.run_laws.specs.ChildCopies.{copy_asked, copies_in, own_at, IsPrepared, Prepares, pages_living, snap_reply, NotPreparing, SnapsNext, PreparesBy}
use Rattle.machine.specs.CopyGrant.{copy_grants, is_copy_alone}
use Rattle.machine.specs.Preparation.{Preparation, copied_from, prepare_copies, behind_first}
use Rattle.machine.specs.Local.{step}
use Rattle.machine.specs.Take.{copies_asked, has_snapped, takes, copied_on}
use Rattle.machine.specs.Worlds.{WorldState, with_actor}
use Rattle.run_laws.proofs.Between.{event_for, IsPreparing, numbered_is, takes_between, made_is, entered_is}
use Rattle.machine.proofs.ByNumber.{same_number, number_itself, found_with}
use Rattle.run_laws.proofs.Happening.{Happens, AtSnap, Requested, Joined, Snaps, GateSnaps, Started, Opens, Releases, Numbers, OpensFile, LastJoined, Ended, no_preparing, EntersGate, LeavesGate, EntersRecycled, LeavesRecycled}
use Rattle.run_laws.proofs.Meeting.{IsRequest}
use Rattle.machine.proofs.Resting.{IsCalm, steps_step}

-- ---- the copies of the starter's own

or_again : {X : Type 0} (x y z : Option X) → option_or x (option_or y z) ≡ option_or (option_or x y) z
or_again (Some a) y z = refl
or_again None y z = refl

-- what one copy of the starter's own makes of what is at a slot
own_copied : (own : Copies) (g : CopyGrant) (m : PrivateMemory) (slot : ℕ) (o : Option (List ℕ)) → copy_at own g.slot ≡ o
    → copy_at (copied_from o g.slot m).copies slot ≡ option_or (if g.slot == slot then copy_at own slot else None) (copy_at m.copies slot)
own_copied own g m slot None there = by_slot (g.slot == slot) refl
  where
    by_slot : (t : Bool) → (g.slot == slot) ≡ t → copy_at m.copies slot ≡ option_or (if t then copy_at own slot else None) (copy_at m.copies slot)
    by_slot false e = refl
    by_slot true e = let none : copy_at own slot ≡ None = subst (λ n. copy_at own n ≡ None) (eqb-true g.slot slot e) there in ap (λ x. option_or x (copy_at m.copies slot)) (sym none)
own_copied own g m slot (Some bytes) there = found_with m.copies g.slot bytes slot ∙ by_slot (is_slot slot g.slot) refl
  where
    same_slots : is_slot slot g.slot ≡ true → option_or (if g.slot == slot then copy_at own slot else None) (copy_at m.copies slot) ≡ Some bytes
    same_slots e =
        let is : slot ≡ g.slot = same_number slot g.slot e in
        ap (λ t. option_or (if t then copy_at own slot else None) (copy_at m.copies slot)) (eq-eqb g.slot slot (sym is))
        ∙ ap (λ x. option_or x (copy_at m.copies slot)) (ap (copy_at own) is ∙ there)

    other_slots : is_slot slot g.slot ≡ false → (t : Bool) → (g.slot == slot) ≡ t → copy_at m.copies slot ≡ option_or (if t then copy_at own slot else None) (copy_at m.copies slot)
    other_slots e false f = refl
    other_slots e true f =
        let both : true ≡ false = sym (number_itself slot) ∙ (ap (is_slot slot) (sym (eqb-true g.slot slot f)) ∙ e) in
        absurd cc

    by_slot : (t : Bool) → is_slot slot g.slot ≡ t → (if t then Some bytes else copy_at m.copies slot) ≡ option_or (if g.slot == slot then copy_at own slot else None) (copy_at m.copies slot)
    by_slot true e = sym (same_slots e)
    by_slot false e = other_slots e (g.slot == slot) refl

copied_ranges : (o : Option (List ℕ)) (slot : ℕ) (m : PrivateMemory) → (copied_from o slot m).ranges ≡ m.ranges
copied_ranges None slot m = refl
copied_ranges (Some bytes) slot m = refl

alone_is : (r : Option Right) → is_copy_alone r ≡ true → r ≡ Some right.Cow
alone_is None e = absurd cc
alone_is (Some right.Cow) e = refl
alone_is (Some right.Read) e = absurd cc
alone_is (Some right.ReadWrite) e = absurd cc

not_alone : (r : Option Right) → is_copy_alone r ≡ false → r ≢ Some right.Cow
not_alone r e is = let both : false ≡ true = sym e ∙ ap is_copy_alone is in cc

pub prepared_so : (a : ActorState) (m : PrivateMemory) (gs : List CopyGrant) → IsPrepared a m gs (prepare_copies a.sheet a.made a.memory.copies m gs)
prepared_so a m [] = record { done = []; split = refl; own = tt; next = tt; ranges = refl; copies = λ slot. refl }
prepared_so a m (g ∷ gs) = by_right (is_copy_alone (right_of a g.tag)) refl (prepared_so a (copied_from (copy_at a.memory.copies g.slot) g.slot m) gs)
  where
    by_right : (t : Bool) → is_copy_alone (right_of a g.tag) ≡ t
        → IsPrepared a (copied_from (copy_at a.memory.copies g.slot) g.slot m) gs (prepare_copies a.sheet a.made a.memory.copies (copied_from (copy_at a.memory.copies g.slot) g.slot m) gs)
        → IsPrepared a m (g ∷ gs) (if t then prepare_copies a.sheet a.made a.memory.copies (copied_from (copy_at a.memory.copies g.slot) g.slot m) gs else record { memory = m; left = g ∷ gs })
    by_right true e later = record {
      done = g ∷ later.done;
      split = ap (λ l. g ∷ l) later.split;
      own = (alone_is (right_of a g.tag) e, later.own);
      next = later.next;
      ranges = later.ranges ∙ copied_ranges (copy_at a.memory.copies g.slot) g.slot m;
      copies = λ slot. later.copies slot
          ∙ ap (option_or (own_at a.memory.copies slot later.done)) (own_copied a.memory.copies g m slot (copy_at a.memory.copies g.slot) refl)
          ∙ or_again (own_at a.memory.copies slot later.done) (if g.slot == slot then copy_at a.memory.copies slot else None) (copy_at m.copies slot);
    }
    by_right false e later = record { done = []; split = refl; own = tt; next = not_alone (right_of a g.tag) e; ranges = refl; copies = λ slot. refl }

-- ---- who prepares no child

not_preparing : (p : Phase) → (IsPreparing p → ⊥) → NotPreparing p
not_preparing phase.Running h = tt
not_preparing (phase.Within q) h = tt
not_preparing (phase.Starting pre) h = absurd (h tt)
not_preparing (phase.MakingGate pre) h = tt
not_preparing (phase.Opening slot tag) h = tt
not_preparing (phase.Releasing slot) h = tt
not_preparing (phase.Entering entrance) h = tt
not_preparing (phase.Waiting number) h = tt
not_preparing (phase.OpeningFile o) h = tt
not_preparing (phase.Ending e) h = tt
not_preparing (phase.Ended e) h = tt

calm_unprepared : (p : Phase) → IsCalm p → NotPreparing p
calm_unprepared phase.Running h = tt
calm_unprepared (phase.Within q) h = tt
calm_unprepared (phase.Starting pre) h = absurd h
calm_unprepared (phase.MakingGate pre) h = tt
calm_unprepared (phase.Opening slot tag) h = tt
calm_unprepared (phase.Releasing slot) h = tt
calm_unprepared (phase.Entering entrance) h = tt
calm_unprepared (phase.Waiting number) h = tt
calm_unprepared (phase.OpeningFile o) h = tt
calm_unprepared (phase.Ending e) h = tt
calm_unprepared (phase.Ended e) h = tt

pub step_unprepared : (i : Image) (b : ActorState) → b.phase ≡ phase.Running → NotPreparing (step i b).phase
step_unprepared i b run = calm_unprepared (step i b).phase ((steps_step i b).calm (subst IsCalm (sym run) tt))

-- ---- events

-- who prepares a child after an event has claimed a life by it, or prepared one before
pub was_preparing : (i : Image) (b : ActorState) (e : Event) → IsPreparing (takes i b e).phase → (e ≡ event.Lives lives_ask.Claim lives_reply.Claimed) ⊎ IsPreparing b.phase
unfolding takes
was_preparing i b (event.Lives lives_ask.Claim lives_reply.Claimed) k = inl refl
was_preparing i b (event.Lives lives_ask.Claim lives_reply.Full) k = absurd k
was_preparing i b (event.Lives lives_ask.Claim lives_reply.Released) k = absurd k
was_preparing i b (event.Lives (lives_ask.Release x) r) k = absurd k
was_preparing i b (event.Slot slot q (slot_reply.Snapped pages)) k = inr (by_phase b.phase k)
  where
    by_phase : (p : Phase) → IsPreparing (has_snapped b p slot (Some (bytes_listed pages))).phase → IsPreparing p
    by_phase (phase.MakingGate pre) h = absurd (made_is (λ x. IsPreparing x.phase → ⊥) b (draft_at b.drafts (a0 b)) (copied_on b pre slot (Some (bytes_listed pages))) (λ x k. k) (λ g k. k) h)
    by_phase phase.Running h = absurd h
    by_phase (phase.Within w) h = absurd h
    by_phase (phase.Starting pre) h = tt
    by_phase (phase.Opening s tag) h = absurd h
    by_phase (phase.Releasing s) h = absurd h
    by_phase (phase.Entering entrance) h = absurd h
    by_phase (phase.Waiting number) h = absurd h
    by_phase (phase.OpeningFile o) h = absurd h
    by_phase (phase.Ending x) h = absurd h
    by_phase (phase.Ended x) h = absurd h
was_preparing i b (event.Slot slot q slot_reply.Gone) k = inr (by_phase b.phase k)
  where
    by_phase : (p : Phase) → IsPreparing (has_snapped b p slot None).phase → IsPreparing p
    by_phase (phase.MakingGate pre) h = absurd (made_is (λ x. IsPreparing x.phase → ⊥) b (draft_at b.drafts (a0 b)) (copied_on b pre slot None) (λ x k. k) (λ g k. k) h)
    by_phase phase.Running h = absurd h
    by_phase (phase.Within w) h = absurd h
    by_phase (phase.Starting pre) h = tt
    by_phase (phase.Opening s tag) h = absurd h
    by_phase (phase.Releasing s) h = absurd h
    by_phase (phase.Entering entrance) h = absurd h
    by_phase (phase.Waiting number) h = absurd h
    by_phase (phase.OpeningFile o) h = absurd h
    by_phase (phase.Ending x) h = absurd h
    by_phase (phase.Ended x) h = absurd h
was_preparing i b (event.Slot slot q slot_reply.Closed) k = absurd k
was_preparing i b (event.Slots directory_ask.Claim (directory_reply.Claimed place number)) k = absurd k
was_preparing i b (event.Slots directory_ask.Claim directory_reply.Full) k = absurd k
was_preparing i b (event.Slots directory_ask.Claim directory_reply.Released) k = absurd k
was_preparing i b (event.Slots (directory_ask.Release place) r) k = absurd k
was_preparing i b (event.Fds directory_ask.Claim (directory_reply.Claimed fd number)) k = absurd (numbered_is (λ x. IsPreparing x.phase → ⊥) b b.phase fd (λ y. y) (λ o y. y) k)
was_preparing i b (event.Fds directory_ask.Claim directory_reply.Full) k = absurd k
was_preparing i b (event.Fds directory_ask.Claim directory_reply.Released) k = absurd k
was_preparing i b (event.Fds (directory_ask.Release place) r) k = absurd k
was_preparing i b (event.Slot slot q r) k = no_preparing (takes i b (event.Slot slot q r)).phase (takes_between i b (event.Slot slot q r)) k
was_preparing i b (event.Enter run) k = absurd (entered_is (λ x. IsPreparing x.phase → ⊥) b b.phase (λ y. y) (λ x y. y) k)
was_preparing i b (event.Gate id (gate_ask.Enter run first) (gate_reply.Entered memory)) k = absurd (entered_is (λ x. IsPreparing x.phase → ⊥) b b.phase (λ y. y) (λ x y. y) k)
was_preparing i b e k = no_preparing (takes i b e).phase (takes_between i b e) k

unprepared : (i : Image) (b : ActorState) (e : Event) → (IsPreparing b.phase → ⊥) → (e ≡ event.Lives lives_ask.Claim lives_reply.Claimed → ⊥) → NotPreparing (takes i b e).phase
unprepared i b e before other = not_preparing (takes i b e).phase (λ k. ⊎_elim other before (was_preparing i b e k))

-- the grants of copies of a sheet, in the two words for them
copy_in : (e : ℕ × Grant) (r : Right) (es : List CopyGrant) → (if is_copy r then record { tag = e.0; slot = e.1.slot } ∷ es else es) ≡ cons_option (copy_asked e.0 e.1.slot r) es
copy_in e right.Cow es = refl
copy_in e right.Read es = refl
copy_in e right.ReadWrite es = refl

pub copies_are : (gs : Map Grant) → copy_grants gs ≡ copies_in gs
copies_are [] = refl
copies_are (e ∷ es) = copy_in e e.1.right (copy_grants es) ∙ ap (cons_option (copy_asked e.0 e.1.slot e.1.right)) (copies_are es)

-- the claim of a life
claim_prepares : (w : WorldState) (b : ActorState) (t : Bool)
    → PreparesBy (with_actor w b) b (phase.Within (want.Lives lives_ask.Claim)) (event.Lives lives_ask.Claim (if t then lives_reply.Claimed else lives_reply.Full)) (takes w.image b (event.Lives lives_ask.Claim (if t then lives_reply.Claimed else lives_reply.Full)))
unfolding takes
claim_prepares w b true =
    subst (λ gs. Prepares b (pristine w.image) gs (takes w.image b (event.Lives lives_ask.Claim lives_reply.Claimed))) (copies_are (sheet_of_draft b.sheet b.made (draft_at b.drafts (a0 b))).tags)
    (record { preparation = prepare_copies b.sheet b.made b.memory.copies (pristine w.image) (copies_asked b); prepared = prepared_so b (pristine w.image) (copies_asked b); after = refl })
claim_prepares w b false = tt

want_prepares : (w : WorldState) (b : ActorState) (N : ℕ → Type 0) (q : Want) → IsRequest N b q → b.phase ≡ phase.Within q
    → PreparesBy (with_actor w b) b (phase.Within q) (event_for w.cells b q) (takes w.image b (event_for w.cells b q))
want_prepares w b N (want.Slots directory_ask.Claim) own at = unprepared w.image b _ (λ k. subst IsPreparing at k) (λ is. absurd cc)
want_prepares w b N (want.Slot slot (slot_want.Close tag)) own at = unprepared w.image b _ (λ k. subst IsPreparing at k) (λ is. absurd cc)
want_prepares w b N (want.Slot slot (slot_want.Smalloc tag size)) own at = unprepared w.image b _ (λ k. subst IsPreparing at k) (λ is. absurd cc)
want_prepares w b N (want.Slot slot (slot_want.Sfree offset)) own at = unprepared w.image b _ (λ k. subst IsPreparing at k) (λ is. absurd cc)
want_prepares w b N (want.Slot slot (slot_want.Load offset width)) own at = unprepared w.image b _ (λ k. subst IsPreparing at k) (λ is. absurd cc)
want_prepares w b N (want.Slot slot (slot_want.Store offset width value)) own at = unprepared w.image b _ (λ k. subst IsPreparing at k) (λ is. absurd cc)
want_prepares w b N (want.Fd fd q) own at = unprepared w.image b _ (λ k. subst IsPreparing at k) (λ is. absurd cc)
want_prepares w b N (want.Lives lives_ask.Claim) own at = claim_prepares w b (nat_lt w.cells.lives 256)
want_prepares w b N q own at = absurd own

-- the copy of a tag
goes_on_copying : (b : ActorState) (p : Preparation) (slot : ℕ) (gs : List CopyGrant) (o : Option (List ℕ)) → b.phase ≡ phase.Starting p → behind_first p.left ≡ gs
    → Prepares b (copied_from o slot p.memory) gs (has_snapped b b.phase slot o)
goes_on_copying b p slot gs o at behind =
    subst (λ ph. Prepares b (copied_from o slot p.memory) gs (has_snapped b ph slot o)) (sym at)
    (subst (λ l. Prepares b (copied_from o slot p.memory) l (has_snapped b (phase.Starting p) slot o)) behind
    (record { preparation = prepare_copies b.sheet b.made b.memory.copies (copied_from o slot p.memory) (behind_first p.left); prepared = prepared_so b (copied_from o slot p.memory) (behind_first p.left); after = refl }))

snap_prepares : (i : Image) (b : ActorState) (p : Preparation) (slot tag : ℕ) (gs : List CopyGrant) (g : Option Segment) → b.phase ≡ phase.Starting p → behind_first p.left ≡ gs
    → (slot_reply_of g (slot_ask.Snap tag) ≡ snap_reply (pages_living g tag))
    × Prepares b (copied_from (option_map bytes_listed (pages_living g tag)) slot p.memory) gs (takes i b (event.Slot slot (slot_ask.Snap tag) (slot_reply_of g (slot_ask.Snap tag))))
unfolding takes
snap_prepares i b p slot tag gs None at behind = (refl, goes_on_copying b p slot gs None at behind)
snap_prepares i b p slot tag gs (Some g) at behind = by_tag (g.tag == tag)
  where
    by_tag : (t : Bool)
        → ((if t then slot_reply.Snapped (pages_of g.bytes) else slot_reply.Gone) ≡ snap_reply (if t then Some (pages_of g.bytes) else None))
        × Prepares b (copied_from (option_map bytes_listed (if t then Some (pages_of g.bytes) else None)) slot p.memory) gs
        (takes i b (event.Slot slot (slot_ask.Snap tag) (if t then slot_reply.Snapped (pages_of g.bytes) else slot_reply.Gone)))
    by_tag true = (refl, goes_on_copying b p slot gs (Some (bytes_listed (pages_of g.bytes))) at behind)
    by_tag false = (refl, goes_on_copying b p slot gs None at behind)

snaps_next : (w : WorldState) (b : ActorState) (e : Event) (s : AtSnap w b e) → SnapsNext (with_actor w b) b s.preparation s.preparation.left e (takes w.image b e)
snaps_next w b e s =
    let so = snap_prepares w.image b s.preparation s.grant.slot s.grant.tag s.others (slot_in w.cells s.grant.slot) s.at (ap behind_first s.left) in
    subst (λ l. SnapsNext (with_actor w b) b s.preparation l e (takes w.image b e)) (sym s.left) (
      s.is ∙ ap (event.Slot s.grant.slot (slot_ask.Snap s.grant.tag)) so.0,
      subst (λ y. Prepares b (copied_from (option_map bytes_listed (pages_living (slot_in w.cells s.grant.slot) s.grant.tag)) s.grant.slot s.preparation.memory) s.others (takes w.image b y)) (sym s.is) so.1,
    )

start_prepares : (i : Image) (b : ActorState) (child : List ℕ) → NotPreparing (takes i b (event.Start child)).phase
start_prepares i b child = unfold takes in tt

pub event_prepares : (w : WorldState) (b : ActorState) (e : Event) → Happens w b e → PreparesBy (with_actor w b) b b.phase e (takes w.image b e)
event_prepares w b e (Requested r) =
    subst (λ ph. PreparesBy (with_actor w b) b ph e (takes w.image b e)) (sym r.at)
    (subst (λ y. PreparesBy (with_actor w b) b (phase.Within r.want) y (takes w.image b y)) (sym r.is) (want_prepares w b _ r.want r.own r.at))
event_prepares w b e (Joined j) =
    subst (λ ph. PreparesBy (with_actor w b) b ph e (takes w.image b e)) (sym j.at)
    (subst (λ y. PreparesBy (with_actor w b) b (phase.Within (want.Join j.number)) y (takes w.image b y)) (sym j.join.is) (unprepared w.image b _ (λ k. subst IsPreparing j.at k) (λ is. absurd cc)))
event_prepares w b e (Snaps s) = subst (λ ph. PreparesBy (with_actor w b) b ph e (takes w.image b e)) (sym s.at) (snaps_next w b e s)
event_prepares w b e (GateSnaps s) =
    subst (λ ph. PreparesBy (with_actor w b) b ph e (takes w.image b e)) (sym s.at)
    (subst (λ y. PreparesBy (with_actor w b) b (phase.MakingGate s.preparation) y (takes w.image b y)) (sym s.is) (unprepared w.image b _ (λ k. subst IsPreparing s.at k) (λ is. absurd cc)))
event_prepares w b e (Started s) =
    subst (λ ph. PreparesBy (with_actor w b) b ph e (takes w.image b e)) (sym s.at)
    (subst (λ l. SnapsNext (with_actor w b) b s.preparation l e (takes w.image b e)) (sym s.complete) (subst (λ y. NotPreparing (takes w.image b y).phase) (sym s.is) (start_prepares w.image b _)))
event_prepares w b e (Opens o) =
    subst (λ ph. PreparesBy (with_actor w b) b ph e (takes w.image b e)) (sym o.at)
    (subst (λ y. PreparesBy (with_actor w b) b (phase.Opening o.slot o.tag) y (takes w.image b y)) (sym o.is) (unprepared w.image b _ (λ k. subst IsPreparing o.at k) (λ is. absurd cc)))
event_prepares w b e (Releases r) =
    subst (λ ph. PreparesBy (with_actor w b) b ph e (takes w.image b e)) (sym r.at)
    (subst (λ y. PreparesBy (with_actor w b) b (phase.Releasing r.slot) y (takes w.image b y)) (sym r.is) (unprepared w.image b _ (λ k. subst IsPreparing r.at k) (λ is. absurd cc)))
event_prepares w b e (Numbers n) =
    subst (λ ph. PreparesBy (with_actor w b) b ph e (takes w.image b e)) (sym n.at)
    (subst (λ y. PreparesBy (with_actor w b) b (phase.OpeningFile n.opening) y (takes w.image b y)) (sym n.is) (unprepared w.image b _ (λ k. subst IsPreparing n.at k) (λ is. absurd cc)))
event_prepares w b e (OpensFile f) =
    subst (λ ph. PreparesBy (with_actor w b) b ph e (takes w.image b e)) (sym f.at)
    (subst (λ y. PreparesBy (with_actor w b) b (phase.OpeningFile f.opening) y (takes w.image b y)) (sym f.is) (unprepared w.image b _ (λ k. subst IsPreparing f.at k) (λ is. absurd cc)))
event_prepares w b e (LastJoined j) =
    subst (λ ph. PreparesBy (with_actor w b) b ph e (takes w.image b e)) (sym j.at)
    (subst (λ y. PreparesBy (with_actor w b) b (phase.Ending j.end_) y (takes w.image b y)) (sym j.join.is) (unprepared w.image b _ (λ k. subst IsPreparing j.at k) (λ is. absurd cc)))
event_prepares w b e (EntersGate x) =
    subst (λ ph. PreparesBy (with_actor w b) b ph e (takes w.image b e)) (sym x.at)
    (subst (λ y. PreparesBy (with_actor w b) b (phase.Entering x.entrance) y (takes w.image b y)) (sym x.is) (unprepared w.image b _ (λ k. subst IsPreparing x.at k) (λ is. absurd cc)))
event_prepares w b e (EntersRecycled x) =
    subst (λ ph. PreparesBy (with_actor w b) b ph e (takes w.image b e)) (sym x.at)
    (subst (λ y. PreparesBy (with_actor w b) b (phase.Entering x.entrance) y (takes w.image b y)) (sym x.is) (unprepared w.image b _ (λ k. subst IsPreparing x.at k) (λ is. absurd cc)))
event_prepares w b e (LeavesGate l) =
    subst (λ ph. PreparesBy (with_actor w b) b ph e (takes w.image b e)) (sym l.at)
    (subst (λ y. PreparesBy (with_actor w b) b (phase.Ending l.end_) y (takes w.image b y)) (sym l.is) (unprepared w.image b _ (λ k. subst IsPreparing l.at k) (λ is. absurd cc)))
event_prepares w b e (LeavesRecycled l) =
    subst (λ ph. PreparesBy (with_actor w b) b ph e (takes w.image b e)) (sym l.at)
    (subst (λ y. PreparesBy (with_actor w b) b (phase.Ending l.end_) y (takes w.image b y)) (sym l.is) (unprepared w.image b _ (λ k. subst IsPreparing l.at k) (λ is. absurd cc)))
event_prepares w b e (Ended f) =
    subst (λ ph. PreparesBy (with_actor w b) b ph e (takes w.image b e)) (sym f.at)
    (subst (λ y. PreparesBy (with_actor w b) b (phase.Ending f.end_) y (takes w.image b y)) (sym f.is) (unprepared w.image b _ (λ k. subst IsPreparing f.at k) (λ is. absurd cc)))
