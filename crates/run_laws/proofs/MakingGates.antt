-- Gates that are being made: who makes one after an event made it before, and may give it its sheet.
use Rattle.std.proofs.Common.{◌≡◌, ℕ, suc, ◌≤◌, ◌<◌, Bool, true, false, List, [], ◌∷◌, ◌++◌, length, refl, sym, ap, subst, ◌∙◌, arith}
use Rattle.std.specs.Prelude.{Option, Some, None, option_map, slice_get, if◌then◌else◌}
use Rattle.wedge_events.specs.declared.cells.GateReply.TheVariants as gate_reply
use Rattle.wedge_events.specs.declared.cells.GateAsk.TheVariants as gate_ask
use Rattle.cow_pages.specs.Copies.{Copies, copy_at}
use Rattle.cow_pages.specs.Listed.{bytes_listed}
use Rattle.cow_pages.specs.PrivateMemory.{PrivateMemory}
use Rattle.wedge_base.specs.Images.{Image}
use Rattle.wedge_base.specs.Pages.{PageAt}
use Rattle.wedge_base.specs.Sheets.{Sheet, Made, Draft, right_on, first_excess}
use Rattle.wedge_events.specs.declared.events.Event.{Event}
use Rattle.wedge_events.specs.declared.events.Event.TheVariants as event
use Rattle.wedge_events.specs.declared.cells.DirectoryAsk.TheVariants as directory_ask
use Rattle.wedge_events.specs.declared.cells.DirectoryReply.TheVariants as directory_reply
use Rattle.wedge_events.specs.declared.cells.LivesAsk.TheVariants as lives_ask
use Rattle.wedge_events.specs.declared.cells.LivesReply.TheVariants as lives_reply
use Rattle.wedge_events.specs.declared.cells.SlotAsk.{SlotAsk}
use Rattle.wedge_events.specs.declared.cells.SlotReply.TheVariants as slot_reply
use Rattle.machine.specs.declared.copy_grant.CopyGrant.{CopyGrant}
use Rattle.machine.specs.declared.phase.Phase.{Phase}
use Rattle.machine.specs.declared.phase.Phase.TheVariants as phase
use Rattle.machine.specs.Actors.{ActorState}
use Rattle.machine.specs.Between.{IsBetween}
use Rattle.machine.specs.Calls.{a0, draft_at, makes_or_waits}
use Rattle.run_laws.specs.ChildCopies.{snap_reply}
use Rattle.machine.specs.CopyGrant.{is_copy_alone}
use Rattle.machine.specs.Preparation.{Preparation, copied_from, prepare_copies, behind_first}
use Rattle.machine.specs.Take.{copies_asked, copied_on, has_snapped, takes}
use Rattle.run_laws.proofs.Between.{IsPreparing, IsMaking, MayNumber, Leaves, takes_between, waiting_is}

pub longer : {X : Type 0} (xs : List X) (x : X) → xs ++ x ∷ [] ≡ xs → ⊥
longer [] x e = absurd cc
longer (y ∷ ys) x e = longer ys x cc

-- the copies that are left once those of the maker's own are made
pub prepared_left : (s : Sheet) (made : Made) (own : Copies) (m : PrivateMemory) (gs : List CopyGrant) → length (prepare_copies s made own m gs).left ≤ length gs
prepared_left s made own m [] = omega arith
prepared_left s made own m (g ∷ gs) = by_right (is_copy_alone (right_on s made g.tag)) (prepared_left s made own (copied_from (copy_at own g.slot) g.slot m) gs)
  where
    by_right : (t : Bool) → length (prepare_copies s made own (copied_from (copy_at own g.slot) g.slot m) gs).left ≤ length gs
        → length (if t then prepare_copies s made own (copied_from (copy_at own g.slot) g.slot m) gs else record { memory = m; left = g ∷ gs }).left ≤ suc (length gs)
    by_right true fewer = omega (arith, fewer)
    by_right false fewer = omega arith

behind_fewer : (gs : List CopyGrant) → length (behind_first gs) ≤ length gs
behind_fewer [] = omega arith
behind_fewer (g ∷ gs) = omega arith

pub copied_fewer : (b : ActorState) (p : Preparation) (slot : ℕ) (bytes : Option (List ℕ)) → length (copied_on b p slot bytes).left ≤ length p.left
copied_fewer b p slot bytes =
    let fewer = prepared_left b.sheet b.made b.memory.copies (copied_from bytes slot p.memory) (behind_first p.left) in
    let behind = behind_fewer p.left in
    omega (arith, fewer, behind)

-- an actor that is about to make a gate: the draft is there, has no user and no root directory, and every grant of it may be given
pub record MayGrant (a : ActorState) : Type 0 where
  pub draft : Draft
  pub drafted : slice_get a.drafts (a0 a) ≡ Some draft
  pub allowed : first_excess a.sheet a.made draft ≡ None
  pub user : draft.user ≡ None
  pub root : draft.root ≡ None

-- and what is left to be copied for it is no more than the draft asks for
pub record IsMakeable (a : ActorState) (p : Preparation) : Type 0 where
  pub may : MayGrant a
  pub few : length p.left ≤ length (copies_asked a)
  pub some : 0 < length p.left

pub granting_at : (a : ActorState) (ph : Phase) (p : Preparation) → IsMakeable a p → IsMakeable (record a { phase = ph }) p
granting_at a ph p g = record {
  may = record { draft = g.may.draft; drafted = g.may.drafted; allowed = g.may.allowed; user = g.may.user; root = g.may.root };
  few = g.few;
  some = g.some;
}

-- ---- events

-- who is between instructions makes none
no_making : {X : Type 0} (p : Phase) → IsBetween p → IsMaking p → X
no_making phase.Running h k = absurd k
no_making (phase.Within q) h k = absurd h
no_making (phase.Starting pre) h k = absurd h
no_making (phase.MakingGate pre) h k = absurd h
no_making (phase.Opening slot tag) h k = absurd h
no_making (phase.Releasing slot) h k = absurd h
no_making (phase.Entering entrance) h k = absurd h
no_making (phase.Waiting number) h k = absurd h
no_making (phase.OpeningFile o) h k = absurd h
no_making (phase.Ending e) h k = absurd k
no_making (phase.Ended e) h k = absurd k

not_both : {X : Type 0} (p : Phase) → IsPreparing p → IsMaking p → X
not_both phase.Running h k = absurd h
not_both (phase.Within q) h k = absurd h
not_both (phase.Starting pre) h k = absurd k
not_both (phase.MakingGate pre) h k = absurd h
not_both (phase.Opening slot tag) h k = absurd h
not_both (phase.Releasing slot) h k = absurd h
not_both (phase.Entering entrance) h k = absurd h
not_both (phase.Waiting number) h k = absurd h
not_both (phase.OpeningFile o) h k = absurd h
not_both (phase.Ending e) h k = absurd h
not_both (phase.Ended e) h k = absurd h

nor_numbered : {X : Type 0} (fd : ℕ) (p : Phase) → MayNumber fd p → IsMaking p → X
nor_numbered fd phase.Running h k = absurd k
nor_numbered fd (phase.Within q) h k = absurd h
nor_numbered fd (phase.Starting pre) h k = absurd h
nor_numbered fd (phase.MakingGate pre) h k = absurd h
nor_numbered fd (phase.Opening slot tag) h k = absurd h
nor_numbered fd (phase.Releasing slot) h k = absurd h
nor_numbered fd (phase.Entering entrance) h k = absurd h
nor_numbered fd (phase.Waiting number) h k = absurd h
nor_numbered fd (phase.OpeningFile o) h k = absurd k
nor_numbered fd (phase.Ending e) h k = absurd h
nor_numbered fd (phase.Ended e) h k = absurd h

-- the copy of a tag
pub record IsSnap (e : Event) : Type 0 where
  pub slot : ℕ
  pub ask : SlotAsk
  pub pages : Option (List PageAt)
  pub is : e ≡ event.Slot slot ask (snap_reply pages)

-- after any other event no gate is being made
leaves_making : (e : Event) (p : Phase) → Leaves e p → IsMaking p → IsSnap e
leaves_making (event.Lives lives_ask.Claim lives_reply.Claimed) p h k = not_both p h k
leaves_making (event.Lives lives_ask.Claim lives_reply.Full) p h k = no_making p h k
leaves_making (event.Lives lives_ask.Claim lives_reply.Released) p h k = no_making p h k
leaves_making (event.Lives (lives_ask.Release x) r) p h k = no_making p h k
leaves_making (event.Slots directory_ask.Claim (directory_reply.Claimed slot tag)) p h k = absurd (subst IsMaking h k)
leaves_making (event.Slots directory_ask.Claim directory_reply.Full) p h k = no_making p h k
leaves_making (event.Slots directory_ask.Claim directory_reply.Released) p h k = no_making p h k
leaves_making (event.Slots (directory_ask.Release slot) r) p h k = no_making p h k
leaves_making (event.Fds directory_ask.Claim (directory_reply.Claimed fd number)) p h k = nor_numbered fd p h k
leaves_making (event.Fds directory_ask.Claim directory_reply.Full) p h k = no_making p h k
leaves_making (event.Fds directory_ask.Claim directory_reply.Released) p h k = no_making p h k
leaves_making (event.Fds (directory_ask.Release place) r) p h k = no_making p h k
leaves_making (event.Slot slot q slot_reply.Closed) p h k = absurd (subst IsMaking h k)
leaves_making (event.Slot slot q (slot_reply.Snapped pages)) p h k = record { slot = slot; ask = q; pages = Some pages; is = refl }
leaves_making (event.Slot slot q slot_reply.Gone) p h k = record { slot = slot; ask = q; pages = None; is = refl }
leaves_making (event.Slot slot q r) p h k = no_making p h k
leaves_making (event.Enter run) p h k = absurd (waiting_is (λ q. IsMaking q → ⊥) p h (λ x. x) (λ n x. x) k)
leaves_making (event.Gate id (gate_ask.Enter run first) (gate_reply.Entered memory)) p h k = absurd (waiting_is (λ q. IsMaking q → ⊥) p h (λ x. x) (λ n x. x) k)
leaves_making e p h k = no_making p h k

snapped_as : (i : Image) (b : ActorState) (slot : ℕ) (q : SlotAsk) (o : Option (List PageAt)) → takes i b (event.Slot slot q (snap_reply o)) ≡ has_snapped b b.phase slot (option_map bytes_listed o)
unfolding takes
snapped_as i b slot q None = refl
snapped_as i b slot q (Some pages) = refl

snap_was_making : (b : ActorState) (p : Phase) (slot : ℕ) (bytes : Option (List ℕ)) → IsMaking (has_snapped b p slot bytes).phase → IsMaking p
snap_was_making b phase.Running slot bytes k = absurd k
snap_was_making b (phase.Within q) slot bytes k = absurd k
snap_was_making b (phase.Starting pre) slot bytes k = absurd k
snap_was_making b (phase.MakingGate pre) slot bytes k = tt
snap_was_making b (phase.Opening s tag) slot bytes k = absurd k
snap_was_making b (phase.Releasing s) slot bytes k = absurd k
snap_was_making b (phase.Entering entrance) slot bytes k = absurd k
snap_was_making b (phase.Waiting number) slot bytes k = absurd k
snap_was_making b (phase.OpeningFile o) slot bytes k = absurd k
snap_was_making b (phase.Ending e) slot bytes k = absurd k
snap_was_making b (phase.Ended e) slot bytes k = absurd k

-- who makes a gate after an event made it before
pub was_making : (i : Image) (b : ActorState) (e : Event) → IsMaking (takes i b e).phase → IsMaking b.phase
was_making i b e k =
    let s = leaves_making e (takes i b e).phase (takes_between i b e) k in
    let same = ap (takes i b) s.is ∙ snapped_as i b s.slot s.ask s.pages in
    snap_was_making b b.phase s.slot (option_map bytes_listed s.pages) (subst (λ (x : ActorState). IsMaking x.phase) same k)

-- and may still give it its sheet
copied_granting : (b : ActorState) (d : Draft) (p q : Preparation) (gs : List CopyGrant) → p.left ≡ gs → MayGrant b → length p.left ≤ length (copies_asked b) → (makes_or_waits b d p gs).phase ≡ phase.MakingGate q
    → IsMakeable (makes_or_waits b d p gs) q
copied_granting b d p q [] left may few is = absurd (subst IsMaking (sym is) tt)
copied_granting b d p q (g ∷ gs) left may few is =
    let same : p ≡ q = cc in
    let more : length p.left ≡ suc (length gs) = ap length left in
    let granting : IsMakeable b p = record { may = may; few = few; some = omega (arith, more) } in
    subst (IsMakeable (record b { phase = phase.MakingGate p })) same (granting_at b (phase.MakingGate p) p granting)

snap_granting : (b : ActorState) (p : Phase) (slot : ℕ) (bytes : Option (List ℕ)) → ((x : Preparation) → p ≡ phase.MakingGate x → IsMakeable b x) → (q : Preparation) → (has_snapped b p slot bytes).phase ≡ phase.MakingGate q → IsMakeable (has_snapped b p slot bytes) q
snap_granting b (phase.MakingGate x) slot bytes granting q is =
    let g = granting x refl in
    let fewer = copied_fewer b x slot bytes in
    let most = g.few in
    copied_granting b (draft_at b.drafts (a0 b)) (copied_on b x slot bytes) q (copied_on b x slot bytes).left refl g.may (omega (arith, fewer, most)) is
snap_granting b phase.Running slot bytes granting q is = absurd (subst IsMaking (sym is) tt)
snap_granting b (phase.Within w) slot bytes granting q is = absurd (subst IsMaking (sym is) tt)
snap_granting b (phase.Starting x) slot bytes granting q is = absurd (subst IsMaking (sym is) tt)
snap_granting b (phase.Opening s tag) slot bytes granting q is = absurd (subst IsMaking (sym is) tt)
snap_granting b (phase.Releasing s) slot bytes granting q is = absurd (subst IsMaking (sym is) tt)
snap_granting b (phase.Entering entrance) slot bytes granting q is = absurd (subst IsMaking (sym is) tt)
snap_granting b (phase.Waiting number) slot bytes granting q is = absurd (subst IsMaking (sym is) tt)
snap_granting b (phase.OpeningFile o) slot bytes granting q is = absurd (subst IsMaking (sym is) tt)
snap_granting b (phase.Ending e) slot bytes granting q is = absurd (subst IsMaking (sym is) tt)
snap_granting b (phase.Ended e) slot bytes granting q is = absurd (subst IsMaking (sym is) tt)

pub takes_granting : (i : Image) (b : ActorState) (e : Event) → ((x : Preparation) → b.phase ≡ phase.MakingGate x → IsMakeable b x) → (q : Preparation) → (takes i b e).phase ≡ phase.MakingGate q → IsMakeable (takes i b e) q
takes_granting i b e granting q is =
    let s = leaves_making e (takes i b e).phase (takes_between i b e) (subst IsMaking (sym is) tt) in
    let same = ap (takes i b) s.is ∙ snapped_as i b s.slot s.ask s.pages in
    subst (λ (y : ActorState). IsMakeable y q) (sym same)
    (snap_granting b b.phase s.slot (option_map bytes_listed s.pages) granting q (ap (λ (y : ActorState). y.phase) (sym same) ∙ is))
