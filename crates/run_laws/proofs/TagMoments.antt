-- The moments of calls on tags: what the directory and the slot answer, and what their actor then is.
use Rattle.std.proofs.Common.{◌≡◌, ℕ, ◌+◌, Bool, true, false, true≢false, List, [], ◌∷◌, length, refl, sym, ap, subst, ◌∙◌}
use Rattle.std.proofs.lemmas.Bool.{eqb-true, eq-eqb}
use Rattle.std.specs.Prelude.{Option, Some, None, is_some, is_none, option_map, not, ◌&&◌, ◌==◌, nat_lt, if◌then◌else◌}
use Rattle.cow_pages.specs.Copies.{without_copy}
use Rattle.wedge_base.specs.Blocks.{Block, rounded, first_fit, block_at}
use Rattle.wedge_events.specs.Directories.{Directory, Claim, no_number, claim_from, claim, claim_reply, claim_next as left_by}
use Rattle.wedge_base.specs.Images.{Image, address_of}
use Rattle.wedge_base.specs.Maps.{at}
use Rattle.wedge_base.specs.Sheets.{made_tag, slot_on}
use Rattle.wedge_events.specs.Slots.{Segment, place_reply, slot_reply as slot_reply_of}
use Rattle.wedge_base.specs.declared.rights.Denial.TheVariants as denial
use Rattle.wedge_base.specs.declared.rights.Code.TheVariants as code
use Rattle.wedge_base.specs.declared.rights.Right.TheVariants as right
use Rattle.wedge_events.specs.declared.events.SlotWant.TheVariants as slot_want
use Rattle.wedge_events.specs.declared.events.Want.{Want}
use Rattle.wedge_events.specs.declared.events.Want.TheVariants as want
use Rattle.wedge_events.specs.declared.events.Event.TheVariants as event
use Rattle.wedge_events.specs.declared.cells.DirectoryAsk.TheVariants as directory_ask
use Rattle.wedge_events.specs.declared.cells.DirectoryReply.TheVariants as directory_reply
use Rattle.wedge_events.specs.declared.cells.Live.{Live}
use Rattle.wedge_events.specs.declared.cells.LivesAsk.TheVariants as lives_ask
use Rattle.wedge_events.specs.declared.cells.SlotAsk.TheVariants as slot_ask
use Rattle.wedge_events.specs.declared.cells.StreamAsk.TheVariants as stream_ask
use Rattle.wedge_events.specs.declared.cells.SlotReply.{SlotReply}
use Rattle.wedge_events.specs.declared.cells.SlotReply.TheVariants as slot_reply
use Rattle.machine.specs.declared.phase.Phase.TheVariants as phase
use Rattle.machine.specs.Actors.{ActorState, right_of, answers, refuses}
use Rattle.run_laws.specs.Allowed.{may_use, answered_hart}
use Rattle.machine.specs.Calls.{a0}
use Rattle.machine.specs.Cells.{slot_in, tag_in}
use Rattle.run_laws.specs.Families.{answered_twice}
use Rattle.run_laws.specs.Moments.{NothingDenied, is_use, gap_in, IsPlaced, IsClosed, IsChecked, IsAnswered}
use Rattle.run_laws.specs.Refusals.{full, no_such, bad, is_left, slots_refusal, close_refusal, gap_refusal, place_refusal, block_refusal, slot_refuses, is_refusal, refused}
use Rattle.run_laws.specs.Requests.{Deletes, Allots, Frees}
use Rattle.run_laws.specs.TagCalls.{MakesAt}
use Rattle.machine.specs.Take.{pair, takes}
use Rattle.machine.specs.Worlds.{WorldState, actor_named, put_actor, with_actor}
use Rattle.machine.proofs.ByNumber.{found_gone, found_elsewhere}
use Rattle.run_laws.proofs.TagSlots.{at_slot}
use Rattle.run_laws.proofs.Between.{event_for}
use Rattle.run_laws.proofs.Bounding.{with_same}
use Rattle.run_laws.proofs.Checking.{slot_cells, kept, put_there, checked_denied, checked_allowed, after, stayed, same_slots, pair_on, slot_world}
use Rattle.run_laws.proofs.Going.{IsNext}
use Rattle.run_laws.proofs.Meeting.{IsRequest}
use Rattle.run_laws.proofs.Named.{put_put}

-- ---- the claim of a slot, and what follows it

-- the world after a claim that came to this
abbrev claim_world : WorldState → ActorState → Directory → Option Claim → WorldState
claim_world w b d o = record w { cells = record w.cells { places = left_by d o }; actors = put_actor w.actors (takes w.image b (event.Slots directory_ask.Claim (claim_reply d o))) }

pub claim_unused : (w : WorldState) (b : ActorState) (o : Option Claim) (d : Directory) → NothingDenied (with_actor w b) (claim_world w b d o) × (is_use (event.Slots directory_ask.Claim (claim_reply d o)) ≡ false)
unfolding takes
claim_unused w b None d = (kept w (record w.cells { places = d }) b (refuses b code.Full) refl refl, refl)
claim_unused w b (Some c) d = (kept w (record w.cells { places = c.left }) b (record b { phase = phase.Opening c.place d.number }) refl refl, refl)

pub claim_slot_next : (i : Image) (b : ActorState) (o : Option Claim) (d : Directory) → IsNext b.hart (takes i b (event.Slots directory_ask.Claim (claim_reply d o)))
unfolding takes
claim_slot_next i b None d = (λ e. refl, λ e. absurd cc)
claim_slot_next i b (Some c) d = (λ e. absurd cc, λ e. refl)

-- the claim of the least place never used
abbrev first_unused : Directory → Claim
first_unused d = record { place = d.unused; left = record d { number = d.number + 1; unused = d.unused + 1 } }

-- it is refused exactly where no number is left, or no slot
pub slots_told : (d : Directory) → slots_refusal d ≡ (if is_some (claim d) then None else Some full)
slots_told d = by_number (nat_lt d.number no_number) (by_released d.released)
  where
    by_room : (t : Bool) → (if t then None else Some full) ≡ (if is_some (if t then Some (first_unused d) else None) then None else Some full)
    by_room true = refl
    by_room false = refl

    by_released : (ps : List ℕ) → (if is_left d ps then None else Some full) ≡ (if is_some (claim_from d ps) then None else Some full)
    by_released [] = by_room (nat_lt d.unused d.places)
    by_released (p ∷ ps) = refl

    by_number : (t : Bool) → (if is_left d d.released then None else Some full) ≡ (if is_some (claim_from d d.released) then None else Some full)
        → (if t && is_left d d.released then None else Some full) ≡ (if is_some (if t then claim_from d d.released else None) then None else Some full)
    by_number true h = h
    by_number false h = refl

pub claim_slot_refused : (w : WorldState) (b : ActorState) (n : ℕ) (o : Option Claim) → (if is_some o then None else Some full) ≡ Some n → claim_world w b w.cells.places o ≡ with_actor (with_actor w b) (refused b n)
unfolding takes
claim_slot_refused w b n (Some c) told = absurd cc
claim_slot_refused w b n None told =
    let same : full ≡ n = cc in
    subst (λ m. claim_world w b w.cells.places None ≡ with_actor (with_actor w b) (refused b m)) same (stayed w b (refuses b code.Full) w.cells refl refl)

pub claim_slot_passed : (o : Option Claim) (d : Directory) → (if is_some o then None else Some full) ≡ None → is_refusal (event.Slots directory_ask.Claim (claim_reply d o)) ≡ false
claim_slot_passed (Some c) d told = refl
claim_slot_passed None d told = absurd cc

-- the opening of a tag, and the release of a slot
pub opened_denials : (i : Image) (b : ActorState) (slot tag pages : ℕ) → (takes i b (event.Slot slot (slot_ask.Open tag pages) slot_reply.Opened)).denials ≡ b.denials
opened_denials i b slot tag pages = unfold takes in refl

pub released_denials : (i : Image) (b : ActorState) (slot : ℕ) → (takes i b (event.Slots (directory_ask.Release slot) directory_reply.Released)).denials ≡ b.denials
released_denials i b slot = unfold takes in refl

pub opened_next : (i : Image) (b : ActorState) (slot tag pages : ℕ) → IsNext b.hart (takes i b (event.Slot slot (slot_ask.Open tag pages) slot_reply.Opened))
opened_next i b slot tag pages = unfold takes in (λ e. refl, λ e. absurd cc)

pub released_next : (i : Image) (b : ActorState) (slot : ℕ) → IsNext b.hart (takes i b (event.Slots (directory_ask.Release slot) directory_reply.Released))
released_next i b slot = unfold takes in (λ e. refl, λ e. absurd cc)

-- ---- a close

lives_so : (w : WorldState) (slot tag : ℕ) (g : Option Segment) → slot_in w.cells slot ≡ g → tag_in w.cells slot ≡ Some tag → option_map (λ x. x.tag) g ≡ Some tag
lives_so w slot tag g there live = ap (option_map (λ x. x.tag)) (sym there) ∙ live

close_held : (w : WorldState) (b a : ActorState) (slot tag : ℕ) (g : Option Segment) → actor_named w.actors b.name ≡ Some a → slot_in w.cells slot ≡ g
    → IsClosed (with_actor w b) b slot tag (event.Slot slot (slot_ask.Close tag) (slot_reply_of g (slot_ask.Close tag))) (slot_world w b slot g (slot_ask.Close tag) (slot_reply_of g (slot_ask.Close tag)))
unfolding takes
close_held w b a slot tag None named there = record {
  quiet = kept w (slot_cells w slot None (slot_ask.Close tag) slot_reply.NoSuch) b (refuses b code.NoSuch) refl refl;
  done = λ live. let f : None ≡ Some tag = lives_so w slot tag None there live in absurd cc;
  none = λ gone. (refl, same_slots w slot None there);
}
close_held w b a slot tag (Some g) named there = by_test (g.tag == tag) refl
  where
    by_test : (t : Bool) → (g.tag == tag) ≡ t
        → IsClosed (with_actor w b) b slot tag (event.Slot slot (slot_ask.Close tag) (if t then slot_reply.Closed else slot_reply.NoSuch)) (slot_world w b slot (Some g) (slot_ask.Close tag) (if t then slot_reply.Closed else slot_reply.NoSuch))
    by_test true e = record {
      quiet = kept w (slot_cells w slot (Some g) (slot_ask.Close tag) slot_reply.Closed) b (record b { phase = phase.Releasing slot }) refl refl;
      done = λ live. (refl, put_there w b (record b { phase = phase.Releasing slot }) a named refl);
      none = λ gone. absurd (gone (ap (option_map (λ x. x.tag)) there ∙ ap Some (eqb-true g.tag tag e)));
    }
    by_test false e = record {
      quiet = kept w (slot_cells w slot (Some g) (slot_ask.Close tag) slot_reply.NoSuch) b (refuses b code.NoSuch) refl refl;
      done = λ live. let f : Some g.tag ≡ Some tag = lives_so w slot tag (Some g) there live in let same : g.tag ≡ tag = cc in absurd (true≢false (sym (eq-eqb g.tag tag same) ∙ e));
      none = λ gone. (refl, same_slots w slot (Some g) there);
    }

pub close_answered : (w : WorldState) (b a : ActorState) (slot tag : ℕ) (g : Option Segment) → actor_named w.actors b.name ≡ Some a → slot_in w.cells slot ≡ g → slot_on b.sheet b.made tag ≡ Some slot
    → IsAnswered (with_actor w b) b (event.Slot slot (slot_ask.Close tag) (slot_reply_of g (slot_ask.Close tag))) (Some (Deletes tag)) (slot_world w b slot g (slot_ask.Close tag) (slot_reply_of g (slot_ask.Close tag)))
close_answered w b a slot tag g named there held =
    at_slot (λ n. IsClosed (with_actor w b) b n tag (event.Slot slot (slot_ask.Close tag) (slot_reply_of g (slot_ask.Close tag))) (slot_world w b slot g (slot_ask.Close tag) (slot_reply_of g (slot_ask.Close tag)))) _ slot held
    (close_held w b a slot tag g named there)

pub close_next : (i : Image) (b : ActorState) (slot tag : ℕ) (g : Option Segment) → IsNext b.hart (takes i b (event.Slot slot (slot_ask.Close tag) (slot_reply_of g (slot_ask.Close tag))))
unfolding takes
close_next i b slot tag None = (λ e. refl, λ e. absurd cc)
close_next i b slot tag (Some g) = by_test (g.tag == tag)
  where
    by_test : (t : Bool) → IsNext b.hart (takes i b (event.Slot slot (slot_ask.Close tag) (if t then slot_reply.Closed else slot_reply.NoSuch)))
    by_test true = (λ e. absurd cc, λ e. refl)
    by_test false = (λ e. refl, λ e. absurd cc)

pub close_refused : (w : WorldState) (b : ActorState) (slot tag n : ℕ) (g : Option Segment) → slot_in w.cells slot ≡ g → close_refusal tag g ≡ Some n
    → slot_world w b slot g (slot_ask.Close tag) (slot_reply_of g (slot_ask.Close tag)) ≡ with_actor (with_actor w b) (refused b n)
unfolding takes
close_refused w b slot tag n None there told =
    let same : no_such ≡ n = cc in
    subst (λ m. slot_world w b slot None (slot_ask.Close tag) slot_reply.NoSuch ≡ with_actor (with_actor w b) (refused b m)) same (stayed w b (refuses b code.NoSuch) _ (same_slots w slot None there) refl)
close_refused w b slot tag n (Some g) there told = by_test (g.tag == tag) told
  where
    by_test : (t : Bool) → (if t then None else Some no_such) ≡ Some n → slot_world w b slot (Some g) (slot_ask.Close tag) (if t then slot_reply.Closed else slot_reply.NoSuch) ≡ with_actor (with_actor w b) (refused b n)
    by_test true told = absurd cc
    by_test false told =
        let same : no_such ≡ n = cc in
        subst (λ m. slot_world w b slot (Some g) (slot_ask.Close tag) slot_reply.NoSuch ≡ with_actor (with_actor w b) (refused b m)) same (stayed w b (refuses b code.NoSuch) _ (same_slots w slot (Some g) there) refl)

pub close_passed : (tag : ℕ) (g : Option Segment) → close_refusal tag g ≡ None → slot_refuses (slot_reply_of g (slot_ask.Close tag)) ≡ false
close_passed tag None told = absurd cc
close_passed tag (Some g) told = by_test (g.tag == tag) told
  where
    by_test : (t : Bool) → (if t then None else Some no_such) ≡ None → slot_refuses (if t then slot_reply.Closed else slot_reply.NoSuch) ≡ false
    by_test true told = refl
    by_test false told = absurd cc

-- ---- a block that is to be placed

abbrev placed_reply : Bool → Option ℕ → SlotReply
placed_reply t o = if t then place_reply o else slot_reply.NoSuch

place_held : (w : WorldState) (b a : ActorState) (slot tag size : ℕ) (g : Option Segment) → actor_named w.actors b.name ≡ Some a → slot_in w.cells slot ≡ g
    → IsPlaced (with_actor w b) b slot tag size (event.Slot slot (slot_ask.Smalloc tag size) (slot_reply_of g (slot_ask.Smalloc tag size))) (slot_world w b slot g (slot_ask.Smalloc tag size) (slot_reply_of g (slot_ask.Smalloc tag size)))
unfolding takes
place_held w b a slot tag size None named there = record {
  quiet = kept w (slot_cells w slot None (slot_ask.Smalloc tag size) slot_reply.NoSuch) b (refuses b code.NoSuch) refl refl;
  done = λ offset gap. let f : None ≡ Some offset = ap (λ x. gap_in x tag size) (sym there) ∙ gap in absurd cc;
  none = λ gap. (refl, same_slots w slot None there);
}
place_held w b a slot tag size (Some g) named there = by_tests (g.tag == tag) (first_fit 0 (rounded size) (length g.bytes) g.blocks) (ap (λ x. gap_in x tag size) there)
  where
    by_tests : (t : Bool) (o : Option ℕ) → gap_in (slot_in w.cells slot) tag size ≡ (if t then o else None)
        → IsPlaced (with_actor w b) b slot tag size (event.Slot slot (slot_ask.Smalloc tag size) (placed_reply t o)) (slot_world w b slot (Some g) (slot_ask.Smalloc tag size) (placed_reply t o))
    by_tests false o gap_is = record {
      quiet = kept w (slot_cells w slot (Some g) (slot_ask.Smalloc tag size) slot_reply.NoSuch) b (refuses b code.NoSuch) refl refl;
      done = λ offset gap. let f : None ≡ Some offset = sym gap_is ∙ gap in absurd cc;
      none = λ gap. (refl, same_slots w slot (Some g) there);
    }
    by_tests true None gap_is = record {
      quiet = kept w (slot_cells w slot (Some g) (slot_ask.Smalloc tag size) slot_reply.Full) b (refuses b code.Full) refl refl;
      done = λ offset gap. let f : None ≡ Some offset = sym gap_is ∙ gap in absurd cc;
      none = λ gap. (refl, same_slots w slot (Some g) there);
    }
    by_tests true (Some place) gap_is = record {
      quiet = kept w (slot_cells w slot (Some g) (slot_ask.Smalloc tag size) (slot_reply.Placed place)) b (answers b (address_of slot place)) refl refl;
      done = λ offset gap.
          let f : Some place ≡ Some offset = sym gap_is ∙ gap in
          let same : place ≡ offset = cc in (
            ap (λ n. event.Slot slot (slot_ask.Smalloc tag size) (slot_reply.Placed n)) same,
            put_there w b (answers b (address_of slot place)) a named refl ∙ ap (λ n. Some (record b { hart = answered_hart b (address_of slot n) 0; phase = phase.Running })) same,
          );
      none = λ gap. let f : Some place ≡ None = sym gap_is ∙ gap in absurd cc;
    }

pub place_answered : (w : WorldState) (b a : ActorState) (slot tag size : ℕ) (g : Option Segment) → actor_named w.actors b.name ≡ Some a → slot_in w.cells slot ≡ g → slot_on b.sheet b.made tag ≡ Some slot
    → IsAnswered (with_actor w b) b (event.Slot slot (slot_ask.Smalloc tag size) (slot_reply_of g (slot_ask.Smalloc tag size))) (Some (Allots tag size)) (slot_world w b slot g (slot_ask.Smalloc tag size) (slot_reply_of g (slot_ask.Smalloc tag size)))
place_answered w b a slot tag size g named there held =
    at_slot (λ n. IsPlaced (with_actor w b) b n tag size (event.Slot slot (slot_ask.Smalloc tag size) (slot_reply_of g (slot_ask.Smalloc tag size))) (slot_world w b slot g (slot_ask.Smalloc tag size) (slot_reply_of g (slot_ask.Smalloc tag size)))) _ slot held
    (place_held w b a slot tag size g named there)

pub place_next : (i : Image) (b : ActorState) (slot tag size : ℕ) (g : Option Segment) → IsNext b.hart (takes i b (event.Slot slot (slot_ask.Smalloc tag size) (slot_reply_of g (slot_ask.Smalloc tag size))))
unfolding takes
place_next i b slot tag size None = (λ e. refl, λ e. absurd cc)
place_next i b slot tag size (Some g) = by_tests (g.tag == tag) (first_fit 0 (rounded size) (length g.bytes) g.blocks)
  where
    by_tests : (t : Bool) (o : Option ℕ) → IsNext b.hart (takes i b (event.Slot slot (slot_ask.Smalloc tag size) (placed_reply t o)))
    by_tests false o = (λ e. refl, λ e. absurd cc)
    by_tests true None = (λ e. refl, λ e. absurd cc)
    by_tests true (Some place) = (λ e. refl, λ e. absurd cc)

pub place_refused : (w : WorldState) (b : ActorState) (slot tag size n : ℕ) (g : Option Segment) → slot_in w.cells slot ≡ g → place_refusal tag size g ≡ Some n
    → slot_world w b slot g (slot_ask.Smalloc tag size) (slot_reply_of g (slot_ask.Smalloc tag size)) ≡ with_actor (with_actor w b) (refused b n)
unfolding takes
place_refused w b slot tag size n None there told =
    let same : no_such ≡ n = cc in
    subst (λ m. slot_world w b slot None (slot_ask.Smalloc tag size) slot_reply.NoSuch ≡ with_actor (with_actor w b) (refused b m)) same (stayed w b (refuses b code.NoSuch) _ (same_slots w slot None there) refl)
place_refused w b slot tag size n (Some g) there told = by_tests (g.tag == tag) (first_fit 0 (rounded size) (length g.bytes) g.blocks) told
  where
    by_tests : (t : Bool) (o : Option ℕ) → (if t then gap_refusal o else Some no_such) ≡ Some n → slot_world w b slot (Some g) (slot_ask.Smalloc tag size) (placed_reply t o) ≡ with_actor (with_actor w b) (refused b n)
    by_tests false o told =
        let same : no_such ≡ n = cc in
        subst (λ m. slot_world w b slot (Some g) (slot_ask.Smalloc tag size) slot_reply.NoSuch ≡ with_actor (with_actor w b) (refused b m)) same (stayed w b (refuses b code.NoSuch) _ (same_slots w slot (Some g) there) refl)
    by_tests true None told =
        let same : full ≡ n = cc in
        subst (λ m. slot_world w b slot (Some g) (slot_ask.Smalloc tag size) slot_reply.Full ≡ with_actor (with_actor w b) (refused b m)) same (stayed w b (refuses b code.Full) _ (same_slots w slot (Some g) there) refl)
    by_tests true (Some place) told = absurd cc

pub place_passed : (tag size : ℕ) (g : Option Segment) → place_refusal tag size g ≡ None → slot_refuses (slot_reply_of g (slot_ask.Smalloc tag size)) ≡ false
place_passed tag size None told = absurd cc
place_passed tag size (Some g) told = by_tests (g.tag == tag) (first_fit 0 (rounded size) (length g.bytes) g.blocks) told
  where
    by_tests : (t : Bool) (o : Option ℕ) → (if t then gap_refusal o else Some no_such) ≡ None → slot_refuses (placed_reply t o) ≡ false
    by_tests false o told = absurd cc
    by_tests true None told = absurd cc
    by_tests true (Some place) told = refl

-- ---- a block that is to be freed

abbrev freed_reply : Segment → Bool → Bool → SlotReply
freed_reply g t u = if not t then slot_reply.Denied g.tag right.ReadWrite else if u then slot_reply.Freed else slot_reply.Bad

none_not_some : {X : Type 0} (o : Option X) (u : Bool) → is_some o ≡ u → is_none o ≡ not u
none_not_some None u e = ap not e
none_not_some (Some x) u e = ap not e

free_checked : (w : WorldState) (b a : ActorState) (slot offset : ℕ) (g : Segment) (t u : Bool) → actor_named w.actors b.name ≡ Some a → slot_in w.cells slot ≡ Some g → may_use b g.tag right.ReadWrite ≡ t → is_none (block_at g.blocks offset) ≡ not u
    → IsChecked (with_actor w b) b (Frees (record { slot = slot; offset = offset }) g) (Some (event.Slot slot (slot_ask.Sfree offset (pair_on b g)) (freed_reply g t u))) (slot_world w b slot (Some g) (slot_ask.Sfree offset (pair_on b g)) (freed_reply g t u))
unfolding takes
free_checked w b a slot offset g false u named there held block =
    checked_denied _ b (Frees (record { slot = slot; offset = offset }) g) _ _ (denial.Tag g.tag right.ReadWrite) (ap (λ x. if x then None else Some (denial.Tag g.tag right.ReadWrite)) held) (λ e. let f = e.0 in absurd cc) (stayed w b _ _ (same_slots w slot (Some g) there) refl)
free_checked w b a slot offset g true true named there held block =
    checked_allowed _ b (Frees (record { slot = slot; offset = offset }) g) _ _ false (ap (λ x. if x then None else Some (denial.Tag g.tag right.ReadWrite)) held) block (λ e. refl, λ e. (refl, put_there w b (answers b 0) a named refl))
    (kept w (slot_cells w slot (Some g) (slot_ask.Sfree offset (pair_on b g)) slot_reply.Freed) b (answers b 0) refl refl)
    (λ z. absurd cc)
free_checked w b a slot offset g true false named there held block =
    checked_allowed _ b (Frees (record { slot = slot; offset = offset }) g) _ _ true (ap (λ x. if x then None else Some (denial.Tag g.tag right.ReadWrite)) held) block (λ e. let f = e.0 in absurd cc, λ e. absurd cc)
    (kept w (slot_cells w slot (Some g) (slot_ask.Sfree offset (pair_on b g)) slot_reply.Bad) b (refuses b code.Bad) refl refl)
    (λ z. same_slots w slot (Some g) there)

pub free_answered : (w : WorldState) (b a : ActorState) (slot offset : ℕ) (g : Option Segment) → actor_named w.actors b.name ≡ Some a → slot_in w.cells slot ≡ g
    → IsAnswered (with_actor w b) b (event.Slot slot (slot_ask.Sfree offset (pair b (option_map (λ x. x.tag) g))) (slot_reply_of g (slot_ask.Sfree offset (pair b (option_map (λ x. x.tag) g)))))
    (option_map (Frees (record { slot = slot; offset = offset })) g)
    (slot_world w b slot g (slot_ask.Sfree offset (pair b (option_map (λ x. x.tag) g))) (slot_reply_of g (slot_ask.Sfree offset (pair b (option_map (λ x. x.tag) g)))))
unfolding takes
free_answered w b a slot offset None named there = (kept w (slot_cells w slot None (slot_ask.Sfree offset None) slot_reply.NoSuch) b (refuses b code.NoSuch) refl refl, refl)
free_answered w b a slot offset (Some g) named there = free_checked w b a slot offset g _ _ named there refl (none_not_some (block_at g.blocks offset) _ refl)

pub free_next : (i : Image) (b : ActorState) (slot offset : ℕ) (o : Option Live) (g : Option Segment) → IsNext b.hart (takes i b (event.Slot slot (slot_ask.Sfree offset o) (slot_reply_of g (slot_ask.Sfree offset o))))
unfolding takes
free_next i b slot offset o None = (λ e. refl, λ e. absurd cc)
free_next i b slot offset o (Some g) = by_tests _ _
  where
    by_tests : (t u : Bool) → IsNext b.hart (takes i b (event.Slot slot (slot_ask.Sfree offset o) (freed_reply g t u)))
    by_tests false u = (λ e. refl, λ e. absurd cc)
    by_tests true true = (λ e. refl, λ e. absurd cc)
    by_tests true false = (λ e. refl, λ e. absurd cc)

pub free_refused : (w : WorldState) (b : ActorState) (slot offset n : ℕ) (g : Option Segment) → slot_in w.cells slot ≡ g → block_refusal b offset g ≡ Some n
    → slot_world w b slot g (slot_ask.Sfree offset (pair b (option_map (λ x. x.tag) g))) (slot_reply_of g (slot_ask.Sfree offset (pair b (option_map (λ x. x.tag) g)))) ≡ with_actor (with_actor w b) (refused b n)
unfolding takes
free_refused w b slot offset n None there told =
    let same : no_such ≡ n = cc in
    subst (λ m. slot_world w b slot None (slot_ask.Sfree offset None) slot_reply.NoSuch ≡ with_actor (with_actor w b) (refused b m)) same (stayed w b (refuses b code.NoSuch) _ (same_slots w slot None there) refl)
free_refused w b slot offset n (Some g) there told = by_tests (may_use b g.tag right.ReadWrite) (block_at g.blocks offset) told
  where
    by_tests : (t : Bool) (o : Option Block) → (if not t then None else if is_none o then Some bad else None) ≡ Some n
        → slot_world w b slot (Some g) (slot_ask.Sfree offset (pair_on b g)) (freed_reply g t (is_some o)) ≡ with_actor (with_actor w b) (refused b n)
    by_tests false o told = absurd cc
    by_tests true (Some x) told = absurd cc
    by_tests true None told =
        let same : bad ≡ n = cc in
        subst (λ m. slot_world w b slot (Some g) (slot_ask.Sfree offset (pair_on b g)) slot_reply.Bad ≡ with_actor (with_actor w b) (refused b m)) same (stayed w b (refuses b code.Bad) _ (same_slots w slot (Some g) there) refl)

pub free_passed : (b : ActorState) (offset : ℕ) (g : Option Segment) → block_refusal b offset g ≡ None → slot_refuses (slot_reply_of g (slot_ask.Sfree offset (pair b (option_map (λ x. x.tag) g)))) ≡ false
free_passed b offset None told = absurd cc
free_passed b offset (Some g) told = by_tests (may_use b g.tag right.ReadWrite) (block_at g.blocks offset) told
  where
    by_tests : (t : Bool) (o : Option Block) → (if not t then None else if is_none o then Some bad else None) ≡ None → slot_refuses (freed_reply g t (is_some o)) ≡ false
    by_tests false o told = refl
    by_tests true (Some x) told = refl
    by_tests true None told = absurd cc

-- ---- what their events make

pub want_makes : (w : WorldState) (b : ActorState) (N : ℕ → Type 0) (q : Want) → IsRequest N b q → MakesAt (with_actor w b) b (phase.Within q) (event_for w.cells b q) (after w b (event_for w.cells b q))
unfolding takes
want_makes w b N (want.Slots directory_ask.Claim) own = λ c there. (
  ap (λ o. event.Slots directory_ask.Claim (claim_reply w.cells.places o)) there,
  ap (claim_world w b w.cells.places) there
      ∙ ap (λ (as_ : List ActorState). record w { cells = record w.cells { places = c.left }; actors = as_ }) (sym (put_put w.actors b (record b { phase = phase.Opening c.place w.cells.places.number }) refl)),
)
want_makes w b N (want.Slots (directory_ask.Release place)) own = absurd own
want_makes w b N (want.Slot slot (slot_want.Close tag)) own = refl
want_makes w b N (want.Slot slot (slot_want.Load offset width)) own = refl
want_makes w b N (want.Slot slot (slot_want.Store offset width value)) own = refl
want_makes w b N (want.Slot slot (slot_want.Smalloc tag size)) own = refl
want_makes w b N (want.Slot slot (slot_want.Sfree offset)) own = refl
want_makes w b N (want.Fd fd (stream_ask.Open k bytes)) own = absurd own
want_makes w b N (want.Fd fd (stream_ask.Read bits count)) own = refl
want_makes w b N (want.Fd fd (stream_ask.Append bits bytes)) own = refl
want_makes w b N (want.Fd fd (stream_ask.Close bits)) own = refl
want_makes w b N (want.Lives lives_ask.Claim) own = refl
want_makes w b N q own = absurd own

-- who made a tag may store to it
made_is_held : (b : ActorState) (slot tag : ℕ) → right_of (record b { made = made_tag b.made tag slot }) tag ≡ Some right.ReadWrite
made_is_held b slot tag = ap (λ (o : Option ℕ). if is_some o then Some right.ReadWrite else option_map (λ g. g.right) (at b.sheet.tags tag)) (with_same b.made.tags tag slot)

pub open_makes : (w : WorldState) (b : ActorState) (slot tag : ℕ) → MakesAt (with_actor w b) b (phase.Opening slot tag) (event.Slot slot (slot_ask.Open tag (a0 b)) slot_reply.Opened) (after w b (event.Slot slot (slot_ask.Open tag (a0 b)) slot_reply.Opened))
unfolding takes
open_makes w b slot tag = (
  refl,
  ap (λ (as_ : List ActorState). record w { cells = slot_cells w slot (slot_in w.cells slot) (slot_ask.Open tag (a0 b)) slot_reply.Opened; actors = as_ })
      (sym (put_put w.actors b (record b { made = made_tag b.made tag slot; hart = answered_twice b tag (address_of slot 0); memory = record b.memory { copies = without_copy b.memory.copies slot }; phase = phase.Running }) refl)),
  made_is_held b slot tag,
  record { gone = found_gone b.memory.copies slot; beside = λ other apart. found_elsewhere b.memory.copies slot other apart },
)

pub release_makes : (w : WorldState) (b : ActorState) (slot : ℕ) → MakesAt (with_actor w b) b (phase.Releasing slot) (event.Slots (directory_ask.Release slot) directory_reply.Released) (after w b (event.Slots (directory_ask.Release slot) directory_reply.Released))
unfolding takes
release_makes w b slot = (refl, sym (put_put w.actors b (answers b 0) refl))
