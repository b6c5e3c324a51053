-- Where the cells look alike to an actor in two worlds, its loads, stores, reads and appends go the same way in both.
use Rattle.std.proofs.Common.{◌≡◌, ℕ, Bool, true, false, List, [], refl, sym, ap, ◌∙◌}
use Rattle.std.specs.Prelude.{Option, Some, None, is_some, option_map, length, ◌==◌, if◌then◌else◌}
use Rattle.wedge_base.specs.Bytes.{overwrite, bytes_of}
use Rattle.wedge_base.specs.Images.{Image}
use Rattle.wedge_base.specs.Rights.{at_least}
use Rattle.wedge_base.specs.Sheets.{right_on, bits_on}
use Rattle.wedge_events.specs.Slots.{Segment, slot_reply as slot_reply_of, slot_after, write_segment}
use Rattle.wedge_events.specs.Streams.{Stream, stream_reply as stream_reply_of, stream_after, with_bytes_read, with_more_bytes}
use Rattle.wedge_events.specs.declared.cells.Live.{Live}
use Rattle.wedge_events.specs.declared.cells.SlotAsk.{SlotAsk}
use Rattle.wedge_events.specs.declared.cells.SlotAsk.TheVariants as slot_ask
use Rattle.wedge_events.specs.declared.cells.SlotReply.{SlotReply}
use Rattle.wedge_events.specs.declared.cells.SlotReply.TheVariants as slot_reply
use Rattle.wedge_events.specs.declared.cells.StreamAsk.{StreamAsk}
use Rattle.wedge_events.specs.declared.cells.StreamAsk.TheVariants as stream_ask
use Rattle.wedge_events.specs.declared.cells.StreamReply.{StreamReply}
use Rattle.wedge_events.specs.declared.cells.StreamReply.TheVariants as stream_reply
use Rattle.wedge_base.specs.declared.rights.Right.TheVariants as right
use Rattle.wedge_events.specs.declared.events.Event.{Event}
use Rattle.wedge_events.specs.declared.events.Event.TheVariants as event
use Rattle.wedge_events.specs.declared.events.SlotWant.{SlotWant}
use Rattle.wedge_events.specs.declared.events.SlotWant.TheVariants as slot_want
use Rattle.wedge_events.specs.declared.events.Want.{Want}
use Rattle.wedge_events.specs.declared.events.Want.TheVariants as want
use Rattle.wedge_events.specs.Wants.{slot_ask_with}
use Rattle.machine.specs.declared.phase.Phase.TheVariants as phase
use Rattle.machine.specs.Actors.{ActorState, bits_of}
use Rattle.run_laws.specs.Allowed.{may_use}
use Rattle.machine.specs.Cells.{Cells, slot_in, stream_in, tag_in, cells_after}
use Rattle.run_laws.specs.Families.{made_by}
use Rattle.run_laws.specs.Isolation.{Sight, sight, seen, has_bit, LookAlike, IsSeen}
use Rattle.run_laws.specs.Laws.{AccessesAreIsolated}
use Rattle.machine.specs.Local.{rest}
use Rattle.machine.specs.Take.{pair, current_want, wanted_at, takes, actor_begun}
use Rattle.machine.specs.Worlds.{WorldState, actor_named, put_actor, with_begun, wanting, ready, resumed, at_rest, turn_with, turn_of, apply_event, event_at}
use Rattle.run_laws.proofs.Between.{takes_name}
use Rattle.run_laws.proofs.Families.{takes_sheet, takes_made, IsNoOpening, made_same, made_within}
use Rattle.run_laws.proofs.Named.{found_name}
use Rattle.run_laws.proofs.OneCell.{follows}
use Rattle.machine.proofs.Resting.{rest-name}
use Rattle.run_laws.proofs.Trees.{IsPut, found_put}
use Rattle.run_laws.proofs.Turns.{ready_name, ready_named}
use Rattle.run_laws.proofs.Writing.{SameRights, at_rest_rights}

-- ---- an actor with the same rights sees the same

same_seen : (a b : ActorState) → SameRights a b → (g : Option Segment) → seen b g ≡ seen a g
same_seen a b same None = refl
same_seen a b same (Some g) = ap (λ r. if at_least r right.Read then Some (sight g) else None) (same.rights g.tag)

looks : (a b : ActorState) (c d : Cells) → SameRights a b → LookAlike a c d → LookAlike b c d
looks a b c d same alike = record {
  tags = λ slot. same_seen a b same (slot_in c slot) ∙ (alike.tags slot ∙ sym (same_seen a b same (slot_in d slot)));
  streams = λ fd has. alike.streams fd (ap has_bit (sym (same.bits fd)) ∙ has);
}

same_rights : (i : Image) (a : ActorState) (e : Event) → made_by a (Some e) ≡ a.made → SameRights a (takes i a e)
same_rights i a e made =
    let x = takes i a e in
    record {
      rights = λ tag. ap (λ s. right_on s x.made tag) (takes_sheet i a e) ∙ ap (λ m. right_on a.sheet m tag) (takes_made i a e) ∙ ap (λ m. right_on a.sheet m tag) made;
      bits = λ fd. ap (λ s. bits_on s x.made fd) (takes_sheet i a e) ∙ ap (λ m. bits_on a.sheet m fd) (takes_made i a e) ∙ ap (λ m. bits_on a.sheet m fd) made;
    }

-- ---- a tag that is seen lives there

record IsSight (a : ActorState) (o : Option Segment) (s : Sight) : Type 0 where
  living : Segment
  there : o ≡ Some living
  tag : living.tag ≡ s.tag
  bytes : living.bytes ≡ s.bytes

sight_of : (a : ActorState) (o : Option Segment) (s : Sight) → seen a o ≡ Some s → IsSight a o s
sight_of a None s e = absurd cc
sight_of a (Some g) s e = by_right (may_use a g.tag right.Read) e
  where
    by_right : (t : Bool) → (if t then Some (sight g) else None) ≡ Some s → IsSight a (Some g) s
    by_right true k =
        let same : sight g ≡ s = cc in
        record { living = g; there = refl; tag = ap (λ (x : Sight). x.tag) same; bytes = ap (λ (x : Sight). x.bytes) same }
    by_right false k = absurd cc

some_sight : (o : Option Sight) → is_some o ≡ true → (s : Sight) × (o ≡ Some s)
some_sight None e = absurd cc
some_sight (Some s) e = (s, refl)

-- ---- a load or a store of it

abbrev IsAccessAsk : SlotAsk → Type 0
IsAccessAsk (slot_ask.Load width offset live) = Unit {0}
IsAccessAsk (slot_ask.Store width offset value live) = Unit {0}
IsAccessAsk q = ⊥

-- the reply goes by the tag and its bytes
sight_reply : SlotAsk → Sight → SlotReply
sight_reply q s = slot_reply_of (Some (record { tag = s.tag; bytes = s.bytes; blocks = [] })) q

reply_by_sight : (q : SlotAsk) (g : Segment) → IsAccessAsk q → slot_reply_of (Some g) q ≡ sight_reply q (sight g)
unfolding sight_reply
reply_by_sight (slot_ask.Load width offset live) g h = refl
reply_by_sight (slot_ask.Store width offset value live) g h = refl
reply_by_sight q g h = absurd h

replies_alike : (a : ActorState) (q : SlotAsk) (o p : Option Segment) (s : Sight) → IsAccessAsk q → IsSight a o s → IsSight a p s → slot_reply_of o q ≡ slot_reply_of p q
replies_alike a q o p s h first second =
    let by : (x : Segment) → x.tag ≡ s.tag → x.bytes ≡ s.bytes → slot_reply_of (Some x) q ≡ sight_reply q s =
    λ x t b. reply_by_sight q x h ∙ (ap (λ n. sight_reply q (record { tag = n; bytes = x.bytes })) t ∙ ap (λ bs. sight_reply q (record { tag = s.tag; bytes = bs })) b) in
    ap (λ x. slot_reply_of x q) first.there ∙ (by first.living first.tag first.bytes ∙ sym (ap (λ x. slot_reply_of x q) second.there ∙ by second.living second.tag second.bytes))

-- what it leaves to be seen
sight_after : SlotAsk → SlotReply → Option Sight → Option Sight
sight_after (slot_ask.Store width offset value live) slot_reply.Stored o = option_map (λ (s : Sight). record { tag = s.tag; bytes = overwrite s.bytes offset (bytes_of width value) }) o
sight_after q r o = o

stored_seen : (a : ActorState) (offset width value : ℕ) (g : Option Segment)
    → seen a (option_map (write_segment offset width value) g) ≡ option_map (λ (s : Sight). record { tag = s.tag; bytes = overwrite s.bytes offset (bytes_of width value) }) (seen a g)
stored_seen a offset width value None = refl
stored_seen a offset width value (Some g) = by_right (may_use a g.tag right.Read)
  where
    by_right : (t : Bool) → (if t then Some (sight (write_segment offset width value g)) else None)
        ≡ option_map (λ (s : Sight). record { tag = s.tag; bytes = overwrite s.bytes offset (bytes_of width value) }) (if t then Some (sight g) else None)
    by_right true = refl
    by_right false = refl

access_shows : (a : ActorState) (q : SlotAsk) (r : SlotReply) (g : Option Segment) → IsAccessAsk q → seen a (slot_after g q r) ≡ sight_after q r (seen a g)
unfolding sight_after
access_shows a (slot_ask.Store width offset value live) slot_reply.Stored g h = stored_seen a offset width value g
access_shows a (slot_ask.Store width offset value live) r g h = refl
access_shows a (slot_ask.Load width offset live) r g h = refl
access_shows a q r g h = absurd h

access_stays : (q : SlotAsk) (r : SlotReply) (g : Option Segment) → IsAccessAsk q → g ≡ None → slot_after g q r ≡ None
access_stays (slot_ask.Store width offset value live) slot_reply.Stored g h e = ap (option_map (write_segment offset width value)) e
access_stays (slot_ask.Store width offset value live) r g h e = e
access_stays (slot_ask.Load width offset live) r g h e = e
access_stays q r g h e = absurd h

-- so the slots still look alike
slots_alike : (a : ActorState) (c d : Cells) (slot : ℕ) (q : SlotAsk) (r : SlotReply) → IsAccessAsk q → LookAlike a c d → LookAlike a (cells_after c (event.Slot slot q r)) (cells_after d (event.Slot slot q r))
slots_alike a c d slot q r h alike = record {
  tags = λ n. shown c n ∙ (by_test (slot == n) n ∙ sym (shown d n));
  streams = alike.streams;
}
  where
    shown : (x : Cells) (n : ℕ) → seen a (slot_in (cells_after x (event.Slot slot q r)) n) ≡ (if slot == n then sight_after q r (seen a (slot_in x n)) else seen a (slot_in x n))
    shown x n = follows (seen a) (sight_after q r) x.slots slot n (slot_in x slot) (slot_after (slot_in x slot) q r) (slot == n) refl refl (access_stays q r (slot_in x slot) h) (access_shows a q r (slot_in x slot) h)

    by_test : (t : Bool) (n : ℕ) → (if t then sight_after q r (seen a (slot_in c n)) else seen a (slot_in c n)) ≡ (if t then sight_after q r (seen a (slot_in d n)) else seen a (slot_in d n))
    by_test true n = ap (sight_after q r) (alike.tags n)
    by_test false n = alike.tags n

-- ---- a read or an append

abbrev IsUseAsk : StreamAsk → Type 0
IsUseAsk (stream_ask.Read bits count) = Unit {0}
IsUseAsk (stream_ask.Append bits bytes) = Unit {0}
IsUseAsk q = ⊥

use_stays : (q : StreamAsk) (r : StreamReply) (s : Option Stream) → IsUseAsk q → s ≡ None → stream_after s q r ≡ None
use_stays (stream_ask.Read bits count) (stream_reply.Given bytes) s h e = ap (option_map (with_bytes_read (length bytes))) e
use_stays (stream_ask.Read bits count) r s h e = e
use_stays (stream_ask.Append bits bytes) stream_reply.Appended s h e = ap (option_map (with_more_bytes bytes)) e
use_stays (stream_ask.Append bits bytes) r s h e = e
use_stays q r s h e = absurd h

streams_alike : (a : ActorState) (c d : Cells) (fd : ℕ) (q : StreamAsk) (r : StreamReply) → IsUseAsk q → LookAlike a c d → LookAlike a (cells_after c (event.Fd fd q r)) (cells_after d (event.Fd fd q r))
streams_alike a c d fd q r h alike = record {
  tags = alike.tags;
  streams = λ n has. shown c n ∙ (by_test (fd == n) n (alike.streams n has) ∙ sym (shown d n));
}
  where
    shown : (x : Cells) (n : ℕ) → stream_in (cells_after x (event.Fd fd q r)) n ≡ (if fd == n then stream_after (stream_in x n) q r else stream_in x n)
    shown x n = follows (λ s. s) (λ s. stream_after s q r) x.streams fd n (stream_in x fd) (stream_after (stream_in x fd) q r) (fd == n) refl refl (use_stays q r (stream_in x fd) h) refl

    by_test : (t : Bool) (n : ℕ) → stream_in c n ≡ stream_in d n → (if t then stream_after (stream_in c n) q r else stream_in c n) ≡ (if t then stream_after (stream_in d n) q r else stream_in d n)
    by_test true n e = ap (λ s. stream_after s q r) e
    by_test false n e = e

-- ---- the turns

abbrev IsNoOpeningWant : SlotWant → Type 0
IsNoOpeningWant (slot_want.Open tag pages) = ⊥
IsNoOpeningWant q = Unit {0}

no_opening : (q : SlotWant) (live : Option Live) → IsNoOpeningWant q → IsNoOpening (slot_ask_with q live)
no_opening (slot_want.Open tag pages) live h = absurd h
no_opening (slot_want.Close tag) live h = tt
no_opening (slot_want.Load offset width) live h = tt
no_opening (slot_want.Store offset width value) live h = tt
no_opening (slot_want.Smalloc tag size) live h = tt
no_opening (slot_want.Sfree offset) live h = tt
no_opening (slot_want.Snap tag) live h = tt

-- an event that comes in both, and leaves the cells alike
record ComesAlike (v w : WorldState) (b : ActorState) (q : Want) : Type 0 where
  event : Event
  in_first : event_at v b q ≡ Some event
  in_second : event_at w b q ≡ Some event
  nobody : (i : Image) (x : ActorState) → actor_begun i x event ≡ None
  made : made_by b (Some event) ≡ b.made
  alike : LookAlike b (cells_after v.cells event) (cells_after w.cells event)

slot_comes : (v w : WorldState) (b : ActorState) (slot : ℕ) (q : SlotWant) (s : Sight) → ((live : Option Live) → IsAccessAsk (slot_ask_with q live)) → IsNoOpeningWant q
    → LookAlike b v.cells w.cells → seen b (slot_in v.cells slot) ≡ Some s → ComesAlike v w b (want.Slot slot q)
slot_comes v w b slot q s access none alike sight =
    let first = sight_of b (slot_in v.cells slot) s sight in
    let second = sight_of b (slot_in w.cells slot) s (sym (alike.tags slot) ∙ sight) in
    let tags : tag_in w.cells slot ≡ tag_in v.cells slot =
    ap (option_map (λ g. g.tag)) second.there ∙ (ap (λ n. Some n) (second.tag ∙ sym first.tag) ∙ sym (ap (option_map (λ g. g.tag)) first.there)) in
    let asked = slot_ask_with q (pair b (tag_in v.cells slot)) in
    let reply = slot_reply_of (slot_in v.cells slot) asked in
    record {
      event = event.Slot slot asked reply;
      in_first = refl;
      in_second = ap (λ n. Some (event.Slot slot (slot_ask_with q (pair b n)) (slot_reply_of (slot_in w.cells slot) (slot_ask_with q (pair b n))))) tags
          ∙ ap (λ r. Some (event.Slot slot asked r)) (replies_alike b asked (slot_in w.cells slot) (slot_in v.cells slot) s (access (pair b (tag_in v.cells slot))) second first);
      nobody = λ i x. refl;
      made = made_same b.made slot reply asked (no_opening q (pair b (tag_in v.cells slot)) none);
      alike = slots_alike b v.cells w.cells slot asked reply (access (pair b (tag_in v.cells slot))) alike;
    }

stream_comes : (v w : WorldState) (b : ActorState) (fd : ℕ) (q : StreamAsk) → IsUseAsk q → b.phase ≡ phase.Within (want.Fd fd q)
    → LookAlike b v.cells w.cells → has_bit (bits_of b fd) ≡ true → ComesAlike v w b (want.Fd fd q)
stream_comes v w b fd q uses at alike has =
    let reply = stream_reply_of (stream_in v.cells fd) q in
    record {
      event = event.Fd fd q reply;
      in_first = refl;
      in_second = ap (λ s. Some (event.Fd fd q (stream_reply_of s q))) (sym (alike.streams fd has));
      nobody = λ i x. refl;
      made = made_within b (want.Fd fd q) fd q reply at;
      alike = streams_alike b v.cells w.cells fd q reply uses alike;
    }

comes : (v w : WorldState) (b : ActorState) (q : Want) → b.phase ≡ phase.Within q → LookAlike b v.cells w.cells → IsSeen v.cells b q → ComesAlike v w b q
comes v w b (want.Slot slot (slot_want.Load offset width)) at alike is = let s = some_sight (seen b (slot_in v.cells slot)) is in slot_comes v w b slot (slot_want.Load offset width) s.0 (λ live. tt) tt alike s.1
comes v w b (want.Slot slot (slot_want.Store offset width value)) at alike is = let s = some_sight (seen b (slot_in v.cells slot)) is in slot_comes v w b slot (slot_want.Store offset width value) s.0 (λ live. tt) tt alike s.1
comes v w b (want.Fd fd (stream_ask.Read bits count)) at alike is = stream_comes v w b fd (stream_ask.Read bits count) tt at alike is
comes v w b (want.Fd fd (stream_ask.Append bits bytes)) at alike is = stream_comes v w b fd (stream_ask.Append bits bytes) tt at alike is
comes v w b q at alike is = absurd is

-- what is seen is seen at rest
seen_at_rest : (c : Cells) (a b : ActorState) (q : Want) → SameRights a b → IsSeen c a q → IsSeen c b q
seen_at_rest c a b (want.Slot slot (slot_want.Load offset width)) same is = ap is_some (same_seen a b same (slot_in c slot)) ∙ is
seen_at_rest c a b (want.Slot slot (slot_want.Store offset width value)) same is = ap is_some (same_seen a b same (slot_in c slot)) ∙ is
seen_at_rest c a b (want.Fd fd (stream_ask.Read bits count)) same is = ap has_bit (same.bits fd) ∙ is
seen_at_rest c a b (want.Fd fd (stream_ask.Append bits bytes)) same is = ap has_bit (same.bits fd) ∙ is
seen_at_rest c a b q same is = absurd is

-- the turn of an actor that is within a want once it has gone on
turns_by : (w : WorldState) (name : List ℕ) (a b : ActorState) (q : Want) (e : Event) → actor_named w.actors name ≡ Some a → at_rest w a ≡ b → b.phase ≡ phase.Within q → event_at (resumed w a) b q ≡ Some e
    → turn_of w name ≡ Some (apply_event (resumed w a) b e)
unfolding turn_of
turns_by w name a b q e there rests at comes_so =
    ap (turn_with w) there ∙ (ap (λ (x : ActorState). wanting (resumed w a) x (current_want x)) rests
    ∙ (ap (λ p. wanting (resumed w a) b (wanted_at b p)) at ∙ ap (option_map (apply_event (resumed w a) b)) comes_so))

doer_after : (w : WorldState) (name : List ℕ) (a b : ActorState) (e : Event) → actor_named w.actors name ≡ Some a → at_rest w a ≡ b → actor_begun w.image b e ≡ None
    → actor_named (apply_event (resumed w a) b e).world.actors name ≡ Some (takes w.image b e)
doer_after w name a b e there rests nobody =
    let v = resumed w a in
    let on = ready w.actors a in
    let x = takes w.image b e in
    let own : on.name ≡ name = ready_name w.actors a ∙ found_name w.actors name a there in
    let put : IsPut v.actors on x = record {
      name = takes_name w.image b e ∙ (ap (λ (y : ActorState). y.name) (sym rests) ∙ rest-name w.image on);
      there = ap (actor_named v.actors) own ∙ ready_named w name a there;
    } in
    ap (λ o. actor_named (with_begun (put_actor v.actors x) o) name) nobody ∙ (ap (actor_named (put_actor v.actors x)) (sym own) ∙ found_put v.actors on x put)

pub isolated : AccessesAreIsolated
isolated v w name a q access =
    let b = at_rest v a in
    let kept = at_rest_rights v a in
    let c = comes (resumed v a) (resumed w a) b q access.within (looks a b v.cells w.cells kept access.alike) (seen_at_rest v.cells a b q kept access.is_seen) in
    let x = takes v.image b c.event in
    let second : at_rest w a ≡ b = ap (λ i. rest i (ready w.actors a)) (sym access.image) ∙ ap (rest v.image) (sym access.going) in
    record {
      event = c.event;
      first = (apply_event (resumed v a) b c.event).world;
      second = (apply_event (resumed w a) b c.event).world;
      in_first = turns_by v name a b q c.event access.in_first refl access.within c.in_first;
      in_second = turns_by w name a b q c.event access.in_second second access.within c.in_second;
      after = x;
      first_after = doer_after v name a b c.event access.in_first refl (c.nobody v.image b);
      second_after = doer_after w name a b c.event access.in_second second (c.nobody w.image b) ∙ ap (λ i. Some (takes i b c.event)) (sym access.image);
      alike = looks b x (cells_after v.cells c.event) (cells_after w.cells c.event) (same_rights v.image b c.event c.made) c.alike;
    }
