-- What an actor wants fits the cells.
use Rattle.std.proofs.Common.{◌≡◌, ℕ, refl, sym, ap, subst, ◌∙◌}
use Rattle.std.specs.Prelude.{Option, Some, None, option_map}
use Rattle.wedge_events.specs.Slots.{Segment, IsPair}
use Rattle.wedge_events.specs.declared.events.SlotWant.{SlotWant}
use Rattle.wedge_events.specs.declared.events.SlotWant.TheVariants as slot_want
use Rattle.wedge_events.specs.declared.events.Want.{Want}
use Rattle.wedge_events.specs.declared.events.Want.TheVariants as want
use Rattle.wedge_events.specs.declared.cells.StreamAsk.TheVariants as stream_ask
use Rattle.machine.specs.Actors.{ActorState, wants}
use Rattle.actor_step.specs.Reached.{IsSlotAccess}
use Rattle.wedge_base.specs.Images.{Image}
use Rattle.wedge_events.specs.Wants.{slot_ask_with}
use Rattle.wedge_events.specs.Slots.{slot_reply}
use Rattle.wedge_events.specs.Streams.{stream_reply}
use Rattle.wedge_events.specs.Lives.{lives_reply}
use Rattle.wedge_events.specs.declared.events.Event.{Event}
use Rattle.wedge_events.specs.declared.events.Event.TheVariants as event
use Rattle.wedge_events.specs.declared.cells.DirectoryAsk.TheVariants as directory_ask
use Rattle.wedge_events.specs.declared.cells.LivesAsk.TheVariants as lives_ask
use Rattle.wedge_events.specs.Directories.{directory_reply}
use Rattle.machine.specs.Between.{WantFits, IsInBounds, SuitsActor, TakesFit}
use Rattle.machine.specs.Cells.{Cells, AskFits, live_at, slot_in, stream_in, event_of}
use Rattle.machine.specs.Take.{asks, pair, actor_begun}
use Rattle.machine.specs.Worlds.{WorldState, event_at}
use Rattle.world_turns.specs.Turning.{IsOfCell, IsOfSlot, event_asked}

-- the pair of an actor names what lives there
pair_names : (s : Option Segment) (a : ActorState) → IsPair s (pair a (option_map (λ (g : Segment). g.tag) s))
pair_names None a = refl
pair_names (Some g) a = refl

pub asks_fit : (c : Cells) (a b : ActorState) (q : Want) → WantFits b q → IsOfCell q → AskFits c (asks a (live_at c q) q)
asks_fit c a b (want.Slot slot (slot_want.Load offset width)) h k = (h.0, (h.1, pair_names (slot_in c slot) a))
asks_fit c a b (want.Slot slot (slot_want.Store offset width value)) h k = (h.0, (h.1, pair_names (slot_in c slot) a))
asks_fit c a b (want.Slot slot (slot_want.Open tag pages)) h k = (h.0, (h.1, h.2))
asks_fit c a b (want.Slot slot (slot_want.Close tag)) h k = (h, tt)
asks_fit c a b (want.Slot slot (slot_want.Smalloc tag size)) h k = (h.0, h.1)
asks_fit c a b (want.Slot slot (slot_want.Sfree offset)) h k = (h.0, (h.1, pair_names (slot_in c slot) a))
asks_fit c a b (want.Slot slot (slot_want.Snap tag)) h k = (h, tt)
asks_fit c a b (want.Fd fd (stream_ask.Open kind bytes)) h k = h
asks_fit c a b (want.Fd fd (stream_ask.Read bits count)) h k = h
asks_fit c a b (want.Fd fd (stream_ask.Append bits bytes)) h k = h
asks_fit c a b (want.Fd fd (stream_ask.Close bits)) h k = h
asks_fit c a b (want.Lives q) h k = tt
asks_fit c a b (want.Slots q) h k = tt
asks_fit c a b (want.Fds q) h k = tt
asks_fit c a b (want.Start child) h k = absurd k
asks_fit c a b (want.Join child) h k = absurd k
asks_fit c a b (want.Enter run) h k = absurd k
asks_fit c a b (want.Leave end) h k = absurd k
asks_fit c a b (want.Gate id q) h k = absurd k

-- what comes of an ask of a cell suits whoever asked
event_suits : (c : Cells) (a : ActorState) (q : Want) (l : Option ℕ) (e : Event) → WantFits a q → IsOfCell q → event_of c (asks a l q) ≡ Some e → SuitsActor a e
event_suits c a (want.Slots directory_ask.Claim) l e h k comes = let is : event.Slots directory_ask.Claim (directory_reply c.places directory_ask.Claim) ≡ e = cc in subst (SuitsActor a) is h
event_suits c a (want.Slots (directory_ask.Release index)) l e h k comes =
    let is : event.Slots (directory_ask.Release index) (directory_reply c.places (directory_ask.Release index)) ≡ e = cc in
    subst (SuitsActor a) is tt
event_suits c a (want.Slot slot q) l e h k comes = let is : event.Slot slot (slot_ask_with q (pair a l)) (slot_reply (slot_in c slot) (slot_ask_with q (pair a l))) ≡ e = cc in subst (SuitsActor a) is tt
event_suits c a (want.Fds q) l e h k comes = let is : event.Fds q (directory_reply c.numbers q) ≡ e = cc in subst (SuitsActor a) is tt
event_suits c a (want.Fd fd q) l e h k comes = let is : event.Fd fd q (stream_reply (stream_in c fd) q) ≡ e = cc in subst (SuitsActor a) is tt
event_suits c a (want.Lives lives_ask.Claim) l e h k comes = let is : event.Lives lives_ask.Claim (lives_reply c.lives lives_ask.Claim) ≡ e = cc in subst (SuitsActor a) is h
event_suits c a (want.Lives (lives_ask.Release x)) l e h k comes = let is : event.Lives (lives_ask.Release x) (lives_reply c.lives (lives_ask.Release x)) ≡ e = cc in subst (SuitsActor a) is tt
event_suits c a (want.Gate id q) l e h k comes = absurd k
event_suits c a (want.Start child) l e h k comes = absurd k
event_suits c a (want.Join child) l e h k comes = absurd k
event_suits c a (want.Enter run) l e h k comes = absurd k
event_suits c a (want.Leave end) l e h k comes = absurd k

pub event_fits : (c : Cells) (a : ActorState) (q : Want) (l : Option ℕ) (e : Event) → WantFits a q → IsOfCell q → event_of c (asks a l q) ≡ Some e → IsInBounds e → TakesFit a e
event_fits c a q l e h k comes bounds = (bounds, event_suits c a q l e h k comes)

-- it begins no actor, and is the one to which the actor comes
pub begins_none : (i : Image) (c : Cells) (a : ActorState) (q : Want) (e : Event) → IsOfCell q → event_asked c a q ≡ Some e → actor_begun i a e ≡ None
begins_none i c a q e k comes = none_of q k comes
  where
    is_none : (x : Event) → Some x ≡ Some e → actor_begun i a x ≡ None → actor_begun i a e ≡ None
    is_none x is none = let same : x ≡ e = cc in ap (actor_begun i a) (sym same) ∙ none

    none_of : (p : Want) → IsOfCell p → event_asked c a p ≡ Some e → actor_begun i a e ≡ None
    none_of (want.Slots p) h is = is_none (event.Slots p (directory_reply c.places p)) is refl
    none_of (want.Slot slot p) h is =
        let asked = slot_ask_with p (pair a (live_at c (want.Slot slot p))) in
        is_none (event.Slot slot asked (slot_reply (slot_in c slot) asked)) is refl
    none_of (want.Fds p) h is = is_none (event.Fds p (directory_reply c.numbers p)) is refl
    none_of (want.Fd fd p) h is = is_none (event.Fd fd p (stream_reply (stream_in c fd) p)) is refl
    none_of (want.Lives p) h is = is_none (event.Lives p (lives_reply c.lives p)) is refl
    none_of (want.Gate id p) h is = absurd h
    none_of (want.Start child) h is = absurd h
    none_of (want.Join child) h is = absurd h
    none_of (want.Enter run) h is = absurd h
    none_of (want.Leave end) h is = absurd h

pub asked_is : (w : WorldState) (a : ActorState) (q : Want) → IsOfCell q → event_at w a q ≡ event_asked w.cells a q
asked_is w a (want.Start child) k = absurd k
asked_is w a (want.Join child) k = absurd k
asked_is w a (want.Slots q) k = refl
asked_is w a (want.Slot slot q) k = refl
asked_is w a (want.Fds q) k = refl
asked_is w a (want.Fd fd q) k = refl
asked_is w a (want.Lives q) k = refl
asked_is w a (want.Gate id q) k = absurd k
asked_is w a (want.Enter run) k = absurd k
asked_is w a (want.Leave end) k = absurd k

-- an access fits whoever comes to it
pub access_fits : (b : ActorState) (slot : ℕ) (w : SlotWant) → IsSlotAccess slot w → WantFits b (want.Slot slot w)
access_fits b slot (slot_want.Load offset width) h = h
access_fits b slot (slot_want.Store offset width value) h = h
access_fits b slot (slot_want.Open tag pages) h = absurd h
access_fits b slot (slot_want.Close tag) h = absurd h
access_fits b slot (slot_want.Smalloc tag size) h = absurd h
access_fits b slot (slot_want.Sfree offset) h = absurd h
access_fits b slot (slot_want.Snap tag) h = absurd h

-- its event is one of a slot
pub slot_event : (c : Cells) (a : ActorState) (slot : ℕ) (w : SlotWant) (l : Option ℕ) (e : Event) → event_of c (asks a l (want.Slot slot w)) ≡ Some e → IsInBounds e → IsOfSlot e
slot_event c a slot w l e comes bounds =
    let is : event.Slot slot (slot_ask_with w (pair a l)) (slot_reply (slot_in c slot) (slot_ask_with w (pair a l))) ≡ e = cc in
    subst (λ x. IsInBounds x → IsOfSlot x) is (λ b. b) bounds

-- and it is asked as one asks that wants it
pub asks_running : (a : ActorState) (w q : Want) (l : Option ℕ) → asks (wants a w) l q ≡ asks a l q
asks_running a w q None = refl
asks_running a w q (Some t) = refl
