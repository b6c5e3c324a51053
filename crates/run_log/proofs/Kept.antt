-- An actor stays in its compartment.
use Rattle.std.proofs.Common.{◌≡◌, ℕ, ◌+◌, Bool, true, false, List, refl, ap}
use Rattle.std.specs.Prelude.{Option, Some, None, option_and_then}
use Rattle.wedge_base.specs.Images.{Image, fetch}
use Rattle.cow_pages.specs.Listed.{bytes_listed}
use Rattle.wedge_events.specs.declared.events.Event.{Event}
use Rattle.wedge_events.specs.declared.events.Event.TheVariants as event
use Rattle.wedge_events.specs.declared.cells.DirectoryAsk.TheVariants as directory_ask
use Rattle.wedge_events.specs.declared.cells.DirectoryReply.TheVariants as directory_reply
use Rattle.wedge_events.specs.declared.cells.GateAsk.TheVariants as gate_ask
use Rattle.wedge_events.specs.declared.cells.GateReply.TheVariants as gate_reply
use Rattle.wedge_events.specs.declared.cells.LivesAsk.TheVariants as lives_ask
use Rattle.wedge_events.specs.declared.cells.LivesReply.TheVariants as lives_reply
use Rattle.wedge_events.specs.declared.cells.SlotAsk.TheVariants as slot_ask
use Rattle.wedge_events.specs.declared.cells.SlotReply.TheVariants as slot_reply
use Rattle.wedge_events.specs.declared.cells.StreamReply.TheVariants as stream_reply
use Rattle.rv_isa.specs.declared.Instr.{Instr}
use Rattle.rv_isa.specs.Table.{decode}
use Rattle.rv_hart.specs.declared.Need.{Need}
use Rattle.rv_hart.specs.declared.Need.TheVariants as need
use Rattle.rv_hart.specs.Local.{local}
use Rattle.machine.specs.Actors.{ActorState}
use Rattle.machine.specs.Children.{without_child}
use Rattle.machine.specs.Local.{rest, is_running}
use Rattle.machine.specs.Take.{runs, takes, loads_at, loads_by}
use Rattle.machine.specs.Worlds.{ready}
use Rattle.machine.proofs.Resting.{rests, rest-stays}
use Rattle.run_laws.proofs.Between.{joined_is, numbered_is, opened_is, snapped_is, entered_is}
use Rattle.run_laws.proofs.Turns.{ready_is}

loaded_compartment : (ins : Instr) (n : Need) (a : ActorState) (value : ℕ) → (loads_by ins n a value).compartment ≡ a.compartment
loaded_compartment ins need.Done a value = refl
loaded_compartment ins (need.Load address width s) a value = refl
loaded_compartment ins (need.Store address width v) a value = refl
loaded_compartment ins need.Call a value = refl
loaded_compartment ins need.Break a value = refl
loaded_compartment ins need.JumpMisaligned a value = refl

loads_compartment : (a : ActorState) (ins : Option Instr) (value : ℕ) → (loads_at a ins value).compartment ≡ a.compartment
loads_compartment a None value = refl
loads_compartment a (Some ins) value = loaded_compartment ins (local ins a.hart).need a value

pub takes_compartment : (i : Image) (b : ActorState) (e : Event) → (takes i b e).compartment ≡ b.compartment
unfolding takes
takes_compartment i b (event.Slot slot q (slot_reply.Loaded value)) = loads_compartment (runs b) (option_and_then decode (fetch i b.hart.pc)) value
takes_compartment i b (event.Slots (directory_ask.Release place) r) = refl
takes_compartment i b (event.Slots directory_ask.Claim (directory_reply.Claimed place number)) = refl
takes_compartment i b (event.Slots directory_ask.Claim directory_reply.Full) = refl
takes_compartment i b (event.Slots directory_ask.Claim directory_reply.Released) = refl
takes_compartment i b (event.Slot slot q (slot_reply.Snapped pages)) = snapped_is (λ x. x.compartment ≡ b.compartment) b b.phase slot (Some (bytes_listed pages)) refl (λ x. refl) (λ x. refl) (λ g. refl)
takes_compartment i b (event.Slot slot q slot_reply.Gone) = snapped_is (λ x. x.compartment ≡ b.compartment) b b.phase slot None refl (λ x. refl) (λ x. refl) (λ g. refl)
takes_compartment i b (event.Slot slot (slot_ask.Sfree offset live) (slot_reply.Denied tag wants)) = refl
takes_compartment i b (event.Slot slot (slot_ask.Open tag pages) slot_reply.Opened) = refl
takes_compartment i b (event.Slot slot q r) = refl
takes_compartment i b (event.Fds (directory_ask.Release place) r) = refl
takes_compartment i b (event.Fds directory_ask.Claim (directory_reply.Claimed fd number)) = numbered_is (λ x. x.compartment ≡ b.compartment) b b.phase fd refl (λ o. refl)
takes_compartment i b (event.Fds directory_ask.Claim directory_reply.Full) = refl
takes_compartment i b (event.Fds directory_ask.Claim directory_reply.Released) = refl
takes_compartment i b (event.Fd fd q stream_reply.Opened) = opened_is (λ x. x.compartment ≡ b.compartment) b b.phase fd refl (λ o. refl)
takes_compartment i b (event.Fd fd q (stream_reply.Given bytes)) = refl
takes_compartment i b (event.Fd fd q stream_reply.Appended) = refl
takes_compartment i b (event.Fd fd q stream_reply.Closed) = refl
takes_compartment i b (event.Fd fd q stream_reply.NoSuch) = refl
takes_compartment i b (event.Fd fd q (stream_reply.Denied wants)) = refl
takes_compartment i b (event.Fd fd q stream_reply.Bad) = refl
takes_compartment i b (event.Lives lives_ask.Claim lives_reply.Claimed) = refl
takes_compartment i b (event.Lives lives_ask.Claim lives_reply.Full) = refl
takes_compartment i b (event.Lives lives_ask.Claim lives_reply.Released) = refl
takes_compartment i b (event.Lives (lives_ask.Release e) r) = refl
takes_compartment i b (event.Join k e fuel) = joined_is (λ x. x.compartment ≡ b.compartment) (record b { fuel = b.fuel + fuel; unjoined = without_child b.unjoined k }) b.phase e refl refl
takes_compartment i b (event.Enter run) = entered_is (λ x. x.compartment ≡ b.compartment) b b.phase refl (λ x. refl)
takes_compartment i b (event.Gate id (gate_ask.Enter run first) (gate_reply.Entered memory)) = entered_is (λ x. x.compartment ≡ b.compartment) b b.phase refl (λ x. refl)
takes_compartment i b e = refl

pub rest_compartment : (i : Image) (a : ActorState) → (rest i a).compartment ≡ a.compartment
rest_compartment i a = by_running (is_running a.phase) refl
  where
    by_running : (t : Bool) → is_running a.phase ≡ t → (rest i a).compartment ≡ a.compartment
    by_running true e = (rests i a e).compartment
    by_running false e = ap (λ (x : ActorState). x.compartment) (rest-stays i a e)

pub ready_compartment : (actors : List ActorState) (a : ActorState) → (ready actors a).compartment ≡ a.compartment
ready_compartment actors a = ready_is (λ x. x.compartment ≡ a.compartment) actors a refl (λ k e fuel. refl)
