-- Who waits for the run of a gate: whoever entered one, and nobody else.

use Rattle.std.proofs.Common.{◌≡◌, ℕ, refl, sym, subst, ◌∙◌}
use Rattle.wedge_events.specs.declared.cells.GateReply.TheVariants as gate_reply
use Rattle.wedge_events.specs.declared.cells.GateAsk.TheVariants as gate_ask
use Rattle.wedge_events.specs.declared.events.Event.{Event}
use Rattle.wedge_events.specs.declared.events.Event.TheVariants as event
use Rattle.wedge_events.specs.declared.cells.DirectoryAsk.TheVariants as directory_ask
use Rattle.wedge_events.specs.declared.cells.DirectoryReply.TheVariants as directory_reply
use Rattle.wedge_events.specs.declared.cells.LivesAsk.TheVariants as lives_ask
use Rattle.wedge_events.specs.declared.cells.LivesReply.TheVariants as lives_reply
use Rattle.wedge_events.specs.declared.cells.SlotReply.TheVariants as slot_reply
use Rattle.machine.specs.declared.phase.Phase.{Phase}
use Rattle.machine.specs.declared.phase.Phase.TheVariants as phase
use Rattle.machine.specs.Between.{IsBetween}
use Rattle.machine.specs.Children.{Children}
use Rattle.run_laws.specs.FamilyTrees.{WaitsForOwn}
use Rattle.run_laws.proofs.Between.{Leaves, IsPreparing, MayPrepare, MayNumber}
use Rattle.run_laws.proofs.Families.{IsOfOne}

-- no run is waited for
abbrev pub IsAwake : Phase → Type 0
IsAwake p = (k : ℕ) → p ≡ phase.Waiting k → ⊥

pub waits_none : (p : Phase) (cs : Children) → IsAwake p → WaitsForOwn p cs
waits_none phase.Running cs h = tt
waits_none (phase.Within q) cs h = tt
waits_none (phase.Starting pre) cs h = tt
waits_none (phase.MakingGate pre) cs h = tt
waits_none (phase.Opening slot tag) cs h = tt
waits_none (phase.Releasing slot) cs h = tt
waits_none (phase.OpeningFile o) cs h = tt
waits_none (phase.Entering x) cs h = tt
waits_none (phase.Waiting k) cs h = absurd (h k refl)
waits_none (phase.Ending e) cs h = tt
waits_none (phase.Ended e) cs h = tt

-- a phase that is not a wait
between_awake : (p : Phase) → IsBetween p → IsAwake p
between_awake p h k is = subst IsBetween is h

-- an event of one actor leaves nobody who waits
pub leaves_awake : (e : Event) (p : Phase) → IsOfOne e → Leaves e p → IsAwake p
leaves_awake (event.Lives lives_ask.Claim lives_reply.Claimed) p one h k is = subst IsPreparing is h
leaves_awake (event.Lives lives_ask.Claim lives_reply.Full) p one h k is = between_awake p h k is
leaves_awake (event.Lives lives_ask.Claim lives_reply.Released) p one h k is = between_awake p h k is
leaves_awake (event.Lives (lives_ask.Release x) r) p one h k is = between_awake p h k is
leaves_awake (event.Slots directory_ask.Claim (directory_reply.Claimed slot tag)) p one h k is = let f : phase.Opening slot tag ≡ phase.Waiting k = sym h ∙ is in absurd cc
leaves_awake (event.Slots directory_ask.Claim directory_reply.Full) p one h k is = between_awake p h k is
leaves_awake (event.Slots directory_ask.Claim directory_reply.Released) p one h k is = between_awake p h k is
leaves_awake (event.Slots (directory_ask.Release slot) r) p one h k is = between_awake p h k is
leaves_awake (event.Fds directory_ask.Claim (directory_reply.Claimed fd number)) p one h k is = subst (MayNumber fd) is h
leaves_awake (event.Fds directory_ask.Claim directory_reply.Full) p one h k is = between_awake p h k is
leaves_awake (event.Fds directory_ask.Claim directory_reply.Released) p one h k is = between_awake p h k is
leaves_awake (event.Fds (directory_ask.Release place) r) p one h k is = between_awake p h k is
leaves_awake (event.Slot slot q slot_reply.Closed) p one h k is = let f : phase.Releasing slot ≡ phase.Waiting k = sym h ∙ is in absurd cc
leaves_awake (event.Slot slot q (slot_reply.Snapped pages)) p one h k is = subst MayPrepare is h
leaves_awake (event.Slot slot q slot_reply.Gone) p one h k is = subst MayPrepare is h
leaves_awake (event.Slot slot q r) p one h k is = between_awake p h k is
leaves_awake (event.Enter run) p one h k is = absurd one
leaves_awake (event.Gate id (gate_ask.Enter run first) (gate_reply.Entered memory)) p one h k is = absurd one
leaves_awake e p one h k is = between_awake p h k is
