use Rattle.std.proofs.Common.{◌≡◌, ◌∙◌, ◌≤◌, ◌∷◌, [], ap, sym, subst, length, rules}
use Rattle.wedge_events.specs.Journals.{turns_of}
use Rattle.wedge_base.specs.Names.{root_name}
use Rattle.machine.specs.Worlds.{initial_state}
use Rattle.world_turns.specs.Progress.{Progress}
use Rattle.wedge_core.specs.Serial.{IsSerial, InSerialOrder}
use Rattle.run_laws.specs.CompleteRuns.{RootGoesOn}
use Rattle.wedge_core.proofs.LiveStack.{opening_serial}
use Rattle.world_turns.proofs.Numbering.{journaled_run}
use Rattle.wedge_core.proofs.SerialSteps.{whole_at_last}
use Rattle.wedge_core.proofs.serially.serial.Goals as goal

pub loop-world-init : goal.loop-world-init
loop-world-init c =
    let one : c.push.new.self.items ≡ record { name = root_name; index = 0 } ∷ [] = search rules in
    record {
      image = ap (λ (p : Progress). p.state.image) c.in_ok-world.ensures;
      serial = opening_serial c.args.image.now c.in_ok-world.world c.push.new.self.items c.in_ok-world.ensures one;
    }

pub take_turn-requires-clause-serial : goal.take_turn-requires-clause-serial
take_turn-requires-clause-serial c = subst (λ i. IsSerial i c.loop-world.world c.loop-world.live.items) (sym c.loop-world.invariant.image) c.loop-world.invariant.serial

pub loop-world-preserved : goal.loop-world-preserved
loop-world-preserved c =
    let image = c.in_ok-take_turn.ensures.image ∙ c.loop-world.invariant.image in
    record {
      image = image;
      serial = subst (λ i. IsSerial i c.take_turn.new.world c.take_turn.new.live.items) image c.in_ok-take_turn.ensures.serial;
    }

pub returns-clause-run : goal.returns-clause-run
returns-clause-run c =
    let s = c.loop-world.invariant.serial in
    let p = c.loop-world.world in
    let none : length c.loop-world.live.items ≤ 0 = search rules in
    let entries = c.into_entries.result.items in
    let goes_on : RootGoesOn (initial_state c.args.image.now) (turns_of entries) = subst (RootGoesOn (initial_state c.args.image.now)) (sym c.into_entries.ensures.turns) s.goes_on in
    rw c.new.ensures (journaled_run c.args.image.now p.state entries c.in_ok-outcome.outcome c.loop-world.invariant.image (c.into_entries.ensures.run s.going) (whole_at_last c.args.image.now p c.loop-world.live.items s none) goes_on c.in_ok-outcome.ensures)

pub returns-clause-order : goal.returns-clause-order
returns-clause-order c =
    let s = c.loop-world.invariant.serial in
    rw c.new.ensures (subst (InSerialOrder (initial_state c.args.image.now)) (sym c.into_entries.ensures.turns) s.order)
