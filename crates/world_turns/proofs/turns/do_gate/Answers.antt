use Rattle.std.proofs.Common.{subst}
use Rattle.wedge_events.specs.declared.events.Want.TheVariants as want
use Rattle.world_turns.specs.Turning.{WantsOfFamily}
use Rattle.world_turns.proofs.FamilyTurns.{entering_gate}
use Rattle.world_turns.proofs.turns.do_gate.Goals as goal

pub begin-requires : goal.begin-requires
begin-requires c =
    let wants = subst (λ q. WantsOfFamily c.args.program.now c.args.cells.now c.args.residents.now c.args.index c.args.name.now (want.Gate c.args.gate q)) c.in-Enter.is c.requires in
    entering_gate c.args.program.now c.args.cells.now c.args.residents.now c.args.index c.args.name.now c.in-Enter.run' c.args.gate c.in-Enter.memory c.in_ok-event-in-Enter.event wants c.in_ok-event-in-Enter.ensures.is
