use Rattle.std.proofs.Common.{subst}
use Rattle.world_turns.specs.Turning.{WantsOfFamily}
use Rattle.world_turns.proofs.FamilyTurns.{starting, entering}
use Rattle.world_turns.proofs.turns.do_family.Goals as goal

pub begin-requires : goal.begin-requires
begin-requires c =
    starting c.args.program.now c.args.cells.now c.args.residents.now c.args.index c.args.name.now c.in-Start.child (subst (WantsOfFamily c.args.program.now c.args.cells.now c.args.residents.now c.args.index c.args.name.now) c.in-Start.is c.requires)

pub begin-requires-in-Enter : goal.begin-requires-in-Enter
begin-requires-in-Enter c =
    entering c.args.program.now c.args.cells.now c.args.residents.now c.args.index c.args.name.now c.in-Enter.run' (subst (WantsOfFamily c.args.program.now c.args.cells.now c.args.residents.now c.args.index c.args.name.now) c.in-Enter.is c.requires)
