use Rattle.std.proofs.Common.{◌∙◌, sym}
use Rattle.world_turns.proofs.FamilyTurns.{joining_alone}
use Rattle.world_turns.proofs.turns.join.Goals as goal

pub go_alone-requires : goal.go_alone-requires
go_alone-requires c = joining_alone c.args.program.now c.args.residents.now c.args.index c.args.name.now c.args.child c.in-Some.end c.in-Some.fuel c.requires (sym c.in_ok-end.ensures ∙ c.in-Some.is)
