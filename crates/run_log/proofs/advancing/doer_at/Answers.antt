use Rattle.std.proofs.Common.{◌≡◌, ◌∙◌, sym, ap, subst}
use Rattle.std.specs.Prelude.{Option, Some, IfSome, slice_get}
use Rattle.machine.specs.Actors.{ActorState}
use Rattle.run_notes.specs.Doers.{doer_of}
use Rattle.world_turns.proofs.FamilyTurns.{if_ok}
use Rattle.world_cells.proofs.GateIndices.{get_at}
use Rattle.run_log.proofs.advancing.doer_at.Goals as goal

pub returns : goal.returns
returns c =
    let a : ActorState = c.index-actors-index.result in
    let there : slice_get c.args.actors.now c.args.index ≡ Some a = get_at c.args.actors.now c.args.index a c.requires c.index-actors-index.is in
    if_ok c.of.result (λ d is. subst (λ (o : Option ActorState). IfSome o (λ x. d ≡ doer_of x)) (sym there) (is c.resident.inside.memory ∙ ap doer_of c.resident.view_is)) c.of.ensures
