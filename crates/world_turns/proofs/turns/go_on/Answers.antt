use Rattle.std.proofs.Common.{◌≡◌, ◌∙◌, sym, subst}
use Rattle.std.specs.Prelude.{ℕ, Option, None, IfSome, slice_get}
use Rattle.machine.specs.Local.{run_awaited}
use Rattle.world_turns.proofs.GoingOn.{awaited_there, stays_awake}
use Rattle.world_turns.proofs.turns.go_on.Goals as goal

pub returns-in-None-clause-goes : goal.returns-in-None-clause-goes
returns-in-None-clause-goes c = λ _.
    let at = c.requires.there in
    let none : None ≡ run_awaited at.0.phase = sym c.in-None.is ∙ awaited_there c.args.residents.now c.args.index at.0 c.run_awaited.result at.1.there c.run_awaited.ensures in
    stays_awake c.args.residents.now c.args.index c.args.name.now at.0 at.1 (sym none)

pub go_on_after-requires-clause-waits : goal.go_on_after-requires-clause-waits
go_on_after-requires-clause-waits c =
    subst (λ (o : Option ℕ). IfSome (slice_get c.args.residents.now c.args.index) (λ a. o ≡ run_awaited a.phase)) c.in-Some.is c.run_awaited.ensures
