use Rattle.std.proofs.Common.{◌≡◌}
use Rattle.unit_threads.proofs.ruled_cell_tests.enters_often.Given as goal

abbrev pub invariant-loop : goal.invariant-loop
invariant-loop g l = (l.pass.table ≡ l.initial.pass.table) × (l.pass.view.origin ≡ l.initial.pass.view.origin)
    × (l.pass.view.number ≡ l.initial.pass.view.number) × (l.pass.view.unjoined ≡ l.initial.pass.view.unjoined)
