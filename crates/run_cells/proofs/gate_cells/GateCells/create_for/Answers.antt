use Rattle.std.proofs.Common.{rules, ◌≡◌, ◌+◌, ◌<◌, ◌≤◌, ◌++◌, [], get_or, length, arith}
use Rattle.std.specs.Arc.{arc_value}
use Rattle.callgate.specs.declared.gate.Gate.{Gate}
use Rattle.run_cells.specs.RecycledGates.{with_recycled}
use Rattle.run_cells.proofs.LookingAt.{looked_at}
use Rattle.run_cells.proofs.gate_cells.GateCells.create_for.Goals as goal

pub loop-self-preserved : goal.loop-self-preserved
loop-self-preserved g c =
    let old = c.loop-self.self in
    let new = c.look_at.new.self in
    let gates = c.args.gates.now in
    let one = c.index-gates-seen.result in
    let h = c.loop-self.invariant in
    let inside : old.seen < length gates = search rules in
    let is : one ≡ get_or gates old.seen one = search rules in
    let seen : new.seen ≡ old.seen + 1 = search rules in
    let added : new.gates ≡ old.gates ++ with_recycled (arc_value one).kind (arc_value one).id [] = search rules in
    (looked_at arc_value old new gates one h.0 inside is seen added, omega (arith, inside, seen), search rules)
