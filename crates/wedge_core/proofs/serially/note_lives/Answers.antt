use Rattle.std.proofs.Common.{◌≡◌, ◌∙◌, ◌≤◌, true, false, true≢false, length, sym, refl, rules, arith}
use Rattle.std.specs.Prelude.{Some, IsSome, slice_get}
use Rattle.machine.specs.Local.{has_ended}
use Rattle.world_cells.proofs.GateIndices.{get_at}
use Rattle.wedge_core.proofs.SerialSteps.{popped_one, ends_as}
use Rattle.wedge_core.proofs.serially.note_lives.Goals as goal

pub returns-then-has_ended : goal.returns-then-has_ended
returns-then-has_ended c =
    let actors = c.args.world.now.state.actors in
    let x = c.index-actors-index.result in
    let few : length actors ≤ c.args.count = search rules in
    let at : slice_get actors c.args.index ≡ Some x = get_at actors c.args.index x c.requires.inside (search rules) in
    let ended : has_ended x.phase ≡ true = search rules in
    let some : IsSome c.pop.result = search rules in
    record {
      begun = λ more. absurd (omega (arith, more, few));
      ended = λ less a there e. popped_one c.pop.result c.args.live.now.items c.pop.new.self.items c.pop.ensures.items some;
      goes_on = λ less a there e. absurd (true≢false (sym ended ∙ (sym (ends_as actors c.args.index a x there at) ∙ e)));
    }

pub returns-else-has_ended : goal.returns-else-has_ended
returns-else-has_ended c =
    let actors = c.args.world.now.state.actors in
    let x = c.index-actors-index.result in
    let few : length actors ≤ c.args.count = search rules in
    let at : slice_get actors c.args.index ≡ Some x = get_at actors c.args.index x c.requires.inside (search rules) in
    let lives : has_ended x.phase ≡ false = search rules in
    record {
      begun = λ more. absurd (omega (arith, more, few));
      ended = λ less a there e. absurd (true≢false (sym e ∙ (ends_as actors c.args.index a x there at ∙ lives)));
      goes_on = λ less a there e. refl;
    }
