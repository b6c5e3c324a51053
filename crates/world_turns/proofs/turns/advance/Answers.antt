use Rattle.std.proofs.Common.{◌≡◌, false, rules}
use Rattle.world_turns.proofs.Advancing.{IsKept, kept_by, run_recorded}
use Rattle.world_turns.specs.Progress.{state_of}
use Rattle.wedge_events.specs.Journals.{turns_of}
use Rattle.world_turns.proofs.turns.advance.Goals as goal

pub advance_over-requires-clause-recorded : goal.advance_over-requires-clause-recorded
advance_over-requires-clause-recorded c =
    let w = c.world.inside in
    let going : w.stopped ≡ false = search rules in
    run_recorded (record { state = state_of w.program w.cells w.residents; turns = turns_of w.entries.items; stopped = w.stopped }) c.world.invariant.run going

pub invariant_of-world : goal.invariant_of-world
invariant_of-world c =
    let w = c.world.inside in
    let was : IsKept w.program w.cells w.residents w.entries.items w.stopped = record { numbered = c.world.invariant.numbered; run = c.world.invariant.run; family = c.world.invariant.family } in
    let going : w.stopped ≡ false = search rules in
    let says = c.in-Ok.ensures in
    let is = kept_by c.in-Ok.went w.program w.cells c.advance_over.new.cells w.residents c.advance_over.new.residents w.entries.items c.advance_over.new.entries.items c.args.name.now w.stopped
    was going says.took says.ended says.waits says.busy says.same in
    record { numbered = is.numbered; run = is.run; family = is.family }
