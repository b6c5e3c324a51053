use Rattle.std.proofs.Common.{◌≡◌, ◌∙◌, ◌<◌, ◌≤◌, ◌+◌, ◌-◌, ◌++◌, ◌∷◌, [], length, ap, sym, rules, arith}
use Rattle.std.specs.Prelude.{None}
use Rattle.wedge_events.specs.Streams.{most_fds}
use Rattle.machine.specs.Cells.{nothings}
use Rattle.world_cells.proofs.CellIndices.{nothings_push, nothings_none}
use Rattle.world_cells.proofs.cells.opening_streams.Goals as goal

pub loop-streams-preserved : goal.loop-streams-preserved
loop-streams-preserved c =
    let xs = c.loop-streams.streams.items in
    let new = c.push.new.self.items in
    let lt : length xs < most_fds = search rules in
    let pushed : new ≡ xs ++ None ∷ [] = search rules in
    let len : length new ≡ length xs + 1 = search rules in
    record {
      few = omega (arith, lt, len);
      are = ap (λ ys. ys ++ nothings (most_fds - length new)) pushed ∙ ap (λ k. (xs ++ None ∷ []) ++ nothings (most_fds - k)) len ∙ nothings_push xs most_fds lt ∙ c.loop-streams.invariant.are;
    }

pub returns-clause-is : goal.returns-clause-is
returns-clause-is c =
    let ge : most_fds ≤ length c.loop-streams.streams.items = search rules in
    sym (nothings_none c.loop-streams.streams.items most_fds ge) ∙ c.loop-streams.invariant.are
