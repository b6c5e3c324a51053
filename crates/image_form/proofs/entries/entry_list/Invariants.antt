use Rattle.std.proofs.Common.{◌≡◌, [], length}
use Rattle.image_form.specs.Reading.{entries_at}
use Rattle.image_form.proofs.Loop.{SoFar}
use Rattle.image_form.proofs.entries.entry_list.Given as goal

abbrev pub invariant-loop : goal.invariant-loop
invariant-loop g l =
    let entry = g.T.ReadEntry.entry_at l.total in
    record {
      long : length l.entries.items ≡ l.counter;
      so_far : SoFar entry l.count l.counter l.entries.items l.rest (entries_at entry l.count [] l.bytes);
    }
