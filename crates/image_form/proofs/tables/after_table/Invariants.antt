use Rattle.std.proofs.Common.{◌+◌, ◌≤◌, take}
use Rattle.std.specs.List.{AllByRecursion}
use Rattle.image_form.proofs.Measures.{Left}
use Rattle.image_form.proofs.tables.after_table.Given as goal

abbrev pub invariant-loop-entry : goal.invariant-loop-entry
invariant-loop-entry g l =
    let t = g.T.TableEntry in
    record {
      less : l.room + l.entry-index ≤ l.fn.room;
      left : Left t.encode t.fits l.entries l.fn.room l.room l.entry-index;
      each : AllByRecursion t.fits (take l.entry-index l.entries);
    }
