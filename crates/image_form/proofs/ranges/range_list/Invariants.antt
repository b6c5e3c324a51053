use Rattle.std.proofs.Common.{[]}
use Rattle.image_form.specs.Reading.{range_entry_at, entries_at}
use Rattle.image_form.proofs.Loop.{SoFar}
use Rattle.image_form.proofs.ranges.range_list.Given as goal

abbrev pub invariant-loop : goal.invariant-loop
invariant-loop l = SoFar (range_entry_at l.text.base l.text.count l.total) l.count l.counter l.before.ranges.items l.rest (entries_at (range_entry_at l.text.base l.text.count l.total) l.count [] l.bytes)
