use Rattle.grant_sheet.proofs.Keys.{gates_rising}
use Rattle.grant_sheet.proofs.granting.gates_of.Goals as goal

pub from_entries-requires : goal.from_entries-requires
from_entries-requires c =
    gates_rising c.args.sheet.now c.args.made.now c.loop-entry.gates.items c.args.entries.now c.loop-entry.entry-index c.loop-entry-test.false c.loop-entry.invariant c.requires
