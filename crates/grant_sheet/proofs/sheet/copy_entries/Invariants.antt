use Rattle.std.proofs.Common.{◌≡◌, ◌++◌, drop}
use Rattle.grant_sheet.proofs.sheet.copy_entries.Given as goal

abbrev pub invariant-loop-entry : goal.invariant-loop-entry
invariant-loop-entry l = l.entries.items ++ drop l.entry-index l.gates ≡ l.gates
