use Rattle.std.proofs.Common.{◌≡◌, ◌++◌, drop, filter_map}
use Rattle.wedge_base.specs.Maps.{keys}
use Rattle.wedge_base.specs.Sheets.{gate_granted}
use Rattle.grant_sheet.proofs.granting.gates_of.Given as goal

abbrev pub invariant-loop-entry : goal.invariant-loop-entry
invariant-loop-entry l = l.gates.items ++ filter_map (gate_granted l.sheet l.made) (keys (drop l.entry-index l.entries)) ≡ filter_map (gate_granted l.sheet l.made) (keys l.entries)
