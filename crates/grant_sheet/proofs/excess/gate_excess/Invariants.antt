use Rattle.std.proofs.Common.{◌≡◌, drop, map}
use Rattle.wedge_base.specs.Maps.{keys}
use Rattle.wedge_base.specs.Sheets.{item_excess}
use Rattle.wedge_base.specs.declared.grants.Item.TheVariants as item
use Rattle.grant_sheet.proofs.excess.gate_excess.Given as goal

abbrev pub invariant-loop-entry : goal.invariant-loop-entry
invariant-loop-entry l = item_excess l.sheet l.made (map item.Gate (keys (drop l.entry-index l.entries))) ≡ item_excess l.sheet l.made (map item.Gate (keys l.entries))
