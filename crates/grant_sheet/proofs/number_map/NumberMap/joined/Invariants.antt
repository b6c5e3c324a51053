use Rattle.std.proofs.Common.{◌≡◌, drop}
use Rattle.wedge_base.specs.Maps as maps
use Rattle.grant_sheet.proofs.number_map.NumberMap.joined.Given as goal

abbrev pub invariant-loop-key : goal.invariant-loop-key
invariant-loop-key g l = maps.map_union l.map (drop l.key-index l.entries) ≡ maps.map_union l.self l.entries
