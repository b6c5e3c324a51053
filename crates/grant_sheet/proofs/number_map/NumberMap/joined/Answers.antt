use Rattle.std.proofs.Common.{sym, ap, ◌∙◌}
use Rattle.std.proofs.lemmas.List.{drop_all}
use Rattle.wedge_base.specs.Maps.{at, map_union}
use Rattle.grant_sheet.proofs.Joined.{at_joined}
use Rattle.grant_sheet.proofs.number_map.NumberMap.joined.Goals as goal

-- the map is the two joined, and has their values
pub returns-clause-values : goal.returns-clause-values
returns-clause-values g c k =
    let past = ap (λ l. map_union c.loop-key.map l) (drop_all c.loop-key.key-index c.as_slice-entries.result.now c.loop-key-test.false) in
    let is = sym past ∙ c.loop-key.invariant ∙ ap (λ l. map_union c.args.self.now l) c.as_slice-entries.ensures.entries in
    ap (λ m. at m k) is ∙ at_joined c.args.self.now c.args.other.now k
