use Rattle.std.proofs.Common.{sym, subst, arith}
use Rattle.wedge_base.specs.Maps.{keys, AreRising}
use Rattle.grant_sheet.specs.NumberMap.{IsFound}
use Rattle.grant_sheet.proofs.Search.{at_found, at_gap, found_within}
use Rattle.grant_sheet.proofs.number_map.NumberMap.get.Goals as goal

-- the key is at its position
pub index-requires : goal.index-requires
index-requires g c =
    let found = subst (λ m. IsFound m c.args.key c.in-Ok.position) (sym c.self.view_is) c.in-Ok.ensures.found in
    omega (arith, found_within _ _ _ found)

-- the value there is the one that was read
pub returns-in-Ok : goal.returns-in-Ok
returns-in-Ok g c =
    let value = at_found c.args.self.now c.args.key c.in-Ok.position c.index.result.now c.in-Ok.ensures.found in
    cc (value, c.self.view_is, c.index.ensures)

-- the key is not there
pub returns-in-Err : goal.returns-in-Err
returns-in-Err g c =
    let rising = subst (λ m. AreRising 0 (keys m)) c.self.view_is c.self.invariant in
    sym (at_gap 0 c.args.self.now c.args.key c.in-Err.field-0 rising c.in-Err.ensures.absent)
