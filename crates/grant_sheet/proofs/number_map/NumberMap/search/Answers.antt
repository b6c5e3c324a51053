use Rattle.std.proofs.Common.{rules}
use Rattle.std.proofs.lemmas.List.Sorted.{answers_always}
use Rattle.grant_sheet.proofs.Search.{search_result}
use Rattle.grant_sheet.proofs.number_map.NumberMap.search.Goals as goal

-- the closure gives an entry's key, and the slice is the map's entries
pub returns : goal.returns
returns g c =
    let facts = c.binary_search_by_key.ensures in
    let by_key = facts.position (λ e. e.0) (answers_always _ _ _ (λ f a r g called. search rules)) in
    rw (← c.self.view_is, ← c.deref.ensures.value) (search_result c.deref.result.now c.args.key (rw c.deref.ensures.value c.self.invariant) _ facts.bound by_key)
