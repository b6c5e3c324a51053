use Rattle.std.proofs.Common.{length, sym, ap, subst, ◌∙◌, is_some, arith}
use Rattle.wedge_base.specs.Maps.{keys, AreRising, length_with}
use Rattle.grant_sheet.specs.NumberMap.{IsFound, IsGap}
use Rattle.grant_sheet.proofs.Search.{at_gap, found_within, gap_within, with_found, with_gap, found_rising, gap_rising, length_found, length_gap}
use Rattle.grant_sheet.proofs.number_map.NumberMap.insert.Goals as goal

-- the key is at its position, and its entry is written over
pub index_mut-requires : goal.index_mut-requires
index_mut-requires g c =
    let found = subst (λ m. IsFound m c.args.key c.in-Ok.position) (sym c.self.view_is) c.in-Ok.ensures.found in
    omega (arith, found_within _ _ _ found)

pub invariant_of-self : goal.invariant_of-self
invariant_of-self g c =
    let found = subst (λ m. IsFound m c.args.key c.in-Ok.position) (sym c.self.view_is) c.in-Ok.ensures.found in
    found_rising 0 c.self.inside.entries.items c.args.key c.in-Ok.position c.args.value c.self.invariant found

pub returns-in-Ok-clause-ok : goal.returns-in-Ok-clause-ok
returns-in-Ok-clause-ok g c =
    let put = with_found c.args.self.now c.args.key c.in-Ok.position c.args.value c.in-Ok.ensures.found in
    cc (put, c.self.view_is)

-- the entry is added at its position
pub insert-requires : goal.insert-requires
insert-requires g c =
    let gap = subst (λ m. IsGap m c.args.key c.in-Err.position) (sym c.self.view_is) c.in-Err.ensures.absent in
    omega (arith, gap_within _ _ _ gap)

pub invariant_of-self-in-Err : goal.invariant_of-self-in-Err
invariant_of-self-in-Err g c =
    let gap = subst (λ m. IsGap m c.args.key c.in-Err.position) (sym c.self.view_is) c.in-Err.ensures.absent in
    subst (λ m. AreRising 0 (keys m)) (sym c.in_ok-insert-in-Err.ensures.items)
    (gap_rising 0 c.self.inside.entries.items c.args.key c.in-Err.position c.args.value (omega arith) c.self.invariant gap)

pub returns-in_ok-insert-in-Err-clause-ok : goal.returns-in_ok-insert-in-Err-clause-ok
returns-in_ok-insert-in-Err-clause-ok g c =
    let put = with_gap c.args.self.now c.args.key c.in-Err.position c.args.value c.in-Err.ensures.absent in
    cc (put, c.self.view_is, c.in_ok-insert-in-Err.ensures.items)

-- a key that was there takes no memory
pub returns-in_err-insert-in-Err-clause-replaced : goal.returns-in_err-insert-in-Err-clause-replaced
returns-in_err-insert-in-Err-clause-replaced g c there =
    let rising = subst (λ m. AreRising 0 (keys m)) c.self.view_is c.self.invariant in
    let absent = at_gap 0 c.args.self.now c.args.key c.in-Err.position rising c.in-Err.ensures.absent in
    absurd (cc (ap is_some absent, there))

-- a new key makes one entry more
pub returns-in-Ok-clause-len : goal.returns-in-Ok-clause-len
returns-in-Ok-clause-len g c =
    let found = subst (λ m. IsFound m c.args.key c.in-Ok.position) (sym c.self.view_is) c.in-Ok.ensures.found in
    length_found c.self.inside.entries.items c.args.key c.in-Ok.position c.args.value found
    ∙ ap (λ m. length_with m c.args.key) c.self.view_is

pub returns-in_ok-insert-in-Err-clause-len : goal.returns-in_ok-insert-in-Err-clause-len
returns-in_ok-insert-in-Err-clause-len g c =
    let gap = subst (λ m. IsGap m c.args.key c.in-Err.position) (sym c.self.view_is) c.in-Err.ensures.absent in
    ap length c.in_ok-insert-in-Err.ensures.items
    ∙ length_gap c.self.inside.entries.items c.args.key c.in-Err.position c.args.value c.self.invariant gap
    ∙ ap (λ m. length_with m c.args.key) c.self.view_is
