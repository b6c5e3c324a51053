use Rattle.std.proofs.Common.{◌≡◌, ◌∙◌, sym, ap, subst}
use Rattle.std.specs.Prelude.{Some, Option, IfSome, slice_set}
use Rattle.wedge_events.specs.declared.events.Want.{Want}
use Rattle.machine.specs.Actors.{ActorState}
use Rattle.machine.specs.Local.{rest}
use Rattle.machine.specs.Take.{current_want}
use Rattle.machine.proofs.Resting.{rest-name}
use Rattle.world_turns.specs.Turning.{IsOfCell, IsEventDone, IsLeft, WantsOfFamily, IsDoneAt, FindsBusy, WasTaken, HasWaited, HasMetBusy}
use Rattle.world_turns.specs.declared.turns.Went.TheVariants as went
use Rattle.world_turns.proofs.FamilyTurns.{if_ok, if_both, if_none, if_some, wants_of_family, waited, met_busy, family_taken, cell_taken}
use Rattle.world_turns.proofs.GoingOn.{reads_awake}
use Rattle.world_turns.proofs.Indexing.{name_map_put_back}
use Rattle.world_turns.proofs.turns.advance_awake.Goals as goal

pub invariant_of-residents-in-Ok-None : goal.invariant_of-residents-in-Ok-None
invariant_of-residents-in-Ok-None c =
    let items = c.residents.inside.list.items in
    let index = c.args.index in
    let name = c.args.name.now in
    let a = c.index_mut-resident.result.now in
    let i = c.args.program.now in
    let new = c.advance_one.new.resident in
    let h = reads_awake c.args.cells.now items c.args.residents.now index name a c.residents.view_is c.requires c.index_mut-resident.ensures.value in
    let made : (q : Want) × (current_want (rest i a) ≡ Some q) × IsOfCell q × IsEventDone i c.args.cells.now (rest i a) q c.args.entries.now.items name c.advance_one.new.cells new c.advance_one.new.entries.items =
    if_none c.in-Ok-None.field-0 c.in-Ok-None.field-0-is c.in-Ok-None.ensures.made in
    name_map_put_back c.residents.inside.by_name items index a new h.found.there (made.3.name_stays ∙ rest-name i a) c.residents.invariant

pub returns-in-Ok-None-clause-took : goal.returns-in-Ok-None-clause-took
returns-in-Ok-None-clause-took c = λ _.
    let items = c.residents.inside.list.items in
    let index = c.args.index in
    let name = c.args.name.now in
    let a = c.index_mut-resident.result.now in
    let i = c.args.program.now in
    let new = c.advance_one.new.resident in
    let h = reads_awake c.args.cells.now items c.args.residents.now index name a c.residents.view_is c.requires c.index_mut-resident.ensures.value in
    let made : (q : Want) × (current_want (rest i a) ≡ Some q) × IsOfCell q × IsEventDone i c.args.cells.now (rest i a) q c.args.entries.now.items name c.advance_one.new.cells new c.advance_one.new.entries.items =
    if_none c.in-Ok-None.field-0 c.in-Ok-None.field-0-is c.in-Ok-None.ensures.made in
    let taken = cell_taken i c.args.cells.now c.advance_one.new.cells items index name a new made.0 c.args.entries.now.items c.advance_one.new.entries.items h.found h.awake made.1 made.2 made.3 in
    subst (λ as_. WasTaken i c.args.cells.now as_ c.args.entries.now.items name c.advance_one.new.cells (slice_set items index new) c.advance_one.new.entries.items) c.residents.view_is taken

pub invariant_of-residents-in-Ok-Some : goal.invariant_of-residents-in-Ok-Some
invariant_of-residents-in-Ok-Some c =
    let items = c.residents.inside.list.items in
    let index = c.args.index in
    let name = c.args.name.now in
    let a = c.index_mut-resident.result.now in
    let i = c.args.program.now in
    let new = c.advance_one.new.resident in
    let h = reads_awake c.args.cells.now items c.args.residents.now index name a c.residents.view_is c.requires c.index_mut-resident.ensures.value in
    let q = c.in-Ok-Some.want in
    let left : IsLeft i a q new = subst (λ (o : Option Want). IfSome o (λ x. IsLeft i a x new)) c.in-Ok-Some.field-0-is c.in-Ok-Some.ensures.left in
    name_map_put_back c.residents.inside.by_name items index a new h.found.there (ap (λ (x : ActorState). x.name) left.rests ∙ rest-name i a) c.residents.invariant

pub do_family-requires : goal.do_family-requires
do_family-requires c =
    let items = c.residents.inside.list.items in
    let index = c.args.index in
    let name = c.args.name.now in
    let a = c.index_mut-resident.result.now in
    let i = c.args.program.now in
    let new = c.advance_one.new.resident in
    let h = reads_awake c.args.cells.now items c.args.residents.now index name a c.residents.view_is c.requires c.index_mut-resident.ensures.value in
    let q = c.in-Ok-Some.want in
    let left : IsLeft i a q new = subst (λ (o : Option Want). IfSome o (λ x. IsLeft i a x new)) c.in-Ok-Some.field-0-is c.in-Ok-Some.ensures.left in
    let same : (c.advance_one.new.cells ≡ c.args.cells.now) × (c.advance_one.new.entries.items ≡ c.args.entries.now.items) = if_some c.in-Ok-Some.field-0 q c.in-Ok-Some.field-0-is c.in-Ok-Some.ensures.same in
    subst (WantsOfFamily i c.advance_one.new.cells (slice_set items index new) index name) (sym c.in-Ok-Some.want-is)
    (subst (λ x. WantsOfFamily i x (slice_set items index new) index name q) (sym same.0) (wants_of_family i c.args.cells.now items index name a q new h.found h.lives h.awake h.family h.recorded left))

pub returns-in-Ok-Some-clause-took : goal.returns-in-Ok-Some-clause-took
returns-in-Ok-Some-clause-took c =
    let items = c.residents.inside.list.items in
    let index = c.args.index in
    let name = c.args.name.now in
    let a = c.index_mut-resident.result.now in
    let i = c.args.program.now in
    let new = c.advance_one.new.resident in
    let h = reads_awake c.args.cells.now items c.args.residents.now index name a c.residents.view_is c.requires c.index_mut-resident.ensures.value in
    let q = c.in-Ok-Some.want in
    let left : IsLeft i a q new = subst (λ (o : Option Want). IfSome o (λ x. IsLeft i a x new)) c.in-Ok-Some.field-0-is c.in-Ok-Some.ensures.left in
    let same : (c.advance_one.new.cells ≡ c.args.cells.now) × (c.advance_one.new.entries.items ≡ c.args.entries.now.items) = if_some c.in-Ok-Some.field-0 q c.in-Ok-Some.field-0-is c.in-Ok-Some.ensures.same in
    if_ok c.do_family.result (λ r done took. subst
    (λ as_. WasTaken i c.args.cells.now as_ c.args.entries.now.items name c.do_family.new.cells c.do_family.new.residents c.do_family.new.entries.items) c.residents.view_is
    (family_taken i c.args.cells.now c.advance_one.new.cells c.do_family.new.cells items c.do_family.new.residents index name a q new c.args.entries.now.items c.advance_one.new.entries.items c.do_family.new.entries.items
    h.found h.awake left (subst (λ x. IsDoneAt i c.advance_one.new.cells (slice_set items index new) index x c.advance_one.new.entries.items name c.do_family.new.cells c.do_family.new.residents c.do_family.new.entries.items) c.in-Ok-Some.want-is (done took)) same.0 same.1)) c.do_family.ensures.took

pub returns-in-Ok-Some-clause-waits : goal.returns-in-Ok-Some-clause-waits
returns-in-Ok-Some-clause-waits c =
    let items = c.residents.inside.list.items in
    let index = c.args.index in
    let name = c.args.name.now in
    let a = c.index_mut-resident.result.now in
    let i = c.args.program.now in
    let new = c.advance_one.new.resident in
    let h = reads_awake c.args.cells.now items c.args.residents.now index name a c.residents.view_is c.requires c.index_mut-resident.ensures.value in
    let q = c.in-Ok-Some.want in
    let left : IsLeft i a q new = subst (λ (o : Option Want). IfSome o (λ x. IsLeft i a x new)) c.in-Ok-Some.field-0-is c.in-Ok-Some.ensures.left in
    let same : (c.advance_one.new.cells ≡ c.args.cells.now) × (c.advance_one.new.entries.items ≡ c.args.entries.now.items) = if_some c.in-Ok-Some.field-0 q c.in-Ok-Some.field-0-is c.in-Ok-Some.ensures.same in
    if_both c.do_family.result (λ r waits stays is. let w = waits is in let u = stays (λ took. let f : went.Waits ≡ went.Took = sym is ∙ took in cc) in subst
    (λ as_. HasWaited i c.args.cells.now as_ name c.do_family.new.cells c.do_family.new.residents) c.residents.view_is
    (waited i c.args.cells.now c.do_family.new.cells items c.do_family.new.residents index name a q new h.found h.awake left w.0 (sym c.in-Ok-Some.want-is ∙ w.1) w.2 u.1 (u.0 ∙ same.0))) c.do_family.ensures.waits c.do_family.ensures.same

pub returns-in-Ok-Some-clause-busy : goal.returns-in-Ok-Some-clause-busy
returns-in-Ok-Some-clause-busy c =
    let items = c.residents.inside.list.items in
    let index = c.args.index in
    let name = c.args.name.now in
    let a = c.index_mut-resident.result.now in
    let i = c.args.program.now in
    let new = c.advance_one.new.resident in
    let h = reads_awake c.args.cells.now items c.args.residents.now index name a c.residents.view_is c.requires c.index_mut-resident.ensures.value in
    let q = c.in-Ok-Some.want in
    let left : IsLeft i a q new = subst (λ (o : Option Want). IfSome o (λ x. IsLeft i a x new)) c.in-Ok-Some.field-0-is c.in-Ok-Some.ensures.left in
    let same : (c.advance_one.new.cells ≡ c.args.cells.now) × (c.advance_one.new.entries.items ≡ c.args.entries.now.items) = if_some c.in-Ok-Some.field-0 q c.in-Ok-Some.field-0-is c.in-Ok-Some.ensures.same in
    if_both c.do_family.result (λ r busy stays is. let u = stays (λ took. let f : went.Busy ≡ went.Took = sym is ∙ took in cc) in subst
    (λ as_. HasMetBusy i c.args.cells.now as_ name c.do_family.new.cells c.do_family.new.residents) c.residents.view_is
    (met_busy i c.args.cells.now c.do_family.new.cells items c.do_family.new.residents index name a q new h.found h.awake left (subst (λ x. FindsBusy x q) same.0 (subst (FindsBusy c.advance_one.new.cells) c.in-Ok-Some.want-is (busy is))) u.1 (u.0 ∙ same.0)))
    c.do_family.ensures.busy c.do_family.ensures.same
