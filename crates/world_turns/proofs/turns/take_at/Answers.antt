use Rattle.std.proofs.Common.{◌≡◌, ◌∙◌, ap, subst, rules}
use Rattle.std.specs.Prelude.{Some, slice_get, slice_set, option_map}
use Rattle.machine.specs.Actors.{whole}
use Rattle.machine.specs.Take.{takes, actor_begun}
use Rattle.world_turns.specs.Turning.{HasTaken}
use Rattle.world_turns.proofs.Indexing.{name_map_put_back}
use Rattle.world_cells.proofs.GateIndices.{get_at}
use Rattle.world_turns.proofs.turns.take_at.Goals as goal

there : (c : goal.In-Ok) → slice_get c.residents.inside.list.items c.args.index ≡ Some c.index_mut-resident.result.now
there c =
    let items = c.residents.inside.list.items in
    get_at items c.args.index c.index_mut-resident.result.now (rw c.residents.view_is c.requires.inside) c.index_mut-resident.ensures.value

name : (c : goal.In-Ok) → (whole c.take.new.actor c.take.new.memory).name ≡ c.index_mut-resident.result.now.name
name c = search rules

pub invariant_of-residents : goal.invariant_of-residents
invariant_of-residents c =
    let w = c.residents.inside in
    name_map_put_back w.by_name w.list.items c.args.index c.index_mut-resident.result.now (whole c.take.new.actor c.take.new.memory) (there c) (name c) c.residents.invariant

pub returns-in-Ok : goal.returns-in-Ok
returns-in-Ok c =
    let items = c.residents.inside.list.items in
    let index = c.args.index in
    let i = c.args.program.now in
    let e = c.args.event.now in
    let a = c.index_mut-resident.result.now in
    let new = whole c.take.new.actor c.take.new.memory in
    let old : whole c.resident.inside.actor c.resident.inside.memory ≡ a = c.resident.view_is in
    subst (λ as_. HasTaken i as_ index e (option_map (λ p. whole p.0 p.1) c.in-Ok.begun) (slice_set items index new)) c.residents.view_is
    (record {
      actor = a;
      there = there c;
      new_is = ap (slice_set items index) (c.in-Ok.ensures.takes ∙ ap (λ x. takes i x e) old);
      begins = c.in-Ok.ensures.begun ∙ ap (λ x. actor_begun i x e) old;
    })
