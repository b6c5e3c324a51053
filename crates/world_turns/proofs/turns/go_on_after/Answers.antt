use Rattle.std.proofs.Common.{◌≡◌, ◌≤◌, ◌∙◌, ap, sym, subst}
use Rattle.std.specs.Prelude.{Some, IsSomeAnd, slice_set}
use Rattle.machine.specs.declared.phase.Phase.TheVariants as phase
use Rattle.machine.specs.Actors.{ActorState, whole}
use Rattle.machine.specs.Children.{child_name, fuel_given}
use Rattle.machine.specs.Take.{has_joined}
use Rattle.machine.specs.Worlds.{actor_named, ended_with}
use Rattle.world_turns.specs.Progress.{IsFirstNamed}
use Rattle.world_turns.specs.Turning.{HasGoneOn}
use Rattle.world_turns.proofs.GoingOn.{waits_at, awaited_there, gone_back, back_given}
use Rattle.world_turns.proofs.Indexing.{name_map_put_back}
use Rattle.world_turns.proofs.Turning.{found_through}
use Rattle.world_turns.proofs.turns.go_on_after.Goals as goal

pub resume-requires-clause-waits : goal.resume-requires-clause-waits
resume-requires-clause-waits c =
    let items = c.residents.inside.list.items in
    let actors = c.args.residents.now in
    let index = c.args.index in
    let name = c.args.name.now in
    let a = c.index_mut-resident.result.now in
    let there : IsFirstNamed items name index a = found_through items actors name index a c.residents.view_is c.requires.there c.index_mut-resident.ensures.value in
    let f : IsFirstNamed actors name index a = subst (λ as_. IsFirstNamed as_ name index a) c.residents.view_is there in
    let at : a.phase ≡ phase.Waiting c.args.run = waits_at a.phase c.args.run (awaited_there actors index a (Some c.args.run) f.there c.requires.waits) in
    ap (λ (x : ActorState). x.phase) c.resident.view_is ∙ at

pub resume-requires-clause-back : goal.resume-requires-clause-back
resume-requires-clause-back c =
    let items = c.residents.inside.list.items in
    let actors = c.args.residents.now in
    let index = c.args.index in
    let name = c.args.name.now in
    let a = c.index_mut-resident.result.now in
    let there : IsFirstNamed items name index a = found_through items actors name index a c.residents.view_is c.requires.there c.index_mut-resident.ensures.value in
    let f : IsFirstNamed actors name index a = subst (λ as_. IsFirstNamed as_ name index a) c.residents.view_is there in
    let at : a.phase ≡ phase.Waiting c.args.run = waits_at a.phase c.args.run (awaited_there actors index a (Some c.args.run) f.there c.requires.waits) in
    let ends : ended_with (actor_named actors (child_name name c.args.run)) ≡ Some (c.in-Some.end, c.in-Some.fuel) = sym c.in_ok-end.ensures ∙ c.in-Some.is in
    subst (λ (x : ActorState). IsSomeAnd (fuel_given x.unjoined c.args.run) (λ g. c.in-Some.fuel ≤ g)) (sym c.resident.view_is)
    (back_given actors index name a c.args.run c.in-Some.end c.in-Some.fuel f c.requires.family at ends)

pub invariant_of-residents : goal.invariant_of-residents
invariant_of-residents c =
    let items = c.residents.inside.list.items in
    let actors = c.args.residents.now in
    let index = c.args.index in
    let name = c.args.name.now in
    let a = c.index_mut-resident.result.now in
    let there : IsFirstNamed items name index a = found_through items actors name index a c.residents.view_is c.requires.there c.index_mut-resident.ensures.value in
    let f : IsFirstNamed actors name index a = subst (λ as_. IsFirstNamed as_ name index a) c.residents.view_is there in
    let at : a.phase ≡ phase.Waiting c.args.run = waits_at a.phase c.args.run (awaited_there actors index a (Some c.args.run) f.there c.requires.waits) in
    let new = whole c.resume.new.actor c.resident.inside.memory in
    let own : new.name ≡ a.name = c.resume.ensures.name ∙ ap (λ (x : ActorState). x.name) c.resident.view_is in
    name_map_put_back c.residents.inside.by_name items index a new there.there own c.residents.invariant

pub returns-clause-goes : goal.returns-clause-goes
returns-clause-goes c = λ _.
    let items = c.residents.inside.list.items in
    let actors = c.args.residents.now in
    let index = c.args.index in
    let name = c.args.name.now in
    let a = c.index_mut-resident.result.now in
    let there : IsFirstNamed items name index a = found_through items actors name index a c.residents.view_is c.requires.there c.index_mut-resident.ensures.value in
    let f : IsFirstNamed actors name index a = subst (λ as_. IsFirstNamed as_ name index a) c.residents.view_is there in
    let at : a.phase ≡ phase.Waiting c.args.run = waits_at a.phase c.args.run (awaited_there actors index a (Some c.args.run) f.there c.requires.waits) in
    let ends : ended_with (actor_named actors (child_name name c.args.run)) ≡ Some (c.in-Some.end, c.in-Some.fuel) = sym c.in_ok-end.ensures ∙ c.in-Some.is in
    let new = whole c.resume.new.actor c.resident.inside.memory in
    let goes : new ≡ has_joined a c.args.run c.in-Some.end c.in-Some.fuel = c.resume.ensures.goes c.resident.inside.memory ∙ ap (λ x. has_joined x c.args.run c.in-Some.end c.in-Some.fuel) c.resident.view_is in
    subst (λ as_. HasGoneOn actors index name (slice_set as_ index new)) (sym c.residents.view_is)
    (gone_back actors index name a c.args.run c.in-Some.end c.in-Some.fuel new f at ends goes)
