use Rattle.std.proofs.Common.{◌≡◌, ◌++◌, ◌∷◌, [], List, length, sym, subst, rules}
use Rattle.std.specs.Prelude.{None}
use Rattle.machine.specs.Actors.{ActorState}
use Rattle.machine.specs.Worlds.{actor_named}
use Rattle.world_turns.specs.Indices.{IsNameMap}
use Rattle.world_turns.proofs.Indexing.{name_map_push}
use Rattle.world_turns.proofs.residents.Residents.push.Goals as goal

pub invariant_of-self-2 : goal.invariant_of-self-2
invariant_of-self-2 c =
    let by_name = c.self.inside.by_name in
    let actors = c.self.inside.list.items in
    let child = c.args.child in
    let key = c.in_ok-parts.parts in
    let none : actor_named actors child.name ≡ None = subst (λ (as_ : List ActorState). actor_named as_ child.name ≡ None) (sym c.self.view_is) c.requires in
    let pushed : c.add_in_room.new.list.items ≡ actors ++ child ∷ [] = search rules in
    let named : key.items ≡ child.name = search rules in
    let at : c.len.result ≡ length actors = search rules in
    subst (λ (as_ : List ActorState). IsNameMap c.insert.new.self as_) (sym pushed)
    (name_map_push by_name c.insert.new.self key actors child c.len.result c.self.invariant none named at c.in_ok-insert.ensures.updates)
