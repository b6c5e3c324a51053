use Rattle.std.proofs.Common.{◌≡◌, ℕ, List, ap, sym, subst, ◌∙◌, rules}
use Rattle.std.specs.Prelude.{Option, None, IfSome, IfNone}
use Rattle.machine.specs.Actors.{ActorState}
use Rattle.machine.specs.Children.{child_name}
use Rattle.machine.specs.Worlds.{actor_named}
use Rattle.world_turns.specs.Progress.{IsIndexOf}
use Rattle.world_turns.specs.Indices.{index_in, index_by}
use Rattle.world_turns.proofs.Indexing.{index_found, index_none}
use Rattle.world_turns.proofs.residents.Residents.index_of_child.Goals as goal

index : (c : goal.After-drop-parts-2) → c.copied.result ≡ index_in c.args.self.now (child_name c.args.name.now c.args.k)
index c =
    let name : c.as_slice.result.now ≡ child_name c.args.name.now c.args.k = search rules in
    c.copied.ensures ∙ c.get.ensures.value ∙ ap (index_by c.self.inside.by_name) name ∙ c.self.invariant (child_name c.args.name.now c.args.k)
    ∙ ap (λ (actors : List ActorState). index_in actors (child_name c.args.name.now c.args.k)) c.self.view_is

pub returns-clause-found : goal.returns-clause-found
returns-clause-found c =
    let name = child_name c.args.name.now c.args.k in
    subst (λ (o : Option ℕ). IfSome o (IsIndexOf c.args.self.now name)) (sym (index c)) (index_found c.args.self.now name)

pub returns-clause-unknown : goal.returns-clause-unknown
returns-clause-unknown c =
    let name = child_name c.args.name.now c.args.k in
    subst (λ (o : Option ℕ). IfNone o (actor_named c.args.self.now name ≡ None)) (sym (index c)) (index_none c.args.self.now name)
