use Rattle.std.proofs.Common.{◌≡◌, ℕ, List, ap, sym, subst, ◌∙◌}
use Rattle.std.specs.Prelude.{Option, None, IfSome, IfNone}
use Rattle.machine.specs.Actors.{ActorState}
use Rattle.machine.specs.Worlds.{actor_named}
use Rattle.world_turns.specs.Progress.{IsIndexOf}
use Rattle.world_turns.specs.Indices.{index_in, index_by}
use Rattle.world_turns.proofs.Indexing.{index_found, index_none}
use Rattle.world_turns.proofs.residents.Residents.index_of.Goals as goal

index : (c : goal.After-copied) → c.copied.result ≡ index_in c.args.self.now c.args.name.now
index c =
    c.copied.ensures ∙ c.get.ensures.value ∙ ap (index_by c.self.inside.by_name) c.parts.ensures.is ∙ c.self.invariant c.args.name.now
    ∙ ap (λ (actors : List ActorState). index_in actors c.args.name.now) c.self.view_is

pub returns-clause-found : goal.returns-clause-found
returns-clause-found c = subst (λ (o : Option ℕ). IfSome o (IsIndexOf c.args.self.now c.args.name.now)) (sym (index c)) (index_found c.args.self.now c.args.name.now)

pub returns-clause-unknown : goal.returns-clause-unknown
returns-clause-unknown c = subst (λ (o : Option ℕ). IfNone o (actor_named c.args.self.now c.args.name.now ≡ None)) (sym (index c)) (index_none c.args.self.now c.args.name.now)
