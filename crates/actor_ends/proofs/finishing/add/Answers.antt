use Rattle.std.proofs.Common.{rules, ◌≡◌, ◌++◌, sym, subst}
use Rattle.std.specs.Prelude.{All}
use Rattle.std.proofs.lemmas.List.Elements.{All-append}
use Rattle.thread_laws.specs.Replaying.{IsLegalHistory}
use Rattle.actor_ends.proofs.finishing.add.Goals as goal

pub returns-clause-legal : goal.returns-clause-legal
returns-clause-legal g c =
    let is : c.append-2.new.self.items ≡ c.args.all.now.gates.items ++ c.args.returned.gates.items = search rules in
    subst (All (IsLegalHistory g.I.RunOf.image)) (sym is) (All-append (IsLegalHistory g.I.RunOf.image) c.args.all.now.gates.items c.args.returned.gates.items c.requires.old c.requires.own)
