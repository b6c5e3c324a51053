use Rattle.std.proofs.Common.{◌≡◌, ◌∙◌, ◌-◌, ◌<◌, length, take, sym, ap, subst, rules}
use Rattle.wedge_events.specs.Journals.{turns_of}
use Rattle.world_turns.specs.Progress.{Progress}
use Rattle.world_turns.proofs.Advancing.{IsKept}
use Rattle.run_log.proofs.TakenBack.{IsBack, taken_back}
use Rattle.run_log.proofs.advancing.take_back.Goals as goal

back : (c : goal.After-world-1) → IsBack c.world.inside.program c.world.inside.cells c.world.inside.residents c.world.inside.entries.items c.pop.new.self.items
back c =
    let w = c.world.inside in
    let was : IsKept w.program w.cells w.residents w.entries.items w.stopped = record { numbered = c.world.invariant.numbered; run = c.world.invariant.run; family = c.world.invariant.family } in
    let some : 0 < length (turns_of w.entries.items) = subst (λ (p : Progress). 0 < length p.turns) (sym c.world.view_is) c.requires in
    let is : c.pop.new.self.items ≡ take (length w.entries.items - 1) w.entries.items = search rules in
    taken_back w.program w.cells w.residents w.entries.items c.pop.new.self.items w.stopped was some is

pub invariant_of-world : goal.invariant_of-world
invariant_of-world c = (let k = (back c).kept in record { numbered = k.numbered; run = k.run; family = k.family })

pub returns-clause-turns : goal.returns-clause-turns
returns-clause-turns c = λ before t noted. (back c).turns before t (ap (λ (p : Progress). p.turns) c.world.view_is ∙ noted)
