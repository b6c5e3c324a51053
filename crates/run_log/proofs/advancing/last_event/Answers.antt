use Rattle.std.proofs.Common.{◌≡◌, ◌+◌, ◌-◌, ◌<◌, length, ap, sym, subst, ◌∙◌, rules, arith}
use Rattle.std.proofs.lemmas.List.{length-map}
use Rattle.wedge_events.specs.Journals.{turns_of}
use Rattle.wedge_events.specs.declared.events.LogEntry.{LogEntry}
use Rattle.world_turns.specs.Progress.{Progress}
use Rattle.world_turns.proofs.Advancing.{last_is}
use Rattle.run_log.proofs.advancing.last_event.Goals as goal

pub returns : goal.returns
returns c =
    let es = c.world.inside.entries.items in
    let count : c.len.result ≡ length es = search rules in
    let same : length (turns_of es) ≡ length es = length-map es (λ (x : LogEntry). record { actor = x.actor; event = x.event }) in
    let some : 0 < length (turns_of es) = subst (λ (p : Progress). 0 < length p.turns) (sym c.world.view_is) c.requires in
    let len : (c.len.result - 1) + 1 ≡ length es = omega (arith, count, same, some) in
    λ before t noted. last_is es (c.len.result - 1) c.index-entry.result.now before t len c.index-entry.ensures (ap (λ (p : Progress). p.turns) c.world.view_is ∙ noted)
