use Rattle.std.proofs.Common.{◌≡◌, ◌++◌, ◌∷◌, [], rules}
use Rattle.std.specs.Prelude.{Some}
use Rattle.machine.specs.Actors.{whole}
use Rattle.machine.proofs.Creating.{on_ok}
use Rattle.world_turns.specs.Turning.{HasTaken}
use Rattle.world_turns.proofs.FamilyTurns.{begun_fresh, begun_done}
use Rattle.world_turns.proofs.turns.begin.Goals as goal

pub push-requires : goal.push-requires
push-requires c =
    let taken : HasTaken c.args.program.now c.args.residents.now c.args.index c.args.event (Some (whole c.in-Some.actor c.in-Some.memory)) c.take_at.new.residents = search rules in
    begun_fresh c.args.program.now c.args.residents.now c.args.index c.args.event (whole c.in-Some.actor c.in-Some.memory) c.take_at.new.residents c.requires taken

pub returns-clause-done : goal.returns-clause-done
returns-clause-done c =
    let child = whole c.in-Some.actor c.in-Some.memory in
    let taken : HasTaken c.args.program.now c.args.residents.now c.args.index c.args.event (Some child) c.take_at.new.residents = search rules in
    let is : c.push.new.self ≡ c.take_at.new.residents ++ child ∷ [] = search rules in
    on_ok c.note.result (λ noted. begun_done c.args.program.now c.args.residents.now c.args.index c.args.event child c.take_at.new.residents c.push.new.self c.args.name.now c.args.entries.now.items c.note.new.entries.items
    taken is noted) c.note.ensures.ok
