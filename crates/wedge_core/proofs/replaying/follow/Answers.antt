use Rattle.std.proofs.Common.{◌≡◌, None, false, ap, subst, rules}
use Rattle.machine.specs.Worlds.{actor_named, is_complete}
use Rattle.world_turns.specs.Progress.{Progress}
use Rattle.world_turns.proofs.Replays.{replayed_unknown, replayed_ended, replayed_waits, replayed_busy}
use Rattle.wedge_core.proofs.replaying.follow.Goals as goal

pub returns-in_default-clause-rejected : goal.returns-in_default-clause-rejected
returns-in_default-clause-rejected c = λ names.
    let w = c.args.world.now.state in
    let name = c.args.name.now in
    let going : is_complete w ≡ false = search rules in
    let unknown : actor_named w.actors name ≡ None = subst (λ as_. actor_named as_ name ≡ None) (ap (λ (p : Progress). p.state.actors) c.world.view_is) c.in_default.ensures.unknown in
    replayed_unknown w c.args.at name names going unknown

pub returns-in-Ok-Ended-clause-rejected : goal.returns-in-Ok-Ended-clause-rejected
returns-in-Ok-Ended-clause-rejected c = λ names.
    let going : is_complete c.args.world.now.state ≡ false = search rules in
    replayed_ended c.args.world.now.state c.args.at c.args.name.now names going (c.in-Ok-Ended.ensures.ended c.in-Ok-Ended.field-0-is).0

pub returns-in-Ok-Waits-clause-rejected : goal.returns-in-Ok-Waits-clause-rejected
returns-in-Ok-Waits-clause-rejected c = λ names.
    let going : is_complete c.args.world.now.state ≡ false = search rules in
    replayed_waits c.args.world.now.state c.args.at c.args.name.now names going (c.in-Ok-Waits.ensures.waits c.in-Ok-Waits.field-0-is).0

pub returns-in-Ok-Busy-clause-rejected : goal.returns-in-Ok-Busy-clause-rejected
returns-in-Ok-Busy-clause-rejected c = λ names.
    let going : is_complete c.args.world.now.state ≡ false = search rules in
    replayed_busy c.args.world.now.state c.args.at c.args.name.now names going (c.in-Ok-Busy.ensures.busy c.in-Ok-Busy.field-0-is).0
