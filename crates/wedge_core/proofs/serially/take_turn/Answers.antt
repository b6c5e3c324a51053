use Rattle.std.proofs.Common.{◌≡◌, ◌-◌, sym, subst, length, get_or, rules}
use Rattle.machine.proofs.Creating.{on_ok}
use Rattle.world_turns.specs.Progress.{IsIndexOf}
use Rattle.wedge_core.specs.Serial.{IsSerial}
use Rattle.wedge_core.proofs.SerialSteps.{Newest, newest_named, newest_indexed, newest_lives, newest_goes_on, newest_enters, serial_next, serial_less, index_still}
use Rattle.wedge_core.proofs.serially.take_turn.Goals as goal

pub advance-requires-clause-there : goal.advance-requires-clause-there
advance-requires-clause-there c =
    let p = c.args.world.now in
    newest_indexed p.state.image p c.args.live.now.items c.index-newest.result.now c.requires.serial c.requires.some (search rules)

pub note_lives-requires-clause-inside : goal.note_lives-requires-clause-inside
note_lives-requires-clause-inside c =
    let p = c.args.world.now in
    let l = c.index-newest.result.now in
    let at : IsIndexOf p.state.actors l.name l.index = newest_indexed p.state.image p c.args.live.now.items l c.requires.serial c.requires.some (search rules) in
    index_still p c.advance.new.world l.name l.index at (c.in_ok-advance.ensures.took c.in-Took.is)

pub unreachable-requires : goal.unreachable-requires
unreachable-requires c =
    let p = c.args.world.now in
    let l = c.index-newest.result.now in
    let n : Newest p l.name = newest_named p.state.image p c.args.live.now.items l c.requires.serial c.requires.some (search rules) in
    newest_lives p l.name n (c.in_ok-advance.ensures.ended c.in-Ended.is).0

pub unreachable-requires-in-Waits : goal.unreachable-requires-in-Waits
unreachable-requires-in-Waits c =
    let p = c.args.world.now in
    let l = c.index-newest.result.now in
    let n : Newest p l.name = newest_named p.state.image p c.args.live.now.items l c.requires.serial c.requires.some (search rules) in
    newest_goes_on p.state.image p c.args.live.now.items l.name c.requires.serial n (c.in_ok-advance.ensures.waits c.in-Waits.is).0

pub unreachable-requires-in-Busy : goal.unreachable-requires-in-Busy
unreachable-requires-in-Busy c =
    let p = c.args.world.now in
    let l = c.index-newest.result.now in
    let n : Newest p l.name = newest_named p.state.image p c.args.live.now.items l c.requires.serial c.requires.some (search rules) in
    newest_enters p.state.image p c.args.live.now.items l.name c.requires.serial n (c.in_ok-advance.ensures.busy c.in-Busy.is).0

pub returns-clause-serial : goal.returns-clause-serial
returns-clause-serial c =
    let p = c.args.world.now in
    let q = c.advance.new.world in
    let i = p.state.image in
    let live = c.args.live.now.items in
    let l = c.index-newest.result.now in
    let at : l ≡ get_or live (length live - 1) l = search rules in
    let n : Newest p l.name = newest_named i p live l c.requires.serial c.requires.some at in
    let found : IsIndexOf p.state.actors l.name l.index = newest_indexed i p live l c.requires.serial c.requires.some at in
    let count : length c.as_slice-count.result.now ≡ length p.state.actors = search rules in
    on_ok c.note_lives.result (λ after. subst (λ j. IsSerial j q c.note_lives.new.live.items) (sym c.in_ok-advance.ensures.image)
    (serial_next i p q live c.note_lives.new.live.items l.name l.index (length c.as_slice-count.result.now) c.requires.serial c.requires.some n found count (c.in_ok-advance.ensures.took c.in-Took.is) c.in_ok-advance.ensures.going after)) c.note_lives.ensures

pub returns-clause-less : goal.returns-clause-less
returns-clause-less c =
    let p = c.args.world.now in
    on_ok c.note_lives.result (λ after. serial_less p.state.image p c.advance.new.world c.args.live.now.items c.index-newest.result.now.name c.requires.serial (c.in_ok-advance.ensures.took c.in-Took.is)) c.note_lives.ensures
