use Rattle.std.proofs.Common.{◌≡◌, ◌∙◌, true, false, refl, sym}
use Rattle.machine.specs.Local.{has_ended}
use Rattle.world_turns.specs.Turning.{HasGoneOn}
use Rattle.world_turns.proofs.FamilyTurns.{if_ok}
use Rattle.world_turns.proofs.GoingOn.{ended_there, gone_on, goes_taken, goes_waited, goes_met}
use Rattle.world_turns.proofs.Turning.{still_waiting}
use Rattle.world_turns.proofs.turns.advance_over.Goals as goal

pub returns-then-not-branch-clause-waits : goal.returns-then-not-branch-clause-waits
returns-then-not-branch-clause-waits c = λ _.
    let stays : c.in_ok-go_on.field-0 ≡ false = c.if-not-branch.true in
    still_waiting c.args.program.now c.args.cells.now c.args.cells.now c.args.residents.now c.go_on.new.residents c.args.index c.args.name.now (c.in_ok-go_on.ensures.waits stays) refl

pub advance_awake-requires : goal.advance_awake-requires
advance_awake-requires c =
    let i = c.args.program.now in
    let cells = c.args.cells.now in
    let actors = c.args.residents.now in
    let mid = c.go_on.new.residents in
    let name = c.args.name.now in
    let went : c.in_ok-go_on.field-0 ≡ true = c.if-not-branch.false in
    let goes : HasGoneOn actors c.args.index name mid = c.in_ok-go_on.ensures.goes went in
    let lives : has_ended goes.actor.phase ≡ false = sym (ended_there actors c.args.index goes.actor c.has_ended.result goes.found.there c.has_ended.ensures) ∙ c.if-has_ended.false in
    gone_on i cells actors c.args.index name mid goes c.requires.family (c.requires.recorded name goes.actor goes.found.named) lives

pub returns-clause-took : goal.returns-clause-took
returns-clause-took c =
    let i = c.args.program.now in
    let cells = c.args.cells.now in
    let actors = c.args.residents.now in
    let mid = c.go_on.new.residents in
    let name = c.args.name.now in
    let went : c.in_ok-go_on.field-0 ≡ true = c.if-not-branch.false in
    let goes : HasGoneOn actors c.args.index name mid = c.in_ok-go_on.ensures.goes went in
    if_ok c.advance_awake.result (λ r taken is. goes_taken i cells c.advance_awake.new.cells actors mid c.advance_awake.new.residents c.args.index name c.args.entries.now.items c.advance_awake.new.entries.items goes (taken is)) c.advance_awake.ensures.took

pub returns-clause-waits : goal.returns-clause-waits
returns-clause-waits c =
    let i = c.args.program.now in
    let cells = c.args.cells.now in
    let actors = c.args.residents.now in
    let mid = c.go_on.new.residents in
    let name = c.args.name.now in
    let went : c.in_ok-go_on.field-0 ≡ true = c.if-not-branch.false in
    let goes : HasGoneOn actors c.args.index name mid = c.in_ok-go_on.ensures.goes went in
    if_ok c.advance_awake.result (λ r waits is. goes_waited i cells c.advance_awake.new.cells actors mid c.advance_awake.new.residents c.args.index name goes (waits is)) c.advance_awake.ensures.waits

pub returns-clause-busy : goal.returns-clause-busy
returns-clause-busy c =
    let i = c.args.program.now in
    let cells = c.args.cells.now in
    let actors = c.args.residents.now in
    let mid = c.go_on.new.residents in
    let name = c.args.name.now in
    let went : c.in_ok-go_on.field-0 ≡ true = c.if-not-branch.false in
    let goes : HasGoneOn actors c.args.index name mid = c.in_ok-go_on.ensures.goes went in
    if_ok c.advance_awake.result (λ r met is. goes_met i cells c.advance_awake.new.cells actors mid c.advance_awake.new.residents c.args.index name goes (met is)) c.advance_awake.ensures.busy
