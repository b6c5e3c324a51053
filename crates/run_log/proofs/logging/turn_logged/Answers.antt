use Rattle.std.proofs.Common.{◌≡◌, ◌∙◌, sym, subst}
use Rattle.wedge_events.specs.declared.events.Event.{Event}
use Rattle.run_log.specs.LoggedParts.{IsLoggedTurn}
use Rattle.run_log.proofs.Behind.{rested_added, turn_added}
use Rattle.world_turns.specs.Progress.{Progress}
use Rattle.run_log.proofs.logging.turn_logged.Goals as goal

pub returns-in-Ok-clause-rests : goal.returns-in-Ok-clause-rests
returns-in-Ok-clause-rests c = λ _.
    let w = c.in-Ok-Waits.ensures.waits c.in-Ok-Waits.field-0-is in
    let ok = c.in-Ok.ensures.ok in (
      ok.0 ∙ w.1,
      rested_added c.args.world.now.state c.args.name.now c.args.log.now.log c.take_notes-before.new.log c.advance_logged.new.log c.add_or_stop.new.log c.take_notes-before.result.items
          c.take_notes-before.ensures.notes c.take_notes-before.ensures.log w.2 ok.1,
    )

pub returns-in-Ok-add_or_stop-clause-rests : goal.returns-in-Ok-add_or_stop-clause-rests
returns-in-Ok-add_or_stop-clause-rests c = λ _.
    let w = c.in-Ok-Busy.ensures.busy c.in-Ok-Busy.field-0-is in
    let ok = c.in-Ok-add_or_stop.ensures.ok in (
      ok.0 ∙ w.1,
      rested_added c.args.world.now.state c.args.name.now c.args.log.now.log c.take_notes-before.new.log c.advance_logged.new.log c.add_or_stop-in-Ok-Busy.new.log c.take_notes-before.result.items
          c.take_notes-before.ensures.notes c.take_notes-before.ensures.log w.2 ok.1,
    )

pub returns-in-Ok-add_or_take_back-clause-took : goal.returns-in-Ok-add_or_take_back-clause-took
returns-in-Ok-add_or_take_back-clause-took c =
    let p = c.args.world.now in
    let l = c.args.log.now.log in
    let name = c.args.name.now in
    let t = c.in-Ok-Took.ensures.took c.in-Ok-Took.field-0-is in
    let ok = c.in-Ok-add_or_take_back.ensures.ok in
    let k = c.add_or_take_back.new.log in
    let event : c.in-Ok-add_or_take_back.event ≡ t.0 = c.in-Ok-add_or_take_back.ensures.event p.turns (record { actor = name; event = t.0 }) t.1.noted in
    let added : IsLoggedTurn p l name t.0 c.advance_logged.new.world k = turn_added p c.advance_logged.new.world name t.0 l c.take_notes-before.new.log c.advance_logged.new.log k c.take_notes-before.result.items
    c.take_notes-before.ensures.notes c.take_notes-before.ensures.log t.1 ok.1 in
    subst (λ (e : Event). IsLoggedTurn p l name e c.add_or_take_back.new.world k) (sym event) (subst (λ (q : Progress). IsLoggedTurn p l name t.0 q k) (sym ok.0) added)
