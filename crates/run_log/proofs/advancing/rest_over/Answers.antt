use Rattle.std.proofs.Common.{◌∙◌, sym}
use Rattle.run_log.proofs.LoggedTurns.{noted_from, gone_length, gone_inside}
use Rattle.run_log.proofs.advancing.rest_over.Goals as goal

pub note_at-requires-clause-inside : goal.note_at-requires-clause-inside
note_at-requires-clause-inside c = gone_inside c.args.residents.now c.go_on.new.residents c.args.index c.args.name.now (c.in_ok-go_on.ensures.goes c.if-not-branch.false)

pub note_at-requires-clause-in_step : goal.note_at-requires-clause-in_step
note_at-requires-clause-in_step c = c.requires.in_step ∙ sym (gone_length c.args.residents.now c.go_on.new.residents c.args.index c.args.name.now (c.in_ok-go_on.ensures.goes c.if-not-branch.false))

pub returns-clause-rests : goal.returns-clause-rests
returns-clause-rests c = λ _. noted_from c.args.program.now c.args.residents.now c.go_on.new.residents c.note_at.new.residents c.args.name.now c.args.index c.args.log.now c.note_at.new.log (c.in_ok-go_on.ensures.goes c.if-not-branch.false) c.in_ok-note_at.ensures
