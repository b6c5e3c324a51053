use Rattle.std.proofs.Common.{◌≡◌, ◌^◌, ◌<◌, length, rules, arith}
use Rattle.trace_form.proofs.Accepts.{trace_sound}
use Rattle.cb_log.specs.Logs.{records_of, trace_of}
use Rattle.cb_log.proofs.InGrammar.{written_in_grammar}
use Rattle.cb_log.proofs.logging.log.Goals as goal

pub returns-clause-grammar : goal.returns-clause-grammar
returns-clause-grammar c =
    let i = c.args.image.now in
    let names = c.args.schedule.now in
    let text : c.in_ok-text.text.items ≡ trace_of i names = search rules in
    written_in_grammar i names c.in_ok-text.text.items c.in_ok-text.ensures.valid text

pub returns-clause-sound : goal.returns-clause-sound
returns-clause-sound c =
    let i = c.args.image.now in
    let names = c.args.schedule.now in
    let text : c.in_ok-text.text.items ≡ trace_of i names = search rules in
    let small : length c.in_ok-text.text.items < 2 ^ 64 = omega arith in
    trace_sound c.in_ok-text.text.items (records_of i names) (written_in_grammar i names c.in_ok-text.text.items c.in_ok-text.ensures.valid text) small
