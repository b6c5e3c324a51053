use Rattle.std.proofs.Common.{◌≡◌, ◌^◌, ◌<◌, length, sym, ap, ◌∙◌, rules, arith}
use Rattle.trace_form.proofs.Accepts.{trace_read, trace_sound}
use Rattle.cb_log.specs.Logs.{records_of, trace_of}
use Rattle.cb_log.specs.Marks.{marks_of}
use Rattle.cb_log.proofs.InGrammar.{written_in_grammar}
use Rattle.cb_log.proofs.Marks.{as_many_marks}
use Rattle.cb_log.proofs.marking.log_marked.Goals as goal

pub returns-clause-records : goal.returns-clause-records
returns-clause-records c =
    let i = c.args.image.now in
    let names = c.args.schedule.now in
    let text : c.in_ok-trace.trace.items ≡ trace_of i names = search rules in
    let small : length c.in_ok-trace.trace.items < 2 ^ 64 = omega arith in
    trace_read c.in_ok-trace.trace.items (records_of i names) (written_in_grammar i names c.in_ok-trace.trace.items c.in_ok-trace.ensures.valid text) small

pub returns-clause-sound : goal.returns-clause-sound
returns-clause-sound c =
    let i = c.args.image.now in
    let names = c.args.schedule.now in
    let text : c.in_ok-trace.trace.items ≡ trace_of i names = search rules in
    let small : length c.in_ok-trace.trace.items < 2 ^ 64 = omega arith in
    trace_sound c.in_ok-trace.trace.items (records_of i names) (written_in_grammar i names c.in_ok-trace.trace.items c.in_ok-trace.ensures.valid text) small

pub returns-clause-marked : goal.returns-clause-marked
returns-clause-marked c =
    let i = c.args.image.now in
    let names = c.args.schedule.now in
    let text : c.in_ok-trace.trace.items ≡ trace_of i names = search rules in
    let marks : c.in_ok-marks.marks.items ≡ marks_of i names = search rules in
    let small : length c.in_ok-trace.trace.items < 2 ^ 64 = omega arith in
    let read_again = trace_read c.in_ok-trace.trace.items (records_of i names) (written_in_grammar i names c.in_ok-trace.trace.items c.in_ok-trace.ensures.valid text) small in
    ap length marks ∙ (as_many_marks i names ∙ sym (ap length read_again))
