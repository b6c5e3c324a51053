use Rattle.std.proofs.Common.{List, sym, subst}
use Rattle.trace_form.specs.Grammar.{TraceRecord, IsTraceOf}
use Rattle.trace_form.proofs.Sound.{trace_is_text}
use Rattle.trace_form.proofs.records.Records.of_trace.Goals as goal

pub returns-clause-sound : goal.returns-clause-sound
returns-clause-sound c = λ none.
    let P : List TraceRecord → Type 0 = λ rs. IsTraceOf c.args.bytes.now rs in
    subst P (sym c.after_first_line.ensures) (trace_is_text c.args.bytes.now none)
