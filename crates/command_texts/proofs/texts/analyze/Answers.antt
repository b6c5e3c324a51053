use Rattle.std.proofs.lemmas.Result.{err_from_is_err_and}
use Rattle.cli_inputs.proofs.TraceFaults.{query_unread}
use Rattle.command_texts.proofs.texts.analyze.Goals as goal

pub returns-in_err-bytes-clause-refused : goal.returns-in_err-bytes-clause-refused
returns-in_err-bytes-clause-refused g c =
    let p = err_from_is_err_and c.from_residual.result c.from_residual.ensures.1 in
    rw (p.1, p.2) (query_unread c.args.query c.args.name.now c.args.trace.now _ _ _ c.in_err-bytes.field-0.0 c.in_err-bytes.ensures.refused)
