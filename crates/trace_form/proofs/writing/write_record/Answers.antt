use Rattle.trace_form.specs.TraceRecord.{record_view}
use Rattle.trace_form.proofs.Accepts.{read_again}
use Rattle.trace_form.proofs.writing.write_record.Goals as goal

pub returns-then-is_err-clause-read_again : goal.returns-then-is_err-clause-read_again
returns-then-is_err-clause-read_again c = read_again (record_view c.args.row.now)

pub returns-else-is_err-clause-read_again : goal.returns-else-is_err-clause-read_again
returns-else-is_err-clause-read_again c = read_again (record_view c.args.row.now)
