-- The trace of a schedule.
use Rattle.std.specs.Prelude.{ℕ, List, map}
use Rattle.wedge_base.specs.Images.{Image}
use Rattle.trace_form.specs.Grammar.{TraceRecord}
use Rattle.run_log.specs.Logging.{log_of}
use Rattle.cb_log.specs.Texts.{record_of, trace_of_notes}

-- the records of the run in which these actors take their turns, and their trace
abbrev pub records_of : Image → List (List ℕ) → List TraceRecord
records_of i names = map (record_of i) (log_of i names).notes

abbrev pub trace_of : Image → List (List ℕ) → List ℕ
trace_of i names = trace_of_notes i (log_of i names).notes
