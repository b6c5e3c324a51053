-- What the code's records stand for.
use Rattle.std.specs.Prelude.{ℕ, List, [], Option, Some, None}
use Rattle.trace_form.specs.Grammar.{TraceRecord, frames}
use Rattle.trace_form.specs.declared.trace_record.Record.{Record}

abbrev pub record_view : Record → TraceRecord
record_view r = record {
  kind = r.kind;
  mode = r.mode;
  comp = r.comp.now;
  chain = r.chain.now;
  item = r.item.now;
}

-- the frames that are left of a chain
abbrev pub frames_left : Option (List ℕ) → List (List ℕ)
frames_left None = []
frames_left (Some chain) = frames chain
