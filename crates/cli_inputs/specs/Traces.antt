-- What is asked of a trace, as a function of the bytes of its file.
use Rattle.std.specs.Prelude.{◌≡◌, ℕ, List, length, Option, Some, None, Result, Ok, Err, nat_lt, if◌then◌else◌}
use Rattle.std.specs.List.{flat_map}
use Rattle.host_io.specs.Exposed.{WhereExposed}
use Rattle.trace_form.specs.declared.fault.TraceFault.{TraceFault}
use Rattle.trace_form.specs.Grammar.{TraceRecord, with_end}
use Rattle.trace_form.specs.FirstFault.{first_fault}
use Rattle.trace_form.specs.Records.{records_of}
use Rattle.cb_analyze.specs.Sheets.{sheets_of}
use Rattle.cb_analyze.specs.Texts.{sheets_text}
use Rattle.cb_analyze.specs.Queries.{accesses_answer, users_answer, writes_answer}
use Rattle.cli_inputs.specs.declared.refusal.Refusal.{Refusal}
use Rattle.cli_inputs.specs.declared.refusal.Refusal.TheVariants as refusal
use Rattle.cli_inputs.specs.declared.words.Query.{Query}
use Rattle.cli_inputs.specs.declared.words.Query.TheVariants.{Accessed, Users, Written}
use Rattle.cli_inputs.specs.Loading.{most_trace, long_trace, IsReadFault}

-- what is wrong with a trace's file, first: it is too long, or a line is malformed
unfoldable pub trace_fault : List ℕ → Option TraceFault
trace_fault bytes = if nat_lt most_trace (length bytes) then Some long_trace else first_fault bytes

-- a trace that is rejected has no answer
abbrev pub unless_fault : Option TraceFault → Result (List ℕ) Refusal → Result (List ℕ) Refusal
unless_fault None answer = answer
unless_fault (Some fault) answer = Err (refusal.Trace fault)

-- the text of the sheets of a trace
abbrev pub derive_text : List ℕ → Result (List ℕ) Refusal
derive_text bytes = unless_fault (trace_fault bytes) (Ok (sheets_text (sheets_of (records_of bytes))))

-- the lines that answer a query, or none where no record has the name
abbrev pub query_lines : Query → List ℕ → List TraceRecord → Option (List (List ℕ))
query_lines Accessed name rs = accesses_answer name rs
query_lines Users name rs = users_answer name rs
query_lines Written name rs = writes_answer name rs

-- each line with its line feed
abbrev pub answer_text : List (List ℕ) → List ℕ
answer_text lines = flat_map with_end lines

abbrev pub answer_to : List ℕ → Option (List (List ℕ)) → Result (List ℕ) Refusal
answer_to name None = Err (refusal.NoSuchName name)
answer_to name (Some lines) = Ok (answer_text lines)

-- the text that answers a query of a trace
abbrev pub analyze_text : Query → List ℕ → List ℕ → Result (List ℕ) Refusal
analyze_text query name bytes =
    unless_fault (trace_fault bytes) (answer_to name (query_lines query name (records_of bytes)))

-- ---- refusals

-- the trace is accepted, and no record has the name
pub record IsUnknownIn (query : Query) (name bytes : List ℕ) : Type 0 where
  pub accepted : trace_fault bytes ≡ None
  pub no_answer : query_lines query name (records_of bytes) ≡ None

-- why a trace is not had: memory ran out, a read failed, or it is rejected so
abbrev pub IsTraceRefused : List ℕ → Option (List ℕ) → ℕ → ℕ → Refusal → Type 0
IsTraceRefused trace content before after refusal.NoMemory = Unit {0}
IsTraceRefused trace content before after (refusal.Read file) = IsReadFault trace before after file
IsTraceRefused trace content before after (refusal.Image fault) = ⊥
IsTraceRefused trace content before after (refusal.Partition p) = ⊥
IsTraceRefused trace content before after (refusal.Schedule s) = ⊥
IsTraceRefused trace content before after (refusal.Trace fault) =
    WhereExposed content (λ bytes. trace_fault bytes ≡ Some fault)
IsTraceRefused trace content before after (refusal.Elf fault) = ⊥
IsTraceRefused trace content before after (refusal.NoSuchName item) = ⊥
IsTraceRefused trace content before after (refusal.Violation v) = ⊥

-- why a query of a trace is not answered: besides, no record has the name that is asked for
abbrev pub IsQueryRefused : Query → List ℕ → List ℕ → Option (List ℕ) → ℕ → ℕ → Refusal → Type 0
IsQueryRefused query name trace content before after refusal.NoMemory = Unit {0}
IsQueryRefused query name trace content before after (refusal.Read file) = IsReadFault trace before after file
IsQueryRefused query name trace content before after (refusal.Image fault) = ⊥
IsQueryRefused query name trace content before after (refusal.Partition p) = ⊥
IsQueryRefused query name trace content before after (refusal.Schedule s) = ⊥
IsQueryRefused query name trace content before after (refusal.Trace fault) =
    WhereExposed content (λ bytes. trace_fault bytes ≡ Some fault)
IsQueryRefused query name trace content before after (refusal.Elf fault) = ⊥
IsQueryRefused query name trace content before after (refusal.NoSuchName item) =
    (item ≡ name) × WhereExposed content (IsUnknownIn query name)
IsQueryRefused query name trace content before after (refusal.Violation v) = ⊥
