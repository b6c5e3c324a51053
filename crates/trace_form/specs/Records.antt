-- The records of a trace.
use Rattle.std.specs.Prelude.{ℕ, List, [], ◌∷◌, Option, Some, None}
use Rattle.trace_form.specs.Grammar.{TraceRecord, line_pieces}
use Rattle.trace_form.specs.Line.{record_at}

abbrev pub with_first : Option TraceRecord → List TraceRecord → List TraceRecord
with_first None later = []
with_first (Some r) later = r ∷ later

-- the records of lines, up to the first line that is none
abbrev pub records_from : List (List ℕ) → List TraceRecord
records_from [] = []
records_from (last ∷ []) = []
records_from (line ∷ next ∷ rest) = with_first (record_at line) (records_from (next ∷ rest))

abbrev pub records_after_first : List (List ℕ) → List TraceRecord
records_after_first [] = []
records_after_first (line ∷ rest) = records_from rest

-- the records of a trace, which follow its first line
unfoldable pub records_of : List ℕ → List TraceRecord
records_of bytes = records_after_first (line_pieces bytes)

-- the records of the lines that are left
unfoldable pub records_left : List ℕ → List TraceRecord
records_left bytes = records_from (line_pieces bytes)
