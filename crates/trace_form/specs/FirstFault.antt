-- What is wrong with a trace, first: line by line, with numbers from 1.
use Rattle.std.specs.Prelude.{ℕ, ◌+◌, Bool, true, false, List, [], ◌∷◌, Option, Some, None, if◌then◌else◌}
use Rattle.std.specs.Str.{bytes_eq}
use Rattle.trace_form.specs.declared.fault.Why.{Why}
use Rattle.trace_form.specs.declared.fault.Why.TheVariants as why
use Rattle.trace_form.specs.declared.fault.TraceFault.{TraceFault}
use Rattle.trace_form.specs.Fault.{fault_at}
use Rattle.trace_form.specs.Grammar.{line_pieces, first_line}
use Rattle.trace_form.specs.Numbers.{is_decimal_of}
use Rattle.trace_form.specs.Line.{count_at, line_fault}

-- no line and no byte follows
abbrev pub nothing_follows : List (List ℕ) → Bool
nothing_follows ([] ∷ []) = true
nothing_follows _ = false

abbrev pub rest_fault : ℕ → List (List ℕ) → Option TraceFault
rest_fault at rest = if nothing_follows rest then None else fault_at at why.Line

-- the last line, with the text of its count, after so many records
abbrev pub end_fault : ℕ → ℕ → List ℕ → List (List ℕ) → Option TraceFault
end_fault at count text rest =
    if is_decimal_of count text then rest_fault (at + 1) rest else fault_at at why.Number

-- a piece that no line feed follows: the last line is missing, or has no line feed
abbrev pub piece_fault : ℕ → List ℕ → Option TraceFault
piece_fault at [] = fault_at at why.End
piece_fault at (c ∷ cs) = fault_at at why.Line

-- one line, and the fault of what follows if this line is a record
abbrev pub fault_on :
    ℕ → ℕ → Option (List ℕ) → Option Why → List (List ℕ) → Option TraceFault → Option TraceFault
fault_on at count (Some text) w rest later = end_fault at count text rest
fault_on at count None (Some w) rest later = fault_at at w
fault_on at count None None rest later = later

-- the lines from the one with this number on, after so many records
abbrev pub lines_fault : ℕ → ℕ → List (List ℕ) → Option TraceFault
lines_fault at count [] = fault_at at why.End
lines_fault at count (last ∷ []) = piece_fault at last
lines_fault at count (line ∷ next ∷ rest) =
    fault_on at count (count_at line) (line_fault line) (next ∷ rest)
    (lines_fault (at + 1) (count + 1) (next ∷ rest))

abbrev pub pieces_fault : List (List ℕ) → Option TraceFault
pieces_fault [] = fault_at 1 why.End
pieces_fault (last ∷ []) = piece_fault 1 last
pieces_fault (line ∷ next ∷ rest) =
    if bytes_eq line first_line then lines_fault 2 0 (next ∷ rest) else fault_at 1 why.Line

-- the first fault of a trace
unfoldable pub first_fault : List ℕ → Option TraceFault
first_fault bytes = pieces_fault (line_pieces bytes)
