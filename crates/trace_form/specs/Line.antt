-- The record or the count of a line, and what is wrong with a line, field by field from the left.
use Rattle.std.specs.Prelude.{◌≡◌, ℕ, List, [], ◌∷◌, codes, Option, Some, None, if◌then◌else◌}
use Rattle.std.specs.Str.{bytes_eq}
use Rattle.trace_form.specs.declared.words.Kind.{Kind}
use Rattle.trace_form.specs.declared.words.Mode.{Mode}
use Rattle.trace_form.specs.declared.fault.Why.{Why}
use Rattle.trace_form.specs.declared.fault.Why.TheVariants as why
use Rattle.trace_form.specs.Words.{kind_of, mode_of}
use Rattle.trace_form.specs.Grammar.{TraceRecord, mode_fits, frames, fields, record_line}
use Rattle.trace_form.specs.Fault.{or_fault}
use Rattle.trace_form.specs.Items.{name_fault, item_fault}
use Rattle.trace_form.specs.Chains.{frames_fault}

-- the first fault of a record, from its mode on
unfoldable pub record_fault : TraceRecord → Option Why
record_fault r =
    if mode_fits r.kind r.mode
    then or_fault (name_fault r.comp)
    (or_fault (frames_fault 0 (frames r.chain)) (item_fault r.kind r.item))
    else Some why.Line

abbrev pub record_with : Option Kind → Option Mode → List ℕ → List ℕ → List ℕ → Option TraceRecord
record_with None m comp chain item = None
record_with (Some k) None comp chain item = None
record_with (Some k) (Some m) comp chain item =
    Some (record { kind = k; mode = m; comp = comp; chain = chain; item = item })

-- five fields, of which the first two are the words of a kind and a mode
abbrev pub record_of : List (List ℕ) → Option TraceRecord
record_of (kind ∷ mode ∷ comp ∷ chain ∷ item ∷ []) =
    record_with (kind_of kind) (mode_of mode) comp chain item
record_of _ = None

unfoldable pub record_at : List ℕ → Option TraceRecord
record_at line = record_of (fields line)

abbrev pub option_fault : Option TraceRecord → Option Why
option_fault None = Some why.Line
option_fault (Some r) = record_fault r

-- the first fault of a line that is to be a record's
unfoldable pub line_fault : List ℕ → Option Why
line_fault line = option_fault (record_at line)

-- two fields, of which the first is `end`: the second is the count of records
abbrev pub count_of : List (List ℕ) → Option (List ℕ)
count_of (word ∷ count ∷ []) = if bytes_eq word (codes "end") then Some count else None
count_of _ = None

unfoldable pub count_at : List ℕ → Option (List ℕ)
count_at line = count_of (fields line)

-- the line that is written for a record is read as this record, and no fault is found
pub record IsReadAgain (r : TraceRecord) : Type 0 where
  pub no_fault : line_fault (record_line r) ≡ None
  pub read : record_at (record_line r) ≡ Some r
