-- Which records a query is about, and their innermost frames.
use Rattle.std.specs.Prelude.{ℕ, Bool, true, false, ◌&&◌, List, [], ◌∷◌}
use Rattle.std.specs.List.{list_any}
use Rattle.std.specs.Str.{bytes_eq}
use Rattle.trace_form.specs.declared.words.Kind.{Kind}
use Rattle.trace_form.specs.declared.words.Kind.TheVariants as kind
use Rattle.trace_form.specs.Grammar.{TraceRecord, frames}

-- whether a procedure is among the frames of a record's chain
unfoldable pub has_frame : List ℕ → TraceRecord → Bool
has_frame name r = list_any (λ f. bytes_eq f name) (frames r.chain)

unfoldable pub has_item : List ℕ → TraceRecord → Bool
has_item item r = bytes_eq r.item item

-- the innermost of a frame and the frames called under it
abbrev pub last_from : List ℕ → List (List ℕ) → List ℕ
last_from f [] = f
last_from f (g ∷ gs) = last_from g gs

unfoldable pub last_frame : TraceRecord → List ℕ
last_frame r = last_from [] (frames r.chain)

-- whether an access changes its item
abbrev pub is_write : Kind → Bool
is_write kind.Load = false
is_write kind.Store = true
is_write kind.Read = false
is_write kind.Append = true
is_write kind.Call = false

abbrev pub is_write_under : List ℕ → TraceRecord → Bool
is_write_under name r = has_frame name r && is_write r.kind
