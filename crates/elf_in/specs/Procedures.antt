-- The procedures of an ELF file: its function symbols in the text.
use Rattle.std.specs.Prelude.{ℕ, Bool, ◌&&◌, ◌||◌, not, List, [], ◌∷◌, ◌++◌, codes, fold, Option, Some, None, if◌then◌else◌}
use Rattle.std.specs.List.{list_any, filter_map}
use Rattle.std.specs.Ordering.{nat_cmp, then_cmp, on, is_lt}
use Rattle.std.specs.Cmp.Lexicographic.{slice_cmp}
use Rattle.std.specs.Str.{bytes_eq}
use Rattle.wedge_base.specs.Images.{is_text_address, begins_at}
use Rattle.wedge_base.specs.Texts.{is_name}
use Rattle.wedge_base.specs.declared.image.Procedure.{Procedure}
use Rattle.elf_in.specs.Headers.{is_function}
use Rattle.elf_in.specs.Symbols.{SymbolTable, name_at}
use Rattle.stable_sort.specs.Sorting.{sorted}
use Rattle.stable_sort.specs.ByName.{procedure_before}
use Rattle.elf_in.specs.declared.headers.Symbol.{Symbol}
use Rattle.elf_in.specs.declared.procedures.Candidate.{Candidate}

-- the names that may be added for the base of the text and for the entry
abbrev pub text_start : List ℕ
text_start = codes "text.start"

abbrev pub entry_start : List ℕ
entry_start = codes "entry.start"

-- whether a symbol's name may be that of a procedure
abbrev pub is_usable : List ℕ → Bool
is_usable name = is_name name && not (bytes_eq name text_start) && not (bytes_eq name entry_start)

-- a name, if it may be that of a procedure
abbrev pub usable : List ℕ → Option (List ℕ)
usable name = if is_usable name then Some name else None

-- a function of the text with a usable name
abbrev pub candidate : ℕ → ℕ → List ℕ → Symbol → Option Candidate
candidate base count names s =
    if is_function s && is_text_address base count s.value && is_usable (name_at names s.name)
    then Some (record { address = s.value; name = name_at names s.name })
    else None

-- by address, and then by name
abbrev pub candidate_before : Candidate → Candidate → Bool
candidate_before a b =
    is_lt (then_cmp (on (λ c. c.address) nat_cmp) (on (λ c. c.name) (slice_cmp nat_cmp)) a b)

-- whether one of the procedures has a name
abbrev pub has_name : List Procedure → List ℕ → Bool
has_name ps name = list_any (λ p. bytes_eq p.name name) ps

-- procedures and a candidate, unless its address or its name is in use
abbrev pub with_candidate : List Procedure → Candidate → List Procedure
with_candidate ps c =
    if begins_at ps c.address || has_name ps c.name
    then ps
    else ps ++ record { name = c.name; address = c.address } ∷ []

-- procedures, with one of a given name at an address where none begins
abbrev pub with_start : List ℕ → ℕ → List Procedure → List Procedure
with_start name address ps =
    if begins_at ps address then ps else ps ++ record { name = name; address = address } ∷ []

unfoldable pub candidates : ℕ → ℕ → SymbolTable → List Candidate
candidates base count t =
    sorted candidate_before (filter_map (candidate base count t.names) t.symbols)

-- the procedures by name, for a text of so many words from a base on
unfoldable pub procedures_of : ℕ → ℕ → ℕ → SymbolTable → List Procedure
procedures_of base count entry t =
    sorted procedure_before (
    with_start entry_start entry (
    with_start text_start base (fold with_candidate [] (candidates base count t))))
