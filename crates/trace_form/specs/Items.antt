-- What is wrong with an item.
use Rattle.std.specs.Prelude.{ℕ, ◌==◌, Bool, List, [], ◌∷◌, codes, Option, Some, None, if◌then◌else◌}
use Rattle.std.specs.List.{before_first, after_first}
use Rattle.wedge_base.specs.Texts.{is_name}
use Rattle.trace_form.specs.declared.words.Kind.{Kind}
use Rattle.trace_form.specs.declared.words.Kind.TheVariants as kind
use Rattle.trace_form.specs.declared.fault.Why.{Why}
use Rattle.trace_form.specs.declared.fault.Why.TheVariants as why
use Rattle.trace_form.specs.Forms.{is_file_path, is_address}
use Rattle.trace_form.specs.Grammar.{at_sign}

abbrev pub name_fault : List ℕ → Option Why
name_fault text = if is_name text then None else Some why.Name

abbrev pub path_fault : List ℕ → Option Why
path_fault text = if is_file_path text then None else Some why.Name

abbrev pub is_at : ℕ → Bool
is_at c = c == at_sign

-- the compartment is what comes before the first `@`, and the address is all the rest
unfoldable pub made_fault : List ℕ → Option Why
made_fault text =
    if is_name (before_first is_at text)
    then (if is_address (after_first is_at text) then None else Some why.Number)
    else Some why.Name

-- what follows a prefix, if the text begins with it
abbrev pub after_prefix : List ℕ → List ℕ → Option (List ℕ)
after_prefix [] text = Some text
after_prefix (p ∷ ps) [] = None
after_prefix (p ∷ ps) (c ∷ cs) = if p == c then after_prefix ps cs else None

-- the fault of what follows a prefix, or the other one if the text does not begin with it
abbrev pub fault_after : (List ℕ → Option Why) → Option (List ℕ) → Option Why → Option Why
fault_after fault (Some rest) other = fault rest
fault_after fault None other = other

-- items of loads and stores, of reads and appends, and of calls
unfoldable pub memory_fault : List ℕ → Option Why
memory_fault item =
    fault_after name_fault (after_prefix (codes "tag:") item)
    (fault_after made_fault (after_prefix (codes "made:") item) (Some why.Line))

unfoldable pub stream_fault : List ℕ → Option Why
stream_fault item =
    fault_after name_fault (after_prefix (codes "fd:") item)
    (fault_after path_fault (after_prefix (codes "file:") item) (Some why.Line))

unfoldable pub gate_fault : List ℕ → Option Why
gate_fault item = fault_after name_fault (after_prefix (codes "gate:") item) (Some why.Line)

abbrev pub item_fault : Kind → List ℕ → Option Why
item_fault kind.Load item = memory_fault item
item_fault kind.Store item = memory_fault item
item_fault kind.Read item = stream_fault item
item_fault kind.Append item = stream_fault item
item_fault kind.Call item = gate_fault item
