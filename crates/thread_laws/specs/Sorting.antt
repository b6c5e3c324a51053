-- Entries in the order of their stamps, those of one stamp by the names of their actors.
use Rattle.std.specs.Prelude.{Bool, List, [], ◌∷◌, ◌++◌}
use Rattle.std.specs.Ordering.{nat_cmp, is_lt, ordering_then}
use Rattle.std.specs.Cmp.Lexicographic.{slice_cmp}
use Rattle.std.specs.declared.cmp.Ordering.{Ordering}
use Rattle.stable_sort.specs.Sorting.{sorted}
use Rattle.wedge_base.specs.Images.{Image}
use Rattle.wedge_events.specs.declared.events.LogEntry.{LogEntry}
use Rattle.thread_laws.specs.Executions.{Execution}
use Rattle.thread_laws.specs.Merging.{AreExecutions, IsMerge}
use Rattle.thread_laws.specs.Forests.{AreApart}

abbrev pub entry_order : LogEntry → LogEntry → Ordering
entry_order x y = ordering_then (nat_cmp x.stamp y.stamp) (slice_cmp nat_cmp x.actor y.actor)

abbrev pub comes_before : LogEntry → LogEntry → Bool
comes_before x y = is_lt (entry_order x y)

abbrev pub in_order : List LogEntry → List LogEntry
in_order es = sorted comes_before es

abbrev pub all_entries : List Execution → List LogEntry
all_entries [] = []
all_entries (l ∷ ls) = l.entries ++ all_entries ls

-- the entries of executions that fit together, put in order, are a merge of them
abbrev pub OrderIsMerge : Type 0
OrderIsMerge = (i : Image) (ls : List Execution) → AreExecutions i ls → AreApart ls
    → IsMerge ls (in_order (all_entries ls))
