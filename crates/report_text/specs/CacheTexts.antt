-- The counts of the caches of actors, as text.
use Rattle.std.specs.Prelude.{ℕ, List, ◌++◌, codes}
use Rattle.std.specs.List.{flat_map}
use Rattle.grant_cache.specs.declared.count.CacheLine.{CacheLine}
use Rattle.report_text.specs.Reports.{name_text}
use Rattle.report_text.specs.Summaries.{field, space, newline}

-- an actor's name, and its counts: look-ups, hits, and entries that were refused
unfoldable pub cache_line : CacheLine → List ℕ
cache_line c =
    codes "cache " ++ name_text c.name ++ codes " "
    ++ field (codes "lookups") c.count.lookups space ++ field (codes "hits") c.count.hits space
    ++ field (codes "refused") c.count.refused newline

-- a line for each actor
unfoldable pub cache_lines : List CacheLine → List ℕ
cache_lines cs = flat_map cache_line cs
