use Rattle.std.proofs.Common.{◌≡◌, ◌++◌, take}
use Rattle.std.specs.List.{flat_map}
use Rattle.report_text.specs.CacheTexts.{cache_line}
use Rattle.report_text.proofs.caches.write_caches.Given as goal

-- The lines of the actors so far were added.
abbrev pub invariant-loop-line : goal.invariant-loop-line
invariant-loop-line l = l.out.items ≡ l.initial.out.items ++ flat_map cache_line (take l.line-index l.lines)
