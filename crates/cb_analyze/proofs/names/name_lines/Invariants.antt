use Rattle.std.proofs.Common.{◌≡◌, ◌++◌, map}
use Rattle.cb_analyze.proofs.names.name_lines.Given as goal

-- The lines so far, with the names that are left, are all.
abbrev pub invariant-loop-name : goal.invariant-loop-name
invariant-loop-name l =
    l.lines.items ++ map (λ k. k.now) l.name-iterator ≡ map (λ k. k.now) l.seen.keys
