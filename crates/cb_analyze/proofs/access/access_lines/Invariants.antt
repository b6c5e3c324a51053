use Rattle.std.proofs.Common.{◌≡◌, ◌++◌, map}
use Rattle.cb_analyze.specs.Access.{access_line, access_view}
use Rattle.cb_analyze.proofs.access.access_lines.Given as goal

-- The lines so far, with those of the accesses that are left, are all.
abbrev pub invariant-loop-access : goal.invariant-loop-access
invariant-loop-access l =
    l.lines.items ++ map access_line (map access_view l.access-iterator)
    ≡ map access_line (map access_view l.seen.keys)
