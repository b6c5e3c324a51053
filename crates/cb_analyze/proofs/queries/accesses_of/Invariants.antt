use Rattle.std.proofs.Common.{◌≡◌, map, filter}
use Rattle.trace_form.specs.Records.{records_of}
use Rattle.cb_analyze.specs.FirstSeen.{with_elements}
use Rattle.cb_analyze.specs.Access.{access_of, same_access, access_view}
use Rattle.cb_analyze.specs.Matching.{has_frame}
use Rattle.cb_analyze.specs.Queries.{accesses_of}
use Rattle.cb_analyze.proofs.queries.accesses_of.Given as goal

-- Those so far, with those of the records that are left, are all.
abbrev pub invariant-loop-row : goal.invariant-loop-row
invariant-loop-row l =
    with_elements same_access (map access_view l.seen.keys) (map access_of (filter (has_frame l.name) l.row-iterator))
    ≡ accesses_of l.name (records_of l.bytes)
