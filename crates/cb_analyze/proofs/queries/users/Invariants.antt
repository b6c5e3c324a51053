use Rattle.std.proofs.Common.{◌≡◌, map, filter}
use Rattle.std.specs.Str.{bytes_eq}
use Rattle.trace_form.specs.Records.{records_of}
use Rattle.cb_analyze.specs.FirstSeen.{with_elements}
use Rattle.cb_analyze.specs.Matching.{has_item, last_frame}
use Rattle.cb_analyze.specs.Queries.{users}
use Rattle.cb_analyze.proofs.queries.users.Given as goal

-- Those so far, with those of the records that are left, are all.
abbrev pub invariant-loop-row : goal.invariant-loop-row
invariant-loop-row l =
    with_elements bytes_eq (map (λ k. k.now) l.seen.keys) (map last_frame (filter (has_item l.item) l.row-iterator))
    ≡ users l.item (records_of l.bytes)
