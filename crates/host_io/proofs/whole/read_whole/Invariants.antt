use Rattle.std.proofs.Common.{◌-◌, ◌≡◌, ◌≤◌, ◌<◌, ℕ, List, take, vec_len}
use Rattle.host_io.specs.Exposed.{WhereExposed}
use Rattle.host_io.proofs.whole.read_whole.Given as goal

-- The bytes so far are the first of the file, no more than the limit, and no read has failed.
abbrev pub invariant-loop-piece : goal.invariant-loop-piece
invariant-loop-piece g l =
    let files = g.F.Files in
    record {
      in_range : vec_len l.bytes ≤ l.limit;
      room : 0 < vec_len l.piece;
      first : WhereExposed (files.content l.fn.files l.name) (λ exposed. l.bytes.items ≡ take (vec_len l.bytes) exposed);
      counted : files.faults l.files l.name ≡ files.faults l.fn.files l.name;
      risen : (other : List ℕ) → files.faults l.fn.files other ≤ files.faults l.files other;
      same : (other : List ℕ) → files.content l.files other ≡ files.content l.fn.files other;
    }

abbrev pub decreases-loop-piece : goal.decreases-loop-piece
decreases-loop-piece g l = l.limit - vec_len l.bytes
