-- Content written at the start of zeros.
use Rattle.std.proofs.Common.{◌≡◌, ℕ, ◌+◌, ◌-◌, List, ◌++◌, length, replicate, ap, arith}
use Rattle.std.proofs.lemmas.List.{drop-replicate}
use Rattle.wedge_base.specs.Bytes.{overwrite, zeros}

pub written_on_zeros : (n : ℕ) (new : List ℕ) → overwrite (replicate n 0) 0 new ≡ new ++ zeros (n - length new)
unfolding zeros
written_on_zeros n new =
    let e : 0 + length new ≡ length new = omega arith in
    rw e (ap (λ (z : List ℕ). new ++ z) (drop-replicate (length new) n 0))
