-- The sheet of a gate's run, read grant by grant.
use Rattle.std.specs.Prelude.{◌≡◌, ℕ, Option, option_and_then}
use Rattle.std.specs.Option.{option_or}
use Rattle.wedge_base.specs.Maps.{at}
use Rattle.wedge_base.specs.Sheets.{Sheet}
use Rattle.wedge_base.specs.declared.rights.FdBits.{FdBits}
use Rattle.wedge_base.specs.declared.rights.Grant.{Grant}

-- what is lent on a tag, and on a descriptor
abbrev pub tag_lent : Option Sheet → ℕ → Option Grant
tag_lent lent tag = option_and_then (λ s. at s.tags tag) lent

abbrev pub fd_lent : Option Sheet → ℕ → Option FdBits
fd_lent lent fd = option_and_then (λ s. at s.fds fd) lent

-- each grant on a tag or a descriptor is the gate's, or where the gate's sheet names none the lent
-- one; all else is the gate's
pub record IsRunSheet (gate : Sheet) (lent : Option Sheet) (run : Sheet) : Type 0 where
  pub tags : (tag : ℕ) → at run.tags tag ≡ option_or (at gate.tags tag) (tag_lent lent tag)
  pub fds : (fd : ℕ) → at run.fds fd ≡ option_or (at gate.fds fd) (fd_lent lent fd)
  pub gates : run.gates ≡ gate.gates
  pub user : run.user ≡ gate.user
  pub root : run.root ≡ gate.root
