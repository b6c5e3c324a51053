-- What the root's rights bound.
use Rattle.std.specs.Prelude.{◌≡◌, ◌≢◌, ℕ, ◌<◌, true, length}
use Rattle.std.specs.List.{AllByRecursion}
use Rattle.wedge_base.specs.Images.{Image}
use Rattle.wedge_base.specs.Paths.{under}
use Rattle.wedge_base.specs.Rights.{at_least, bits_within}
use Rattle.wedge_base.specs.Sheets.{Sheet, Made, nothing_made, right_on, bits_on}
use Rattle.wedge_base.specs.declared.rights.Right.{Right}
use Rattle.callgate.specs.declared.gate.Gate.{Gate}
use Rattle.machine.specs.Actors.{ActorState, root, right_of, bits_of}

-- Whatever a sheet and what was made under it give on a declared tag or descriptor, the root of the
-- image has; where the root is not user 0, the sheet has its user and its root directory; and its
-- root directory is under that of the root.
pub record HasNoMoreThanRoot (i : Image) (s : Sheet) (m : Made) : Type 0 where
  pub tags : (tag : ℕ) → tag < length i.tags → (r : Right) → at_least (right_on s m tag) r ≡ true → at_least (right_of (root i) tag) r ≡ true
  pub fds : (fd : ℕ) → fd < length i.fds → bits_within (bits_on s m fd) (bits_of (root i) fd) ≡ true
  pub user : i.user ≢ 0 → (s.user ≡ i.user) × (s.root ≡ i.root)
  pub directory : under i.root s.root ≡ true

-- so an actor has no more, and neither has the sheet of a gate that it knows
pub record IsWithinRoot (i : Image) (a : ActorState) : Type 0 where
  pub own : HasNoMoreThanRoot i a.sheet a.made
  pub gates : AllByRecursion (λ (g : Gate). HasNoMoreThanRoot i g.sheet nothing_made) a.gates
