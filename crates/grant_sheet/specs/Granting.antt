-- Sheets that are within what an actor holds.
use Rattle.std.specs.Prelude.{◌≡◌, ℕ, true, Some, ◌⊎◌}
use Rattle.wedge_base.specs.Maps.{at}
use Rattle.wedge_base.specs.Paths.{under}
use Rattle.wedge_base.specs.Rights.{at_least, bits_within}
use Rattle.wedge_base.specs.Sheets.{Sheet, Made, right_on, bits_on, bits_in, gate_at, slot_on}
use Rattle.wedge_base.specs.declared.grants.GateId.{GateId}
use Rattle.wedge_base.specs.declared.rights.Grant.{Grant}

-- a sheet is within what an actor holds, which has a sheet and made things
pub record IsWithin (s : Sheet) (m : Made) (child : Sheet) : Type 0 where
  -- each right on a tag is at most the actor's, and the tag is in the same slot
  pub tags : (tag : ℕ) (g : Grant) → at child.tags tag ≡ Some g
      → at_least (right_on s m tag) g.right ≡ true
  pub slots : (tag : ℕ) (g : Grant) → at child.tags tag ≡ Some g → slot_on s m tag ≡ Some g.slot
  -- each bit is among the actor's
  pub fds : (fd : ℕ) → bits_within (bits_in child.fds fd) (bits_on s m fd) ≡ true
  -- each gate is the actor's at that entry
  pub gates : (entry : ℕ) (gate : GateId) → at child.gates entry ≡ Some gate
      → gate_at s m entry ≡ Some gate
  -- the user is the actor's, or the actor's is 0
  pub user : (child.user ≡ s.user) ⊎ (s.user ≡ 0)
  -- the root directory is the actor's, or is under it where the actor's user is 0
  pub root : (child.root ≡ s.root) ⊎ ((s.user ≡ 0) × (under s.root child.root ≡ true))
