-- The sheet with which the root of a run begins, by look-ups in what the image declares.
use Rattle.std.specs.Prelude.{◌≡◌, ℕ, List, [], Some, option_map, option_and_then, slice_get}
use Rattle.wedge_base.specs.Maps.{at}
use Rattle.wedge_base.specs.Sheets.{Sheet, root_sheet}
use Rattle.wedge_base.specs.declared.image.TagEntry.{TagEntry}
use Rattle.wedge_base.specs.declared.image.FdEntry.{FdEntry}
use Rattle.wedge_base.specs.declared.rights.Grant.{Grant}

-- a sheet has exactly the rights and bits that are declared, no gates, this user and this root
-- directory
pub record IsDeclaredSheet
    (ts : List TagEntry) (fs : List FdEntry) (given_user : ℕ) (given_root : List ℕ)
    (s : Sheet) : Type 0 where
  -- the right on each tag is the one that is declared for the tag of that index, if one is
  pub rights : (tag : ℕ)
      → option_map (λ g. g.right) (at s.tags tag)
      ≡ option_and_then (λ t. t.right) (slice_get ts tag)
  -- each is in the slot of its number
  pub slots : (tag : ℕ) (g : Grant) → at s.tags tag ≡ Some g → g.slot ≡ tag
  -- the bits on each descriptor are those that are declared for the descriptor of that index
  pub bits : (fd : ℕ) → at s.fds fd ≡ option_map (λ f. f.bits) (slice_get fs fd)
  pub gates : s.gates ≡ []
  pub user : s.user ≡ given_user
  pub root : s.root ≡ given_root

-- ---- the law

-- the root of a run begins with what is declared
abbrev pub RootSheetsAreDeclared : Type 0
RootSheetsAreDeclared =
    (ts : List TagEntry) (fs : List FdEntry) (user : ℕ) (root : List ℕ)
    → IsDeclaredSheet ts fs user root (root_sheet ts fs user root)
