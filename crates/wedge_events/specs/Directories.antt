-- The two directories: one allocates slots, each with a new tag number, the other descriptors. In
-- the comments below, 'slot' means either.
use Rattle.std.specs.Prelude.{ℕ, ◌+◌, ◌==◌, Bool, not, ◌&&◌, List, [], ◌∷◌, length, Option, Some, None, nat_lt, if◌then◌else◌}
use Rattle.std.specs.List.{list_any}
use Rattle.wedge_base.specs.Images.{Image, slots}
use Rattle.wedge_events.specs.Streams.{most_fds}
use Rattle.wedge_events.specs.declared.cells.DirectoryAsk.{DirectoryAsk}
use Rattle.wedge_events.specs.declared.cells.DirectoryAsk.TheVariants as ask
use Rattle.wedge_events.specs.declared.cells.DirectoryReply.{DirectoryReply}
use Rattle.wedge_events.specs.declared.cells.DirectoryReply.TheVariants as reply

-- how many slots there are, the next number, the least slot never used, and the slots released, the
-- last one first
pub record Directory : Type 0 where
  pub places : ℕ
  pub number : ℕ
  pub unused : ℕ
  pub released : List ℕ

-- tag numbers are 0 to 4,294,967,294
abbrev pub no_number : ℕ
no_number = 4294967295

-- a claim: the slot, and the directory after it
pub record Claim : Type 0 where
  pub place : ℕ
  pub left : Directory

-- the slot released last is claimed first, then the least slot never used
abbrev pub claim_from : Directory → List ℕ → Option Claim
claim_from d [] = if nat_lt d.unused d.places then Some (record { place = d.unused; left = record d { number = d.number + 1; unused = d.unused + 1 } }) else None
claim_from d (p ∷ ps) = Some (record { place = p; left = record d { number = d.number + 1; released = ps } })

abbrev pub claim : Directory → Option Claim
claim d = if nat_lt d.number no_number then claim_from d d.released else None

abbrev pub claim_reply : Directory → Option Claim → DirectoryReply
claim_reply d None = reply.Full
claim_reply d (Some c) = reply.Claimed c.place d.number

abbrev pub claim_next : Directory → Option Claim → Directory
claim_next d None = d
claim_next d (Some c) = c.left

-- whether a slot is in a list of slots
abbrev pub contains_place : List ℕ → ℕ → Bool
contains_place places place = list_any (λ p. p == place) places

-- whether a slot is claimed now
abbrev pub is_claimed : Directory → ℕ → Bool
is_claimed d place = nat_lt place d.unused && not (contains_place d.released place)

-- a claimed slot is put before those released earlier; the release of any other changes nothing
abbrev pub release : Directory → ℕ → Directory
release d place = if is_claimed d place then record d { released = place ∷ d.released } else d

abbrev pub directory_reply : Directory → DirectoryAsk → DirectoryReply
directory_reply d ask.Claim = claim_reply d (claim d)
directory_reply d (ask.Release place) = reply.Released

abbrev pub directory_next : Directory → DirectoryAsk → Directory
directory_next d ask.Claim = claim_next d (claim d)
directory_next d (ask.Release place) = release d place

-- a directory of so many slots, of which so many are claimed: the least ones
abbrev pub directory : ℕ → ℕ → Directory
directory places claimed = record { places = places; number = claimed; unused = claimed; released = [] }

-- as a run begins, what the image declares is claimed
abbrev pub slots_opening : Image → Directory
slots_opening i = directory slots (length i.tags)

abbrev pub fds_opening : Image → Directory
fds_opening i = directory most_fds (length i.fds)

-- each ask fits
abbrev pub DirectoryFits : Directory → DirectoryAsk → Type 0
DirectoryFits d q = Unit {0}
