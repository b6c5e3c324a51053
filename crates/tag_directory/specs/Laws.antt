-- What holds of every list of asks to a directory.
use Rattle.std.specs.Prelude.{◌≡◌, ℕ, zero, suc, ◌+◌, ◌==◌, true, false, List, [], ◌∷◌, length, Some, nat_lt}
use Rattle.wedge_events.specs.Directories.{Directory, Claim, claim, directory, directory_reply, directory_next, contains_place, is_claimed}
use Rattle.wedge_events.specs.declared.cells.DirectoryAsk.{DirectoryAsk}
use Rattle.wedge_events.specs.declared.cells.DirectoryReply.{DirectoryReply}
use Rattle.wedge_events.specs.declared.cells.DirectoryReply.TheVariants as reply

-- the number in a reply, if it has one, before others
abbrev pub with_reply_number : DirectoryReply → List ℕ → List ℕ
with_reply_number (reply.Claimed place number) ns = number ∷ ns
with_reply_number r ns = ns

-- the numbers in a directory's replies to these asks, one after another
abbrev pub numbers_given : Directory → List DirectoryAsk → List ℕ
numbers_given d [] = []
numbers_given d (q ∷ qs) = with_reply_number (directory_reply d q) (numbers_given (directory_next d q) qs)

-- so many numbers from one on
abbrev pub from_on : ℕ → ℕ → List ℕ
from_on n zero = []
from_on n (suc k) = n ∷ from_on (n + 1) k

-- the numbers count up from the directory's next one: so none is given twice
abbrev pub NumbersAreGivenOnce : Type 0
NumbersAreGivenOnce = (d : Directory) (asks : List DirectoryAsk) → numbers_given d asks ≡ from_on d.number (length (numbers_given d asks))

-- each slot that is released was used, and is listed once
abbrev pub AreReleased : ℕ → List ℕ → Type 0
AreReleased unused [] = Unit {0}
AreReleased unused (p ∷ ps) = (nat_lt p unused ≡ true) × (contains_place ps p ≡ false) × AreReleased unused ps

-- a claim allocates a slot that was free, which is claimed then, and changes nothing of any other
-- slot
pub record IsClaimed (d : Directory) (c : Claim) : Type 0 where
  pub free : is_claimed d c.place ≡ false
  pub taken : is_claimed c.left c.place ≡ true
  pub others : (p : ℕ) → (c.place == p) ≡ false → is_claimed c.left p ≡ is_claimed d p

-- A directory begins with nothing released, and each ask keeps its released slots distinct. So each
-- claim allocates a free slot.
pub record PlacesAreGivenApart : Type 0 where
  pub begins : (places claimed : ℕ) → AreReleased (directory places claimed).unused (directory places claimed).released
  pub keeps : (d : Directory) (q : DirectoryAsk) → AreReleased d.unused d.released → AreReleased (directory_next d q).unused (directory_next d q).released
  pub gives : (d : Directory) (c : Claim) → AreReleased d.unused d.released → claim d ≡ Some c → IsClaimed d c
