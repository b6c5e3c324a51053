-- What a draft asks for, what an actor holds, and the first that is missing, by look-ups in maps.
use Rattle.std.specs.Prelude.{◌≡◌, ℕ, ◌<◌, Bool, true, T, List, Some, None, ◌⊎◌, ◌↔◌}
use Rattle.std.specs.FinMap.Entries.{is_sorted}
use Rattle.std.specs.Ordering.{nat_cmp}
use Rattle.wedge_base.specs.Maps.{at, is_among, AreRising}
use Rattle.wedge_base.specs.Paths.{under}
use Rattle.wedge_base.specs.Sheets.{Sheet, Made, Draft, first_excess}
use Rattle.wedge_base.specs.declared.grants.GateId.{GateId}
use Rattle.wedge_base.specs.declared.grants.Item.{Item}
use Rattle.wedge_base.specs.declared.grants.Item.TheVariants as item
use Rattle.wedge_base.specs.declared.rights.Denial.{Denial}
use Rattle.wedge_base.specs.declared.rights.Denial.TheVariants as denial
use Rattle.wedge_base.specs.declared.rights.FdBits.{FdBits}
use Rattle.wedge_base.specs.declared.rights.Grant.{Grant}
use Rattle.wedge_base.specs.declared.rights.Right.{Right}
use Rattle.wedge_base.specs.declared.rights.Right.TheVariants as right

-- ---- what a draft asks for

-- a draft asks for a right on a tag, bits on a descriptor, or the gate at an entry
abbrev pub IsAsked : Draft → Item → Type 0
IsAsked d (item.Tag tag asked) = at d.tags tag ≡ Some asked
IsAsked d (item.Fd fd asked) = at d.fds fd ≡ Some asked
IsAsked d (item.Gate entry) = is_among d.gates entry ≡ true

-- the first item comes before the second: tags by number, then descriptors by number, then gates by
-- entry
abbrev pub ComesBefore : Item → Item → Type 0
ComesBefore (item.Tag tag r) (item.Tag other q) = tag < other
ComesBefore (item.Tag tag r) (item.Fd fd b) = Unit {0}
ComesBefore (item.Tag tag r) (item.Gate entry) = Unit {0}
ComesBefore (item.Fd fd b) (item.Tag tag r) = ⊥
ComesBefore (item.Fd fd b) (item.Fd other c) = fd < other
ComesBefore (item.Fd fd b) (item.Gate entry) = Unit {0}
ComesBefore (item.Gate entry) (item.Tag tag r) = ⊥
ComesBefore (item.Gate entry) (item.Fd fd b) = ⊥
ComesBefore (item.Gate entry) (item.Gate other) = entry < other

-- the numbers of tags and descriptors and the entries of gates rise strictly, as in every draft of
-- a run
pub record IsSortedDraft (d : Draft) : Type 0 where
  pub tags : T (is_sorted nat_cmp d.tags)
  pub fds : T (is_sorted nat_cmp d.fds)
  pub gates : AreRising 0 d.gates

-- ---- what an actor holds, with this sheet and having made these

-- Cow is below Read, and Read below ReadWrite
abbrev pub IsAtMost : Right → Right → Type 0
IsAtMost right.Cow right.Cow = Unit {0}
IsAtMost right.Cow right.Read = Unit {0}
IsAtMost right.Cow right.ReadWrite = Unit {0}
IsAtMost right.Read right.Cow = ⊥
IsAtMost right.Read right.Read = Unit {0}
IsAtMost right.Read right.ReadWrite = Unit {0}
IsAtMost right.ReadWrite right.Cow = ⊥
IsAtMost right.ReadWrite right.Read = ⊥
IsAtMost right.ReadWrite right.ReadWrite = Unit {0}

-- it made the tag, or its sheet has a grant on it with at least this right
abbrev pub HoldsTag : Sheet → Made → ℕ → Right → Type 0
HoldsTag s m tag asked =
    ((slot : ℕ) × (at m.tags tag ≡ Some slot))
    ⊎ ((g : Grant) × (at s.tags tag ≡ Some g) × IsAtMost asked g.right)

-- a bit is on in its sheet's bits on a descriptor, or in those with which it opened the descriptor
abbrev pub HoldsBit : Sheet → Made → ℕ → (FdBits → Bool) → Type 0
HoldsBit s m fd bit =
    ((b : FdBits) × (at s.fds fd ≡ Some b) × (bit b ≡ true))
    ⊎ ((b : FdBits) × (at m.fds fd ≡ Some b) × (bit b ≡ true))

-- it holds each bit that is asked
pub record HoldsFd (s : Sheet) (m : Made) (fd : ℕ) (asked : FdBits) : Type 0 where
  pub read : asked.read ≡ true → HoldsBit s m fd (λ b. b.read)
  pub append : asked.append ≡ true → HoldsBit s m fd (λ b. b.append)

-- it made a gate at the entry, or its sheet has one there
abbrev pub HoldsGate : Sheet → Made → ℕ → Type 0
HoldsGate s m entry =
    ((gate : GateId) × (at m.gates entry ≡ Some gate))
    ⊎ ((gate : GateId) × (at s.gates entry ≡ Some gate))

-- it holds what an item asks for
abbrev pub HoldsItem : Sheet → Made → Item → Type 0
HoldsItem s m (item.Tag tag asked) = HoldsTag s m tag asked
HoldsItem s m (item.Fd fd asked) = HoldsFd s m fd asked
HoldsItem s m (item.Gate entry) = HoldsGate s m entry

-- the draft names no user, or the actor's own, or the actor's user is 0
abbrev pub MayGiveUser : Sheet → Draft → Type 0
MayGiveUser s d = (d.user ≡ None) ⊎ ((d.user ≡ Some s.user) ⊎ (s.user ≡ 0))

-- the draft names no root directory, or the actor's own, or, where the actor's user is 0, one under
-- the actor's own
abbrev pub MayGiveRoot : Sheet → Draft → Type 0
MayGiveRoot s d =
    (d.root ≡ None)
    ⊎ ((d.root ≡ Some s.root)
    ⊎ ((root : List ℕ) × (s.user ≡ 0) × (d.root ≡ Some root) × (under s.root root ≡ true)))

-- ---- what is missing

-- the actor holds each item that the draft asks for
abbrev pub HoldsItems : Sheet → Made → Draft → Type 0
HoldsItems s m d = (i : Item) → IsAsked d i → HoldsItem s m i

-- the actor holds all that the draft asks for
pub record IsAllHeld (s : Sheet) (m : Made) (d : Draft) : Type 0 where
  pub items : HoldsItems s m d
  pub user : MayGiveUser s d
  pub root : MayGiveRoot s d

-- an item is asked for and not held, and each one asked for that comes before it is held
pub record IsItemMissing (s : Sheet) (m : Made) (d : Draft) (i : Item) : Type 0 where
  pub asked : IsAsked d i
  pub lacking : HoldsItem s m i → ⊥
  pub before : (j : Item) → IsAsked d j → ComesBefore j i → HoldsItem s m j

-- each item is held, and the user may not be given
pub record IsUserMissing (s : Sheet) (m : Made) (d : Draft) : Type 0 where
  pub items : HoldsItems s m d
  pub lacking : MayGiveUser s d → ⊥

-- each item is held, the user may be given, and the root directory may not
pub record IsRootMissing (s : Sheet) (m : Made) (d : Draft) : Type 0 where
  pub items : HoldsItems s m d
  pub user : MayGiveUser s d
  pub lacking : MayGiveRoot s d → ⊥

-- a denial names the first part of a draft that is missing
abbrev pub IsMissing : Sheet → Made → Draft → Denial → Type 0
IsMissing s m d (denial.Grant i) = IsItemMissing s m d i
IsMissing s m d denial.User = IsUserMissing s m d
IsMissing s m d denial.Root = IsRootMissing s m d
IsMissing s m d other = ⊥

-- ---- the law

-- a draft has an excess exactly where something is missing, and the excess names what is missing
-- first
pub record ExcessNamesTheMissingGrant : Type 0 where
  pub none : (s : Sheet) (m : Made) (d : Draft) → IsSortedDraft d
      → (first_excess s m d ≡ None) ↔ IsAllHeld s m d
  pub some : (s : Sheet) (m : Made) (d : Draft) (x : Denial) → IsSortedDraft d
      → (first_excess s m d ≡ Some x) ↔ IsMissing s m d x
