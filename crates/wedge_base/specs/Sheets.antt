-- Sheets and drafts: what an actor holds, what a draft asks for, and the first part of it that its
-- creator may not grant.
use Rattle.std.specs.Prelude.{ℕ, ◌+◌, ◌==◌, Bool, true, false, not, ◌&&◌, ◌||◌, List, [], ◌∷◌, ◌++◌, length, map, find, filter_map, Option, Some, None, is_some, is_none, unwrap_or, option_map, nat_le, if◌then◌else◌}
use Rattle.std.specs.Option.{option_or}
use Rattle.std.specs.List.{list_any}
use Rattle.wedge_base.specs.Maps.{Map, at, has, with, map_union, with_number, is_among}
use Rattle.wedge_base.specs.Names.{same}
use Rattle.wedge_base.specs.Paths.{under}
use Rattle.wedge_base.specs.Rights.{at_least, no_bits, bits_within}
use Rattle.wedge_base.specs.declared.grants.GateId.{GateId}
use Rattle.wedge_base.specs.declared.grants.Item.{Item}
use Rattle.wedge_base.specs.declared.grants.Item.TheVariants as item
use Rattle.wedge_base.specs.declared.image.TagEntry.{TagEntry}
use Rattle.wedge_base.specs.declared.image.FdEntry.{FdEntry}
use Rattle.wedge_base.specs.declared.rights.Right.{Right}
use Rattle.wedge_base.specs.declared.rights.Right.TheVariants as right
use Rattle.wedge_base.specs.declared.rights.FdBits.{FdBits}
use Rattle.wedge_base.specs.declared.rights.Grant.{Grant}
use Rattle.wedge_base.specs.declared.rights.Denial.{Denial}
use Rattle.wedge_base.specs.declared.rights.Denial.TheVariants as denial

-- all that an actor was given when it began: rights on tags, bits on descriptors, gates by their
-- entries, a user and a root directory
pub record Sheet : Type 0 where
  pub tags : Map Grant
  pub fds : Map FdBits
  pub gates : Map GateId
  pub user : ℕ
  pub root : List ℕ

-- what an actor made since: the slots of its tags, the bits of the descriptors that it opened, its
-- last gate at each entry, and how many gates it made
pub record Made : Type 0 where
  pub tags : Map ℕ
  pub fds : Map FdBits
  pub gates : Map GateId
  pub count : ℕ

-- what a sheet is to be made of: the gates by their entries
pub record Draft : Type 0 where
  pub tags : Map Right
  pub fds : Map FdBits
  pub gates : List ℕ
  pub user : Option ℕ
  pub root : Option (List ℕ)

abbrev pub nothing_made : Made
nothing_made = record { tags = []; fds = []; gates = []; count = 0 }

abbrev pub empty_draft : Draft
empty_draft = record { tags = []; fds = []; gates = []; user = None; root = None }

-- ---- the sheet with which the root of a run begins

-- the grants on the tags above n, and one on tag n where the root has a right on it: a declared tag
-- is in the slot of its own number
abbrev pub with_grant : ℕ → Option Right → Map Grant → Map Grant
with_grant n None gs = gs
with_grant n (Some r) gs = (n, record { right = r; slot = n }) ∷ gs

-- the root's grants on declared tags, which are numbered by their indices from a number on
abbrev pub root_tags : ℕ → List TagEntry → Map Grant
root_tags n [] = []
root_tags n (t ∷ ts) = with_grant n t.right (root_tags (n + 1) ts)

-- the root's bits on declared descriptors, numbered likewise
abbrev pub root_fds : ℕ → List FdEntry → Map FdBits
root_fds n [] = []
root_fds n (f ∷ fs) = (n, f.bits) ∷ root_fds (n + 1) fs

-- the sheet with which the root begins: these grants, no gates, a user and a root directory
abbrev pub root_sheet : List TagEntry → List FdEntry → ℕ → List ℕ → Sheet
root_sheet ts fs user root = record {
  tags = root_tags 0 ts;
  fds = root_fds 0 fs;
  gates = [];
  user = user;
  root = root;
}

-- ---- bits

-- bits that are among those of one or of the other
abbrev pub either_bits : FdBits → FdBits → FdBits
either_bits a b = record { read = a.read || b.read; append = a.append || b.append }

-- the bits on a descriptor, or none
abbrev pub bits_in : Map FdBits → ℕ → FdBits
bits_in m fd = unwrap_or (at m fd) no_bits

-- ---- what an actor holds, with this sheet and having made these

-- ReadWrite on each tag that it made, else what its sheet gives
abbrev pub right_on : Sheet → Made → ℕ → Option Right
right_on s m tag =
    if has m.tags tag then Some right.ReadWrite
    else option_map (λ g. g.right) (at s.tags tag)

-- the bits that its sheet gives, and those with which it opened the descriptor
abbrev pub bits_on : Sheet → Made → ℕ → FdBits
bits_on s m fd = either_bits (bits_in s.fds fd) (bits_in m.fds fd)

-- the last gate that it made at an entry, else the one that its sheet gives
abbrev pub gate_at : Sheet → Made → ℕ → Option GateId
gate_at s m entry = option_or (at m.gates entry) (at s.gates entry)

-- the slot in which a tag that it holds was opened
abbrev pub slot_on : Sheet → Made → ℕ → Option ℕ
slot_on s m tag = option_or (at m.tags tag) (option_map (λ g. g.slot) (at s.tags tag))

-- ---- what it may grant

abbrev pub may_grant : Sheet → Made → Item → Bool
may_grant s m (item.Tag tag asked) = at_least (right_on s m tag) asked
may_grant s m (item.Fd fd asked) = bits_within asked (bits_on s m fd)
may_grant s m (item.Gate entry) = is_some (gate_at s m entry)

-- a user may be given where it is unset or equal, and any by user 0
abbrev pub may_be_user : Sheet → Option ℕ → Bool
may_be_user s None = true
may_be_user s (Some user) = (user == s.user) || (s.user == 0)

-- a root directory may be given where it is unset or equal, and any under its own by user 0
abbrev pub may_be_root : Sheet → Option (List ℕ) → Bool
may_be_root s None = true
may_be_root s (Some root) = same root s.root || ((s.user == 0) && under s.root root)

-- ---- the first part of a draft that it may not grant: tags by number, descriptors by number,
-- gates by entry, user, root

abbrev pub tag_item : ℕ × Right → Item
tag_item e = item.Tag e.0 e.1

abbrev pub fd_item : ℕ × FdBits → Item
fd_item e = item.Fd e.0 e.1

abbrev pub items : Draft → List Item
items d = map tag_item d.tags ++ map fd_item d.fds ++ map item.Gate d.gates

-- the first item that it may not grant
abbrev pub item_excess : Sheet → Made → List Item → Option Item
item_excess s m is = find (λ i. not (may_grant s m i)) is

-- the user that it may not give, or else the root directory
abbrev pub user_excess : Sheet → Draft → Option Denial
user_excess s d =
    if not (may_be_user s d.user) then Some denial.User
    else if not (may_be_root s d.root) then Some denial.Root
    else None

-- the first of all that it may not give
abbrev pub first_excess : Sheet → Made → Draft → Option Denial
first_excess s m d =
    option_or (option_map denial.Grant (item_excess s m (items d))) (user_excess s d)

-- ---- the sheet of a draft

abbrev pub tag_granted : Sheet → Made → ℕ × Right → ℕ × Grant
tag_granted s m e = (e.0, record { right = e.1; slot = unwrap_or (slot_on s m e.0) 0 })

abbrev pub gate_granted : Sheet → Made → ℕ → Option (ℕ × GateId)
gate_granted s m entry = option_map (λ id. (entry, id)) (gate_at s m entry)

abbrev pub sheet_of_draft : Sheet → Made → Draft → Sheet
sheet_of_draft s m d = record {
  tags = map (tag_granted s m) d.tags;
  fds = d.fds;
  gates = filter_map (gate_granted s m) d.gates;
  user = unwrap_or d.user s.user;
  root = unwrap_or d.root s.root;
}

-- ---- the room of a draft: its tags, descriptors and gates together

abbrev pub most_grants : ℕ
most_grants = 1024

abbrev pub grant_count : Draft → ℕ
grant_count d = length d.tags + length d.fds + length d.gates

abbrev pub is_full : Draft → Bool
is_full d = nat_le most_grants (grant_count d)

-- a draft takes a grant where it is not full, or has the item already
abbrev pub takes_tag : Draft → ℕ → Bool
takes_tag d tag = has d.tags tag || not (is_full d)

abbrev pub takes_fd : Draft → ℕ → Bool
takes_fd d fd = has d.fds fd || not (is_full d)

abbrev pub takes_gate : Draft → ℕ → Bool
takes_gate d entry = is_among d.gates entry || not (is_full d)

-- ---- drafts with one grant more, and an actor that made one thing more

abbrev pub with_tag : Draft → ℕ → Right → Draft
with_tag d tag right = record d { tags = with d.tags tag right }

abbrev pub with_fd : Draft → ℕ → FdBits → Draft
with_fd d fd bits = record d { fds = with d.fds fd bits }

abbrev pub with_gate : Draft → ℕ → Draft
with_gate d entry = record d { gates = with_number d.gates entry }

abbrev pub made_tag : Made → ℕ → ℕ → Made
made_tag m tag slot = record m { tags = with m.tags tag slot }

abbrev pub made_fd : Made → ℕ → FdBits → Made
made_fd m fd bits = record m { fds = with m.fds fd bits }

abbrev pub made_gate : Made → ℕ → GateId → Made
made_gate m entry gate = record m { gates = with m.gates entry gate; count = m.count + 1 }

-- ---- lending to a gate

abbrev pub is_copy : Right → Bool
is_copy right.Cow = true
is_copy r = false

-- a draft may be lent where it has no copy, no gate, no user and no root
abbrev pub is_lendable : Draft → Bool
is_lendable d =
    not (list_any (λ e. is_copy e.1) d.tags)
    && (length d.gates == 0)
    && is_none d.user
    && is_none d.root

-- a gate's sheet, with the lent grants on tags and descriptors that it does not name
abbrev pub lent_to : Sheet → Option Sheet → Sheet
lent_to gate None = gate
lent_to gate (Some lent) = record gate {
  tags = map_union gate.tags lent.tags;
  fds = map_union gate.fds lent.fds;
}
