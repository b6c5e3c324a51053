-- What a draft asks for after a grant is added, and what an actor has made after it makes one thing
-- more, by look-ups.
use Rattle.std.specs.Prelude.{◌≡◌, ℕ, ◌+◌, true, Some}
use Rattle.wedge_base.specs.Maps.{at, is_among}
use Rattle.wedge_base.specs.Sheets.{Made, Draft, empty_draft, with_tag, with_fd, with_gate, made_tag, made_fd, made_gate}
use Rattle.wedge_base.specs.declared.grants.GateId.{GateId}
use Rattle.wedge_base.specs.declared.rights.FdBits.{FdBits}
use Rattle.wedge_base.specs.declared.rights.Right.{Right}
use Rattle.grant_sheet.specs.Missing.{IsSortedDraft}

-- ---- drafts

-- a draft asks for this right on a tag, and for all else as another does
pub record HasTagMore (d : Draft) (tag : ℕ) (asked : Right) (new : Draft) : Type 0 where
  pub there : at new.tags tag ≡ Some asked
  pub others : (k : ℕ) → (k ≡ tag → ⊥) → at new.tags k ≡ at d.tags k
  pub fds : new.fds ≡ d.fds
  pub gates : new.gates ≡ d.gates
  pub user : new.user ≡ d.user
  pub root : new.root ≡ d.root

-- a draft asks for these bits on a descriptor, and for all else as another does
pub record HasFdMore (d : Draft) (fd : ℕ) (asked : FdBits) (new : Draft) : Type 0 where
  pub there : at new.fds fd ≡ Some asked
  pub others : (k : ℕ) → (k ≡ fd → ⊥) → at new.fds k ≡ at d.fds k
  pub tags : new.tags ≡ d.tags
  pub gates : new.gates ≡ d.gates
  pub user : new.user ≡ d.user
  pub root : new.root ≡ d.root

-- a draft asks for the gate at an entry, and for all else as another does
pub record HasGateMore (d : Draft) (entry : ℕ) (new : Draft) : Type 0 where
  pub there : is_among new.gates entry ≡ true
  pub others : (k : ℕ) → (k ≡ entry → ⊥) → is_among new.gates k ≡ is_among d.gates k
  pub tags : new.tags ≡ d.tags
  pub fds : new.fds ≡ d.fds
  pub user : new.user ≡ d.user
  pub root : new.root ≡ d.root

-- ---- what an actor made

-- an actor made a tag in this slot, and all else as before
pub record MadeTagMore (m : Made) (tag slot : ℕ) (new : Made) : Type 0 where
  pub there : at new.tags tag ≡ Some slot
  pub others : (k : ℕ) → (k ≡ tag → ⊥) → at new.tags k ≡ at m.tags k
  pub fds : new.fds ≡ m.fds
  pub gates : new.gates ≡ m.gates
  pub count : new.count ≡ m.count

-- an actor opened a descriptor with these bits, and made all else as before
pub record MadeFdMore (m : Made) (fd : ℕ) (bits : FdBits) (new : Made) : Type 0 where
  pub there : at new.fds fd ≡ Some bits
  pub others : (k : ℕ) → (k ≡ fd → ⊥) → at new.fds k ≡ at m.fds k
  pub tags : new.tags ≡ m.tags
  pub gates : new.gates ≡ m.gates
  pub count : new.count ≡ m.count

-- the last gate that an actor made at an entry is this one, it is counted, and all else is as
-- before
pub record MadeGateMore (m : Made) (entry : ℕ) (gate : GateId) (new : Made) : Type 0 where
  pub there : at new.gates entry ≡ Some gate
  pub others : (k : ℕ) → (k ≡ entry → ⊥) → at new.gates k ≡ at m.gates k
  pub count : new.count ≡ m.count + 1
  pub tags : new.tags ≡ m.tags
  pub fds : new.fds ≡ m.fds

-- ---- the law

-- a draft to which a grant is added asks for exactly that grant at its key, and for all else as
-- before; an actor that makes one thing more has made exactly that at its key, and all else as
-- before
pub record DraftsTakeOneGrant : Type 0 where
  pub tag : (d : Draft) (k : ℕ) (asked : Right) → HasTagMore d k asked (with_tag d k asked)
  pub fd : (d : Draft) (k : ℕ) (asked : FdBits) → HasFdMore d k asked (with_fd d k asked)
  pub gate : (d : Draft) (k : ℕ) → HasGateMore d k (with_gate d k)
  pub tag_made : (m : Made) (k slot : ℕ) → MadeTagMore m k slot (made_tag m k slot)
  pub fd_made : (m : Made) (k : ℕ) (bits : FdBits) → MadeFdMore m k bits (made_fd m k bits)
  pub gate_made : (m : Made) (k : ℕ) (gate : GateId) → MadeGateMore m k gate (made_gate m k gate)
  pub empty_sorted : IsSortedDraft empty_draft
  pub tag_sorted : (d : Draft) (k : ℕ) (asked : Right) → IsSortedDraft d → IsSortedDraft (with_tag d k asked)
  pub fd_sorted : (d : Draft) (k : ℕ) (asked : FdBits) → IsSortedDraft d → IsSortedDraft (with_fd d k asked)
  pub gate_sorted : (d : Draft) (k : ℕ) → IsSortedDraft d → IsSortedDraft (with_gate d k)
