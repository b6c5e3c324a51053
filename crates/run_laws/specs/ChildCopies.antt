-- The copies with which a child begins, read off the draft, the starter's rights and own copies,
-- and the slots: a second statement, beside the step; and that tags are copied for nothing else.
use Rattle.std.specs.Prelude.{◌≡◌, ◌≢◌, ℕ, ◌==◌, Bool, true, false, List, [], ◌∷◌, ◌++◌, filter_map, Option, Some, None, IsSomeAnd, option_map, slice_get, unwrap_or, if◌then◌else◌}
use Rattle.std.specs.List.{AllByRecursion}
use Rattle.std.specs.Option.{option_or}
use Rattle.cow_pages.specs.Copies.{Copies, copy_at}
use Rattle.cow_pages.specs.Listed.{bytes_listed}
use Rattle.cow_pages.specs.PrivateMemory.{PrivateMemory}
use Rattle.wedge_base.specs.Bytes.{zeros}
use Rattle.wedge_base.specs.Images.{Image}
use Rattle.wedge_base.specs.Maps.{Map}
use Rattle.wedge_base.specs.Pages.{PageAt, pages_of}
use Rattle.wedge_base.specs.Sheets.{sheet_of_draft, empty_draft}
use Rattle.wedge_events.specs.Slots.{Segment}
use Rattle.wedge_events.specs.declared.cells.LivesAsk.TheVariants as lives_ask
use Rattle.wedge_events.specs.declared.cells.LivesReply.TheVariants as lives_reply
use Rattle.wedge_events.specs.declared.cells.SlotAsk.TheVariants as slot_ask
use Rattle.wedge_events.specs.declared.cells.SlotReply.{SlotReply}
use Rattle.wedge_events.specs.declared.cells.SlotReply.TheVariants as slot_reply
use Rattle.wedge_events.specs.declared.events.Event.{Event}
use Rattle.wedge_events.specs.declared.events.Event.TheVariants as event
use Rattle.wedge_base.specs.declared.rights.Grant.{Grant}
use Rattle.wedge_base.specs.declared.rights.Right.{Right}
use Rattle.wedge_base.specs.declared.rights.Right.TheVariants as right
use Rattle.rv_hart.specs.Local.{reg}
use Rattle.machine.specs.declared.copy_grant.CopyGrant.{CopyGrant}
use Rattle.machine.specs.declared.phase.Phase.{Phase}
use Rattle.machine.specs.declared.phase.Phase.TheVariants as phase
use Rattle.machine.specs.Actors.{ActorState, right_of}
use Rattle.machine.specs.Cells.{slot_in}
use Rattle.machine.specs.Preparation.{Preparation, copied_from}
use Rattle.machine.specs.Worlds.{WorldState, actor_named}

-- the grants of copies that a child is to have, by the draft at hand: one for each tag on which the
-- draft gives the right to a copy alone, in the order of the tags' numbers
abbrev pub copy_asked : ℕ → ℕ → Right → Option CopyGrant
copy_asked tag slot right.Cow = Some (record { tag = tag; slot = slot })
copy_asked tag slot r = None

abbrev pub copies_in : Map Grant → List CopyGrant
copies_in gs = filter_map (λ e. copy_asked e.0 e.1.slot e.1.right) gs

abbrev pub grants_asked : ActorState → List CopyGrant
grants_asked a = copies_in (sheet_of_draft a.sheet a.made (unwrap_or (slice_get a.drafts (reg a.hart.regs 10)) empty_draft)).tags

-- what the starter's own copies give at a slot, by grants in order, of which the last counts
abbrev pub own_at : Copies → ℕ → List CopyGrant → Option (List ℕ)
own_at own slot [] = None
own_at own slot (g ∷ gs) = option_or (own_at own slot gs) (if g.slot == slot then copy_at own slot else None)

-- the first grant of which a copy is to be made is one on a tag to which the starter has more than
-- the right to a copy
abbrev pub IsOfTag : ActorState → List CopyGrant → Type 0
IsOfTag a [] = Unit {0}
IsOfTag a (g ∷ gs) = right_of a g.tag ≢ Some right.Cow

-- From a memory and the grants that are left: the copies of those before the first of a tag are
-- made of the starter's own, at the slots of the grants, and nothing else in the memory changes.
pub record IsPrepared (a : ActorState) (m : PrivateMemory) (gs : List CopyGrant) (p : Preparation) : Type 0 where
  pub done : List CopyGrant
  pub split : gs ≡ done ++ p.left
  pub own : AllByRecursion (λ g. right_of a g.tag ≡ Some right.Cow) done
  pub next : IsOfTag a p.left
  pub ranges : p.memory.ranges ≡ m.ranges
  pub copies : (slot : ℕ) → copy_at p.memory.copies slot ≡ option_or (own_at a.memory.copies slot done) (copy_at m.copies slot)

-- an actor that prepares a child from such a memory and such grants on, and is otherwise as before
pub record Prepares (a : ActorState) (m : PrivateMemory) (gs : List CopyGrant) (b : ActorState) : Type 0 where
  pub preparation : Preparation
  pub prepared : IsPrepared a m gs preparation
  pub after : b ≡ record a { phase = phase.Starting preparation }

-- the pages of a tag, if it lives in the slot, and the reply to who asks for a copy of it
abbrev pub pages_living : Option Segment → ℕ → Option (List PageAt)
pages_living None tag = None
pages_living (Some g) tag = if g.tag == tag then Some (pages_of g.bytes) else None

abbrev pub snap_reply : Option (List PageAt) → SlotReply
snap_reply None = slot_reply.Gone
snap_reply (Some pages) = slot_reply.Snapped pages

-- no child is being prepared
abbrev pub NotPreparing : Phase → Type 0
NotPreparing (phase.Starting p) = ⊥
NotPreparing p = Unit {0}

-- a copy of the next tag is asked for: it holds the pages that the tag has at that event, at the
-- grant's slot
abbrev pub SnapsNext : WorldState → ActorState → Preparation → List CopyGrant → Event → ActorState → Type 0
SnapsNext old a p [] e b = NotPreparing b.phase
SnapsNext old a p (g ∷ gs) e b =
    (e ≡ event.Slot g.slot (slot_ask.Snap g.tag) (snap_reply (pages_living (slot_in old.cells g.slot) g.tag)))
    × Prepares a (copied_from (option_map bytes_listed (pages_living (slot_in old.cells g.slot) g.tag)) g.slot p.memory) gs b

-- the private memory with which a child, and each run of a gate, begins before copies are made: 131,072
-- zero bytes from 0x20000000 on, for stack and heap, and the data ranges of the image as the image has them
abbrev pub memory_of_image : Image → PrivateMemory
memory_of_image i = record { ranges = record { base = 0x20000000; bytes = zeros 131072 } ∷ i.ranges; copies = [] }

-- a child is prepared from the moment at which a life is claimed for it, from that memory on
abbrev pub PreparesBy : WorldState → ActorState → Phase → Event → ActorState → Type 0
PreparesBy old a (phase.Starting p) e b = SnapsNext old a p p.left e b
PreparesBy old a q (event.Lives lives_ask.Claim lives_reply.Claimed) b = Prepares a (memory_of_image old.image) (grants_asked a) b
PreparesBy old a q e b = NotPreparing b.phase

abbrev pub MakesCopies : WorldState → ActorState → Option Event → WorldState → Type 0
MakesCopies old a None new = IsSomeAnd (actor_named new.actors a.name) (λ b. NotPreparing b.phase)
MakesCopies old a (Some e) new = IsSomeAnd (actor_named new.actors a.name) (PreparesBy old a a.phase e)

-- ---- tags are copied for a child that is prepared, or for the runs of a gate that is made, alone

-- whether a reply gives a copy of a tag's bytes, or that the tag to be copied lives no more
abbrev pub is_snapped : SlotReply → Bool
is_snapped (slot_reply.Snapped pages) = true
is_snapped slot_reply.Gone = true
is_snapped r = false

abbrev pub is_snap : Event → Bool
is_snap (event.Slot slot q r) = is_snapped r
is_snap e = false

abbrev pub SnapsAt : Phase → Event → Type 0
SnapsAt (phase.Starting p) e = Unit {0}
SnapsAt (phase.MakingGate p) e = Unit {0}
SnapsAt p e = is_snap e ≡ false

abbrev pub SnapsForCopies : ActorState → Option Event → Type 0
SnapsForCopies a None = Unit {0}
SnapsForCopies a (Some e) = SnapsAt a.phase e
