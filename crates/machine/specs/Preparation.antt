-- The private copies with which actors begin.
use Rattle.std.specs.Prelude.{ℕ, ◌+◌, List, [], ◌∷◌, Option, Some, None, if◌then◌else◌}
use Rattle.cow_pages.specs.Copies.{Copies, copy_at, with_copy}
use Rattle.cow_pages.specs.PrivateMemory.{PrivateMemory}
use Rattle.wedge_base.specs.Sheets.{Sheet, Made, right_on}
use Rattle.wedge_events.specs.Slots.{declared_segment}
use Rattle.wedge_base.specs.declared.image.TagEntry.{TagEntry}
use Rattle.machine.specs.CopyGrant.{is_copy_alone}
use Rattle.machine.specs.declared.copy_grant.CopyGrant.{CopyGrant}

-- ---- the root

-- copies of the declared tags on which the root has the right to a copy alone, with the bytes that
-- the image declares; the tags are numbered by their indices, from a number on
abbrev pub with_declared : Copies → ℕ → List TagEntry → Copies
with_declared copies n [] = copies
with_declared copies n (t ∷ ts) = with_declared (if is_copy_alone t.right then with_copy copies n (declared_segment n t).bytes else copies) (n + 1) ts

-- ---- a child, and the runs of a gate

-- The memory with which a child, or the runs of a gate, are to begin, as it is prepared: the memory
-- so far, and the grants of copies of which none is made yet.
pub record Preparation : Type 0 where
  pub memory : PrivateMemory
  pub left : List CopyGrant

-- a copy of these bytes, if there are any, is put at a slot, in place of the one that is there
abbrev pub copied_from : Option (List ℕ) → ℕ → PrivateMemory → PrivateMemory
copied_from None slot m = m
copied_from (Some bytes) slot m = record m { copies = with_copy m.copies slot bytes }

-- Where the actor that prepares the memory has the right to a copy alone, the copy is made of its
-- own one, if it has one. At the first tag on which it has a higher right this stops: that copy is
-- to be made of the tag itself.
abbrev pub prepare_copies : Sheet → Made → Copies → PrivateMemory → List CopyGrant → Preparation
prepare_copies s made own m [] = record { memory = m; left = [] }
prepare_copies s made own m (g ∷ gs) =
    if is_copy_alone (right_on s made g.tag) then prepare_copies s made own (copied_from (copy_at own g.slot) g.slot m) gs
    else record { memory = m; left = g ∷ gs }

-- the grants after the first
abbrev pub behind_first : List CopyGrant → List CopyGrant
behind_first [] = []
behind_first (g ∷ gs) = gs
