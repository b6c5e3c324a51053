-- The root as a run begins, read off the image: a second statement, beside `root`.
use Rattle.std.specs.Prelude.{◌≡◌, ℕ, ◌-◌, ◌*◌, List, [], ◌∷◌, ◌++◌, length, replicate, slice_get, slice_set, Option, Some, None}
use Rattle.cow_pages.specs.Copies.{copy_at}
use Rattle.wedge_base.specs.Bytes.{zeros}
use Rattle.wedge_base.specs.Images.{Image}
use Rattle.wedge_base.specs.declared.image.TagEntry.{TagEntry}
use Rattle.wedge_base.specs.declared.rights.Right.{Right}
use Rattle.wedge_base.specs.declared.rights.Right.TheVariants as right
use Rattle.grant_sheet.specs.RootSheets.{IsDeclaredSheet}
use Rattle.machine.specs.Actors.{ActorState}
use Rattle.run_laws.specs.ChildCopies.{memory_of_image}
use Rattle.run_laws.specs.Families.{IsFresh}
use Rattle.machine.specs.Worlds.{initial_state}

-- the copy that the root has at a slot: of the tag that is declared with the right to a copy alone
-- and has the slot's number, with its content and zeros up to its pages
abbrev pub copied_under : Option Right → List ℕ → Option (List ℕ)
copied_under (Some right.Cow) bytes = Some bytes
copied_under r bytes = None

abbrev pub declared_copy : Option TagEntry → Option (List ℕ)
declared_copy None = None
declared_copy (Some t) = copied_under t.right (t.content ++ zeros (t.pages * 4096 - length t.content))

-- It runs at the image's entry, with its fuel, and has the image's data, a private range of zeros
-- and those copies; its sheet has exactly what the image declares; it is in no gate, knows none,
-- and has done nothing.
pub record IsRootOf (i : Image) (a : ActorState) : Type 0 where
  pub name : a.name ≡ 0 ∷ []
  pub compartment : a.compartment ≡ i.entry
  pub own : a.run_of ≡ None
  pub hart : a.hart ≡ record { pc = i.entry; regs = slice_set (replicate 32 0) 2 0x20020000 }
  pub ranges : a.memory.ranges ≡ (memory_of_image i).ranges
  pub copies : (slot : ℕ) → copy_at a.memory.copies slot ≡ declared_copy (slice_get i.tags slot)
  pub sheet : IsDeclaredSheet i.tags i.fds i.user i.root a.sheet
  pub fuel : a.fuel ≡ i.fuel
  pub gates : a.gates ≡ []
  pub fresh : IsFresh a

-- as a run of an image begins there is the root, and nobody else; and it is of that image
abbrev pub RootBegins : Type 0
RootBegins = (i : Image) → ((initial_state i).image ≡ i) × ((a : ActorState) × ((initial_state i).actors ≡ a ∷ []) × IsRootOf i a)
