-- What a note names: things that the image declares, or that the run made.
use Rattle.std.specs.Prelude.{◌≡◌, ℕ, ◌<◌, true, List, length}
use Rattle.std.specs.List.{AllByRecursion, list_any}
use Rattle.wedge_base.specs.Images.{Image, begins_at}
use Rattle.image_form.specs.Rules.{IsImage}
use Rattle.wedge_base.specs.Names.{same}
use Rattle.trace_form.specs.Grammar.{mode_fits}
use Rattle.trace_form.specs.declared.words.Kind.{Kind}
use Rattle.trace_form.specs.declared.words.Kind.TheVariants as kind
use Rattle.run_notes.specs.declared.items.NoteItem.{NoteItem}
use Rattle.run_notes.specs.declared.items.NoteItem.TheVariants as item
use Rattle.run_notes.specs.declared.note.Note.{Note}
use Rattle.run_log.specs.Logging.{log_of}

-- a procedure begins at an address, and a path is that of a file
abbrev pub BeginsAt : Image → ℕ → Type 0
BeginsAt i address = begins_at i.procedures address ≡ true

abbrev pub IsFileOf : Image → List ℕ → Type 0
IsFileOf i path = list_any (λ f. same f.path path) i.files ≡ true

-- a tag that the image declares, or one that a run made, and the compartment that made it
abbrev pub IsTagNamed : Image → NoteItem → Type 0
IsTagNamed i (item.Declared tag) = tag < length i.tags
IsTagNamed i (item.Made compartment pc) = BeginsAt i compartment
IsTagNamed i it = ⊥

-- a descriptor that the image declares, or one of its files
abbrev pub IsStreamNamed : Image → NoteItem → Type 0
IsStreamNamed i (item.Fd number) = number < length i.fds
IsStreamNamed i (item.File path) = IsFileOf i path
IsStreamNamed i it = ⊥

-- a gate, by the procedure at its entry
abbrev pub IsGateNamed : Image → NoteItem → Type 0
IsGateNamed i (item.Gate entry) = BeginsAt i entry
IsGateNamed i it = ⊥

-- what is loaded from and stored to is a tag, what is read and appended to a stream, and what is
-- called a gate
abbrev pub IsItemNamed : Image → Kind → NoteItem → Type 0
IsItemNamed i kind.Load it = IsTagNamed i it
IsItemNamed i kind.Store it = IsTagNamed i it
IsItemNamed i kind.Read it = IsStreamNamed i it
IsItemNamed i kind.Append it = IsStreamNamed i it
IsItemNamed i kind.Call it = IsGateNamed i it

-- the compartment is a procedure, a private access is a load or a store, and the item is of its
-- kind
pub record IsNamed (i : Image) (n : Note) : Type 0 where
  pub compartment : BeginsAt i n.compartment
  pub mode : mode_fits n.kind n.mode ≡ true
  pub item : IsItemNamed i n.kind n.item

-- so it is of each note of a schedule over a valid image
abbrev pub NotesAreNamed : Type 0
NotesAreNamed = (i : Image) (names : List (List ℕ))
    → IsImage i → AllByRecursion (IsNamed i) (log_of i names).notes
