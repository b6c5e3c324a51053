-- What the chain of calls of every note is.
use Rattle.std.specs.Prelude.{◌≡◌, ℕ, ◌<◌, true, List, [], ◌∷◌, length}
use Rattle.std.specs.List.{AllByRecursion}
use Rattle.wedge_base.specs.Images.{Image, in_text}
use Rattle.image_form.specs.Address.{proc_of}
use Rattle.run_notes.specs.declared.note.Note.{Note}
use Rattle.run_log.specs.Logging.{log_of}

-- the procedure to which an address of the text belongs
abbrev pub IsProcedureIn : Image → ℕ → Type 0
IsProcedureIn i f = (target : ℕ) × (in_text i target 1 ≡ true) × (f ≡ proc_of i target)

-- the first frame is the compartment, and at most 63 procedures that were called follow
abbrev pub IsFramed : Image → ℕ → List ℕ → Type 0
IsFramed i compartment [] = ⊥
IsFramed i compartment (f ∷ fs) = (f ≡ compartment) × (length fs < 64) × AllByRecursion (IsProcedureIn i) fs

abbrev pub IsNoteFramed : Image → Note → Type 0
IsNoteFramed i n = IsFramed i n.compartment n.chain

-- so it is of each note of a schedule
abbrev pub ChainsAreWellFormed : Type 0
ChainsAreWellFormed = (i : Image) (names : List (List ℕ)) → AllByRecursion (IsNoteFramed i) (log_of i names).notes
