-- What the turns of notes are: those in which the schedule's notes were made.
use Rattle.std.specs.Prelude.{◌≡◌, ℕ, ◌≤◌, List, length, take, count_by, nat_le}
use Rattle.std.specs.List.{AllByRecursion}
use Rattle.std.specs.List.Sorted.{IsNonDecreasing}
use Rattle.wedge_base.specs.Images.{Image}
use Rattle.run_log.specs.Logging.{log_of}
use Rattle.run_log.specs.NoteTurns.{note_turns}

-- each note has the number of a turn of the schedule, and numbers do not fall; as many are up to k
-- as the first k turns have notes
pub record AreTurnsOfNotes (i : Image) (names : List (List ℕ)) : Type 0 where
  pub each : length (note_turns i names) ≡ length (log_of i names).notes
  pub within : AllByRecursion (λ t. (1 ≤ t) × (t ≤ length names)) (note_turns i names)
  pub in_order : IsNonDecreasing (note_turns i names)
  pub up_to : (k : ℕ)
      → count_by (λ t. nat_le t k) (note_turns i names) ≡ length (log_of i (take k names)).notes

abbrev pub EachNoteHasItsTurn : Type 0
EachNoteHasItsTurn = (i : Image) (names : List (List ℕ)) → AreTurnsOfNotes i names
