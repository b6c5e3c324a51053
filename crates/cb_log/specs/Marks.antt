-- Where in a run the accesses of its trace were made.
use Rattle.std.specs.Prelude.{ℕ, List, map, zip}
use Rattle.wedge_base.specs.Images.{Image}
use Rattle.run_notes.specs.declared.note.Note.{Note}
use Rattle.run_log.specs.Logging.{log_of}
use Rattle.run_log.specs.NoteTurns.{note_turns}
use Rattle.sheet_enforce.specs.declared.marks.Mark.{Mark}

-- the mark of a note that was made in this turn
abbrev pub mark_of : ℕ → Note → Mark
mark_of turn n = record { turn = turn; actor = n.actor; pc = n.pc }

-- those of notes, by the turns in which they were made
abbrev pub marks_of_notes : List ℕ → List Note → List Mark
marks_of_notes turns notes = map (λ p. mark_of p.0 p.1) (zip turns notes)

-- the marks of the run in which these actors take their turns
abbrev pub marks_of : Image → List (List ℕ) → List Mark
marks_of i names = marks_of_notes (note_turns i names) (log_of i names).notes
