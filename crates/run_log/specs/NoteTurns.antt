-- In which turn each note of a schedule was made. Turns have numbers from 1.
use Rattle.std.specs.Prelude.{ℕ, ◌+◌, ◌-◌, List, [], ◌∷◌, ◌++◌, length, replicate, Some, None}
use Rattle.wedge_base.specs.Images.{Image}
use Rattle.machine.specs.Worlds.{WorldState, initial_state, turn_of}
use Rattle.run_log.specs.Logs.{Log}
use Rattle.run_log.specs.Logging.{opening_log, log_turn}

-- those of a turn: its number, once for each note that it added
abbrev pub turns_added : ℕ → Log → Log → List ℕ
turns_added number old new = replicate (length new.notes - length old.notes) number

-- those of the turns that these actors take after so many, up to the first that has none
unfoldable pub note_turns_from : WorldState → Log → ℕ → List (List ℕ) → List ℕ
note_turns_from w l before [] = []
note_turns_from w l before (name ∷ names) = elim (turn_of w name) [
  | None ↦ []
  | Some t ↦ turns_added (before + 1) l (log_turn w l name t.event)
      ++ note_turns_from t.world (log_turn w l name t.event) (before + 1) names
]

abbrev pub note_turns : Image → List (List ℕ) → List ℕ
note_turns i names = note_turns_from (initial_state i) (opening_log i) 0 names
