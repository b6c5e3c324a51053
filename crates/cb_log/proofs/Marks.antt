-- There is a mark for each record of a run's trace.
use Rattle.std.proofs.Common.{◌≡◌, ℕ, suc, List, [], ◌∷◌, length, sym, ap, ◌∙◌, arith}
use Rattle.std.proofs.lemmas.List.{length-map}
use Rattle.wedge_base.specs.Images.{Image}
use Rattle.run_notes.specs.declared.note.Note.{Note}
use Rattle.run_log.specs.Logging.{log_of}
use Rattle.run_log.specs.NoteTurns.{note_turns}
use Rattle.run_log.proofs.TurnLaws.{as_many_turns}
use Rattle.cb_log.specs.Logs.{records_of}
use Rattle.cb_log.specs.Marks.{marks_of_notes, marks_of}
use Rattle.cb_log.specs.Texts.{record_of}

marks_count : (turns : List ℕ) (notes : List Note) → length turns ≡ length notes → length (marks_of_notes turns notes) ≡ length notes
marks_count [] notes same = same
marks_count (t ∷ ts) [] same = absurd (omega (arith, same))
marks_count (t ∷ ts) (n ∷ ns) same = ap suc (marks_count ts ns (omega (arith, same)))

pub as_many_marks : (i : Image) (names : List (List ℕ)) → length (marks_of i names) ≡ length (records_of i names)
as_many_marks i names =
    let notes = (log_of i names).notes in
    marks_count (note_turns i names) notes (as_many_turns i names) ∙ sym (length-map notes (record_of i))
