use Rattle.std.proofs.Common.{◌≡◌, ◌++◌, drop}
use Rattle.cb_log.specs.Marks.{marks_of_notes}
use Rattle.cb_log.proofs.marking.marks_of_notes.Given as goal

-- The marks so far, with those of what is left, are all.
abbrev pub invariant-loop-i : goal.invariant-loop-i
invariant-loop-i l = l.marks.items ++ marks_of_notes (drop l.i l.turns) (drop l.i l.notes) ≡ marks_of_notes l.turns l.notes
