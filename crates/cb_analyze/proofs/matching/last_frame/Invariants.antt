use Rattle.std.proofs.Common.{◌≡◌, []}
use Rattle.trace_form.specs.Grammar.{frames}
use Rattle.cb_analyze.specs.Matching.{last_from}
use Rattle.cb_analyze.proofs.matching.last_frame.Given as goal

-- The last of the frames that are left, or else the one before them, is that of all.
abbrev pub invariant-loop-frame : goal.invariant-loop-frame
invariant-loop-frame l = last_from l.last l.frame-iterator ≡ last_from [] (frames l.row.chain.now)
