-- What is wrong with a chain.
use Rattle.std.specs.Prelude.{ℕ, ◌+◌, List, [], ◌∷◌, Option, Some, None, nat_le, if◌then◌else◌}
use Rattle.wedge_base.specs.Texts.{is_name}
use Rattle.trace_form.specs.declared.fault.Why.{Why}
use Rattle.trace_form.specs.declared.fault.Why.TheVariants as why
use Rattle.trace_form.specs.Grammar.{most_frames}

-- the first fault of the frames after so many others: one frame too many, or a malformed name
abbrev pub frames_fault : ℕ → List (List ℕ) → Option Why
frames_fault n [] = None
frames_fault n (f ∷ fs) =
    if nat_le most_frames n then Some why.Line
    else (if is_name f then frames_fault (n + 1) fs else Some why.Name)
