-- The words for what is wrong with a line.
use Rattle.std.specs.Prelude.{ℕ, List, codes, Option, Some, None}
use Rattle.trace_form.specs.declared.fault.Why.{Why}
use Rattle.trace_form.specs.declared.fault.Why.TheVariants as why
use Rattle.trace_form.specs.declared.fault.TraceFault.{TraceFault}

abbrev pub why_word : Why → List ℕ
why_word why.Line = codes "line"
why_word why.Name = codes "name"
why_word why.Number = codes "number"
why_word why.End = codes "end"
why_word why.Limit = codes "limit"

-- the fault of the line with this number, from 1
abbrev pub fault_at : ℕ → Why → Option TraceFault
fault_at at w = Some (record { at = at; why = w })

-- the first of two faults
abbrev pub or_fault : Option Why → Option Why → Option Why
or_fault (Some w) later = Some w
or_fault None later = later
