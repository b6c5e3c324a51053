-- What a caller lends to the run of a gate that it enters.

use Rattle.std.specs.Prelude.{Bool, true, Option, Some, None}
use Rattle.wedge_base.specs.Sheets.{Sheet, Draft, first_excess, sheet_of_draft, is_lendable}
use Rattle.wedge_base.specs.declared.rights.Denial.{Denial}
use Rattle.machine.specs.Actors.{ActorState}

-- nothing, or the sheet of a draft
abbrev pub sheet_lent : ActorState → Option Draft → Option Sheet
sheet_lent a None = None
sheet_lent a (Some d) = Some (sheet_of_draft a.sheet a.made d)

-- the first part of the draft that the caller may not give
abbrev pub excess_lent : ActorState → Option Draft → Option Denial
excess_lent a None = None
excess_lent a (Some d) = first_excess a.sheet a.made d

-- what is lent is on tags and descriptors alone: no copy, no gate, no user and no root directory
abbrev pub may_lend : Option Draft → Bool
may_lend None = true
may_lend (Some d) = is_lendable d
