-- Grants of copies of tags.
use Rattle.std.specs.Prelude.{Bool, true, false, List, [], ◌∷◌, Option, Some, if◌then◌else◌}
use Rattle.wedge_base.specs.Maps.{Map}
use Rattle.wedge_base.specs.Sheets.{is_copy}
use Rattle.wedge_base.specs.declared.rights.Grant.{Grant}
use Rattle.wedge_base.specs.declared.rights.Right.{Right}
use Rattle.wedge_base.specs.declared.rights.Right.TheVariants as right
use Rattle.machine.specs.declared.copy_grant.CopyGrant.{CopyGrant}

-- whether the right to a copy is all that one has
abbrev pub is_copy_alone : Option Right → Bool
is_copy_alone (Some right.Cow) = true
is_copy_alone r = false

-- the grants of copies of a sheet, in the order of the tags' numbers
abbrev pub copy_grants : Map Grant → List CopyGrant
copy_grants [] = []
copy_grants (e ∷ es) = if is_copy e.1.right then record { tag = e.0; slot = e.1.slot } ∷ copy_grants es else copy_grants es
