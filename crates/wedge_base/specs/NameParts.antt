-- How the parts of a name are held.
use Rattle.std.specs.Prelude.{ℕ, ◌≤◌, List, take}
use Rattle.std.specs.Arc.{arc_value}
use Rattle.wedge_base.specs.declared.names.Parts.{Parts}
use Rattle.wedge_base.specs.declared.names.Parts.TheVariants as held

-- the parts: the first few of those that are held in the name, or all that are held apart
abbrev pub parts_of : Parts → List ℕ
parts_of (held.Few count parts) = take count parts
parts_of (held.Many parts) = (arc_value parts).items

-- no more are counted than are held
abbrev pub IsCounted : Parts → Type 0
IsCounted (held.Few count parts) = count ≤ 3
IsCounted (held.Many parts) = Unit {0}
