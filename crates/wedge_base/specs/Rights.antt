-- Rights, and when one is enough.
use Rattle.std.specs.Prelude.{ℕ, Bool, true, false, ◌&&◌, Option, Some, None, nat_le, if◌then◌else◌}
use Rattle.wedge_base.specs.declared.rights.Right.{Right}
use Rattle.wedge_base.specs.declared.rights.Right.TheVariants as right
use Rattle.wedge_base.specs.declared.rights.FdBits.{FdBits}

-- Cow < Read < ReadWrite: Cow is the lowest
abbrev pub rank : Right → ℕ
rank right.Cow = 1
rank right.Read = 2
rank right.ReadWrite = 3

-- whether a right is at least the one that is asked
abbrev pub at_least : Option Right → Right → Bool
at_least None asked = false
at_least (Some held) asked = nat_le (rank asked) (rank held)

abbrev pub no_bits : FdBits
no_bits = record { read = false; append = false }

abbrev pub read_bit : FdBits
read_bit = record { read = true; append = false }

abbrev pub append_bit : FdBits
append_bit = record { read = false; append = true }

-- whether each bit that is asked is among those held
abbrev pub bits_within : FdBits → FdBits → Bool
bits_within asked held = (if asked.read then held.read else true) && (if asked.append then held.append else true)
