-- Who may open a file.
use Rattle.std.specs.Prelude.{ℕ, ◌/◌, ◌%◌, ◌==◌, Bool, ◌||◌, if◌then◌else◌}
use Rattle.wedge_base.specs.Rights.{bits_within}
use Rattle.wedge_base.specs.declared.rights.FdBits.{FdBits}
use Rattle.wedge_base.specs.declared.image.FileEntry.{FileEntry}

-- bit 0 of a number is the bit to read, bit 1 the bit to append
abbrev pub bits_from : ℕ → FdBits
bits_from n = record { read = n % 2 == 1; append = n / 2 % 2 == 1 }

-- user 0 may open any file, the owner by the two low bits of the mode, others by the next two
abbrev pub may_open : ℕ → FileEntry → FdBits → Bool
may_open user f bits = user == 0 || bits_within bits (bits_from (if user == f.owner then f.mode else f.mode / 4))
