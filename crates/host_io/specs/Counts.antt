-- A device's count of faults before and after a call.
use Rattle.std.specs.Prelude.{◌≡◌, ℕ, ◌<◌, Result, MatchResult}
use Rattle.host_io.specs.declared.errors.Failed.{Failed}
use Rattle.host_io.specs.declared.errors.ReadFault.{ReadFault}
use Rattle.host_io.specs.declared.errors.ReadFault.TheVariants as read

-- a call of a device: it rose where the call failed, and is as before where it did not
abbrev pub Counts : {T : Type 0} → Result T Failed → ℕ → ℕ → Type 0
Counts result before after = MatchResult result (λ _. after ≡ before) (λ _. before < after)

-- of the errors of a whole read, `Fault` comes with a rise of the count, and the others leave it as
-- it was
abbrev pub ReadCounts : ReadFault → ℕ → ℕ → Type 0
ReadCounts read.NoMemory before after = after ≡ before
ReadCounts read.Fault before after = before < after
ReadCounts (read.TooLong limit) before after = after ≡ before
