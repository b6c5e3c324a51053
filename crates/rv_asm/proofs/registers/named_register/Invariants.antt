use Rattle.std.proofs.Common.{◌≡◌, ℕ, ◌<◌, false}
use Rattle.std.specs.Str.{bytes_eq}
use Rattle.rv_isa.specs.Text.{register_name}
use Rattle.rv_asm.proofs.registers.named_register.Given as goal

abbrev pub invariant-loop-n : goal.invariant-loop-n
invariant-loop-n l = (k : ℕ) → k < l.n → bytes_eq (register_name k) l.text ≡ false
