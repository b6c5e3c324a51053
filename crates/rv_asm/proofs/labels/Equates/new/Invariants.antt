use Rattle.std.proofs.Common.{◌≡◌, ℕ, List, take}
use Rattle.std.specs.HashMap.{get_by}
use Rattle.std.specs.Str.{bytes_eq}
use Rattle.rv_asm.specs.Assembly as assembly
use Rattle.rv_asm.proofs.labels.Equates.new.Given as goal

abbrev pub invariant-loop-equate : goal.invariant-loop-equate
invariant-loop-equate l = (q : List ℕ) → get_by (λ k. bytes_eq q k.now) l.map ≡ assembly.equates_of (take l.equate-index l.names) q
