-- The printed reasons.
use Rattle.std.specs.Prelude.{ℕ, List, codes}
use Rattle.rv_asm.specs.declared.fault.Why.{Why}
use Rattle.rv_asm.specs.declared.fault.Why.TheVariants as why

abbrev pub asm_why_word : Why → List ℕ
asm_why_word why.Mnemonic = codes "mnemonic"
asm_why_word why.Operand = codes "operand"
asm_why_word why.Range = codes "range"
asm_why_word why.Label = codes "label"
asm_why_word why.Twice = codes "twice"
