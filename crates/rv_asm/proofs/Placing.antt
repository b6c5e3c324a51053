-- The number that an instruction's text has is the one that the instruction is given.
use Rattle.std.proofs.Common.{◌≡◌, ℕ, ◌-◌, ◌*◌, ◌/◌, ◌%◌, ◌^◌, ◌<◌, true, [], ◌∷◌, Ok, ℤ, pos, negsuc, ◌≤ℤ◌, int_le, refl, arith}
use Rattle.std.specs.Int.{w32, cast_signed}
use Rattle.std.proofs.lemmas.Bool.{eq-eqb}
use Rattle.std.proofs.lemmas.Int.{ints}
use Rattle.rv_isa.specs.declared.Form.{Form}
use Rattle.rv_isa.specs.declared.Form.TheVariants as form
use Rattle.rv_isa.specs.declared.Instr.{Instr}
use Rattle.rv_isa.specs.Numbers.{word_of}
use Rattle.rv_isa.specs.Ranges.{Ranges, ranges, HasOperandsIn}
use Rattle.rv_isa.specs.Table.{form_of}
use Rattle.rv_isa.specs.Encoding.{encoded}
use Rattle.rv_asm.specs.Numbers as number
use Rattle.rv_asm.specs.Statements.{template}
use Rattle.rv_asm.specs.Assembly.{Equates, Labels, allowed, is_allowed, checked_immediate, operand_value, instruction}

-- the number that a text of a form has
abbrev pub written : Form → ℤ → ℤ
written form.Upper z = pos (word_of z / 2 ^ 12)
written _ z = z

test_le : (a b : ℤ) → a ≤ℤ b → int_le a b ≡ true
test_le a b h = grind (arith, ints)

test_allowed : (r : Ranges) (z : ℤ) → r.low ≤ℤ z → z ≤ℤ r.high → word_of z % r.step ≡ 0 → is_allowed r z ≡ true
test_allowed r z low high step = rw (test_le r.low z low, test_le z r.high high, eq-eqb _ _ step) refl

upper_back : (z : ℤ) → negsuc (2 ^ 31 - 1) ≤ℤ z → z ≤ℤ pos (2 ^ 31 - 1) → word_of z % 2 ^ 12 ≡ 0 → cast_signed w32 (word_of (pos (word_of z / 2 ^ 12)) * 2 ^ 12 % 2 ^ 32) ≡ z
upper_back z low high step = grind (arith, ints)

upper_small : (z : ℤ) → word_of z < 2 ^ 32
upper_small z = grind arith

pub immediate_written : (f : Form) (i : Instr) → HasOperandsIn (ranges f) i → checked_immediate f (written f i.imm) ≡ Ok i.imm
immediate_written form.Upper i h =
    let small = upper_small i.imm in
    let u = word_of i.imm / 2 ^ 12 in
    let in_range : is_allowed (allowed form.Upper) (pos u) ≡ true = test_allowed (allowed form.Upper) (pos u) (omega (arith, ints)) (omega (arith, ints)) (omega arith) in
    rw (in_range, upper_back i.imm h.low (omega (arith, ints, h.high)) h.step) refl
immediate_written form.Jump i h = rw (test_allowed (ranges form.Jump) i.imm h.low h.high h.step) refl
immediate_written form.Branch i h = rw (test_allowed (ranges form.Branch) i.imm h.low h.high h.step) refl
immediate_written form.Offset i h = rw (test_allowed (ranges form.Offset) i.imm h.low h.high h.step) refl
immediate_written form.Store i h = rw (test_allowed (ranges form.Store) i.imm h.low h.high h.step) refl
immediate_written form.Immediate i h = rw (test_allowed (ranges form.Immediate) i.imm h.low h.high h.step) refl
immediate_written form.Shift i h = rw (test_allowed (ranges form.Shift) i.imm h.low h.high h.step) refl
immediate_written form.Register i h = rw (test_allowed (ranges form.Register) i.imm h.low h.high h.step) refl
immediate_written form.Whole i h = rw (test_allowed (ranges form.Whole) i.imm h.low h.high h.step) refl

wanted_literal : (f : Form) (es : Equates) (ls : Labels) (at : ℕ) (z : ℤ) → operand_value f es ls at (number.Literal z) ≡ Ok z
wanted_literal form.Jump es ls at z = refl
wanted_literal _ es ls at z = refl

-- an instruction with that number, whatever the names are
pub instruction_written : (i : Instr) (es : Equates) (ls : Labels) (at : ℕ) → HasOperandsIn (ranges (form_of i.op)) i → instruction es ls at (template i.op i.rd i.rs1 i.rs2 (number.Literal (written (form_of i.op) i.imm))) ≡ Ok (encoded i ∷ [])
unfolding instruction
instruction_written i es ls at h = rw (wanted_literal (form_of i.op) es ls at (written (form_of i.op) i.imm), immediate_written (form_of i.op) i h) refl
