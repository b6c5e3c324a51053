-- The word of an instruction: its fixed fields and its operands. Sections 2.2 and 2.3 of the
-- manual.
use Rattle.std.specs.Prelude.{ℕ, ◌+◌, ◌*◌, ◌^◌}
use Rattle.rv_isa.specs.declared.Form.{Form}
use Rattle.rv_isa.specs.declared.Form.TheVariants as form
use Rattle.rv_isa.specs.declared.Instr.{Instr}
use Rattle.rv_isa.specs.Numbers.{field, word_of}
use Rattle.rv_isa.specs.Table.{row_for, form_of}

-- `width` bits of the immediate, from bit `low` up
abbrev pub imm_field : Instr → ℕ → ℕ → ℕ
imm_field i low width = field (word_of i.imm) low width

-- the operands of a form, each in its bits of the word
abbrev pub operand_bits : Form → Instr → ℕ
operand_bits form.Upper i = i.rd * 2 ^ 7 + imm_field i 12 20 * 2 ^ 12
operand_bits form.Jump i =
    i.rd * 2 ^ 7 +
    imm_field i 12 8 * 2 ^ 12 + imm_field i 11 1 * 2 ^ 20 + imm_field i 1 10 * 2 ^ 21 + imm_field i 20 1 * 2 ^ 31
operand_bits form.Branch i =
    i.rs1 * 2 ^ 15 + i.rs2 * 2 ^ 20 +
    imm_field i 11 1 * 2 ^ 7 + imm_field i 1 4 * 2 ^ 8 + imm_field i 5 6 * 2 ^ 25 + imm_field i 12 1 * 2 ^ 31
operand_bits form.Offset i = i.rd * 2 ^ 7 + i.rs1 * 2 ^ 15 + imm_field i 0 12 * 2 ^ 20
operand_bits form.Store i = i.rs1 * 2 ^ 15 + i.rs2 * 2 ^ 20 + imm_field i 0 5 * 2 ^ 7 + imm_field i 5 7 * 2 ^ 25
operand_bits form.Immediate i = i.rd * 2 ^ 7 + i.rs1 * 2 ^ 15 + imm_field i 0 12 * 2 ^ 20
operand_bits form.Shift i = i.rd * 2 ^ 7 + i.rs1 * 2 ^ 15 + imm_field i 0 5 * 2 ^ 20
operand_bits form.Register i = i.rd * 2 ^ 7 + i.rs1 * 2 ^ 15 + i.rs2 * 2 ^ 20
operand_bits form.Whole i = 0

abbrev pub encoded : Instr → ℕ
encoded i = (row_for i.op).value + operand_bits (form_of i.op) i
