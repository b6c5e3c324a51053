-- Operands in range are those of a word.
use Rattle.std.proofs.Common.{◌≡◌, ℕ, ◌+◌, ◌-◌, ◌*◌, ◌/◌, ◌%◌, ◌^◌, ◌<◌, bit_and, refl, sym, ◌∙◌, arith, ℤ, pos, negsuc, ◌≤ℤ◌}
use Rattle.std.proofs.lemmas.Int.{ints}
use Rattle.rv_isa.specs.Numbers.{field, signed, word_of}
use Rattle.rv_isa.specs.declared.Op.{Op}
use Rattle.rv_isa.specs.declared.Form.{Form}
use Rattle.rv_isa.specs.declared.Form.TheVariants as form
use Rattle.rv_isa.specs.declared.Instr.{Instr}
use Rattle.rv_isa.specs.Table.{instr, instr_of_form}
use Rattle.rv_isa.specs.Encoding.{operand_bits}
use Rattle.rv_isa.specs.Ranges.{ranges, HasOperandsIn}
use Rattle.rv_isa.proofs.Bridge.{opcode_kept, funct3_kept, funct7_kept, word_kept}
use Rattle.rv_isa.proofs.Words.{mask_of, low_13, low_21, low_32}

-- a signed number in range is that of its low bits
signed_12 : (z : ℤ) → negsuc (2 ^ 11 - 1) ≤ℤ z → z ≤ℤ pos (2 ^ 11 - 1) → signed 12 (word_of z % 2 ^ 12) ≡ z
signed_12 z low high = grind (arith, ints)

signed_13 : (z : ℤ) → negsuc (2 ^ 12 - 1) ≤ℤ z → z ≤ℤ pos (2 ^ 12 - 2) → signed 13 (word_of z % 2 ^ 13) ≡ z
signed_13 z low high = grind (arith, ints)

signed_21 : (z : ℤ) → negsuc (2 ^ 20 - 1) ≤ℤ z → z ≤ℤ pos (2 ^ 20 - 2) → signed 21 (word_of z % 2 ^ 21) ≡ z
signed_21 z low high = grind (arith, ints)

signed_32 : (z : ℤ) → negsuc (2 ^ 31 - 1) ≤ℤ z → z ≤ℤ pos (2 ^ 31 - 2 ^ 12) → signed 32 (word_of z) ≡ z
signed_32 z low high = grind (arith, ints)

amount : (z : ℤ) → pos 0 ≤ℤ z → z ≤ℤ pos 31 → pos (word_of z % 2 ^ 5) ≡ z
amount z low high = grind (arith, ints)

-- a word whose fixed fields are v, and whose operands are those of i
pub record IsRebuilt (f : Form) (v : ℕ) (i : Instr) (w : ℕ) : Type 0 where
  pub small : w < 2 ^ 32
  pub fixed : bit_and w (mask_of f) ≡ v
  pub is : instr_of_form f i.op w ≡ i

same_instr : (i : Instr) (rd rs1 rs2 : ℕ) (imm : ℤ) → rd ≡ i.rd → rs1 ≡ i.rs1 → rs2 ≡ i.rs2 → imm ≡ i.imm → instr i.op rd rs1 rs2 imm ≡ i
same_instr i rd rs1 rs2 imm h₁ h₂ h₃ h₄ = rw (h₁, h₂, h₃, h₄) refl

word_small : (z : ℤ) → word_of z < 2 ^ 32
word_small (pos n) = omega arith
word_small (negsuc n) = omega arith

-- fixed fields that have no bit outside the mask
opcode_plain : (v : ℕ) → bit_and v 0x7f ≡ v → v % 2 ^ 7 ≡ v
opcode_plain v h = sym (opcode_kept v) ∙ h

funct3_plain : (v : ℕ) → bit_and v 0x707f ≡ v → v / 2 ^ 12 % 2 ^ 3 * 2 ^ 12 + v % 2 ^ 7 ≡ v
funct3_plain v h = sym (funct3_kept v) ∙ h

funct7_plain : (v : ℕ) → v < 2 ^ 32 → bit_and v 0xfe00707f ≡ v → v / 2 ^ 25 * 2 ^ 25 + (v / 2 ^ 12 % 2 ^ 3 * 2 ^ 12 + v % 2 ^ 7) ≡ v
funct7_plain v small h = sym (funct7_kept v small) ∙ h

pub rebuilt : (f : Form) (v : ℕ) (i : Instr) → v < 2 ^ 32 → bit_and v (mask_of f) ≡ v → HasOperandsIn (ranges f) i → IsRebuilt f v i (v + operand_bits f i)
rebuilt form.Upper v i fits h r =
    let plain : v % 2 ^ 7 ≡ v = opcode_plain v h in
    let w : ℕ = v + operand_bits form.Upper i in
    let bound : word_of i.imm < 2 ^ 32 = word_small i.imm in
    let imm : w / 2 ^ 12 * 2 ^ 12 ≡ word_of i.imm = omega arith in
    record {
      small = omega arith;
      fixed = rw (opcode_kept w) (omega arith);
      is = same_instr i _ _ _ _ (omega arith) (omega arith) (omega arith) (rw imm (signed_32 i.imm r.low r.high));
    }
rebuilt form.Jump v i fits h r =
    let plain : v % 2 ^ 7 ≡ v = opcode_plain v h in
    let w : ℕ = v + operand_bits form.Jump i in
    let imm : field w 31 1 * 2 ^ 20 + field w 12 8 * 2 ^ 12 + field w 20 1 * 2 ^ 11 + field w 21 10 * 2 ≡ word_of i.imm % 2 ^ 21 = omega arith in
    record {
      small = omega arith;
      fixed = rw (opcode_kept w) (omega arith);
      is = same_instr i _ _ _ _ (omega arith) (omega arith) (omega arith) (rw imm (signed_21 i.imm r.low r.high));
    }
rebuilt form.Branch v i fits h r =
    let plain : v / 2 ^ 12 % 2 ^ 3 * 2 ^ 12 + v % 2 ^ 7 ≡ v = funct3_plain v h in
    let w : ℕ = v + operand_bits form.Branch i in
    let imm : field w 31 1 * 2 ^ 12 + field w 7 1 * 2 ^ 11 + field w 25 6 * 2 ^ 5 + field w 8 4 * 2 ≡ word_of i.imm % 2 ^ 13 = omega arith in
    record {
      small = omega arith;
      fixed = rw (funct3_kept w) (omega arith);
      is = same_instr i _ _ _ _ (omega arith) (omega arith) (omega arith) (rw imm (signed_13 i.imm r.low r.high));
    }
rebuilt form.Offset v i fits h r =
    let plain : v / 2 ^ 12 % 2 ^ 3 * 2 ^ 12 + v % 2 ^ 7 ≡ v = funct3_plain v h in
    let w : ℕ = v + operand_bits form.Offset i in
    let imm : field w 20 12 ≡ word_of i.imm % 2 ^ 12 = omega arith in
    record {
      small = omega arith;
      fixed = rw (funct3_kept w) (omega arith);
      is = same_instr i _ _ _ _ (omega arith) (omega arith) (omega arith) (rw imm (signed_12 i.imm r.low r.high));
    }
rebuilt form.Store v i fits h r =
    let plain : v / 2 ^ 12 % 2 ^ 3 * 2 ^ 12 + v % 2 ^ 7 ≡ v = funct3_plain v h in
    let w : ℕ = v + operand_bits form.Store i in
    let imm : field w 25 7 * 2 ^ 5 + field w 7 5 ≡ word_of i.imm % 2 ^ 12 = omega arith in
    record {
      small = omega arith;
      fixed = rw (funct3_kept w) (omega arith);
      is = same_instr i _ _ _ _ (omega arith) (omega arith) (omega arith) (rw imm (signed_12 i.imm r.low r.high));
    }
rebuilt form.Immediate v i fits h r =
    let plain : v / 2 ^ 12 % 2 ^ 3 * 2 ^ 12 + v % 2 ^ 7 ≡ v = funct3_plain v h in
    let w : ℕ = v + operand_bits form.Immediate i in
    let imm : field w 20 12 ≡ word_of i.imm % 2 ^ 12 = omega arith in
    record {
      small = omega arith;
      fixed = rw (funct3_kept w) (omega arith);
      is = same_instr i _ _ _ _ (omega arith) (omega arith) (omega arith) (rw imm (signed_12 i.imm r.low r.high));
    }
rebuilt form.Shift v i fits h r =
    let plain : v / 2 ^ 25 * 2 ^ 25 + (v / 2 ^ 12 % 2 ^ 3 * 2 ^ 12 + v % 2 ^ 7) ≡ v = funct7_plain v fits h in
    let w : ℕ = v + operand_bits form.Shift i in
    let small : w < 2 ^ 32 = omega arith in
    let imm : field w 20 5 ≡ word_of i.imm % 2 ^ 5 = omega arith in
    record {
      small = small;
      fixed = rw (funct7_kept w small) (omega arith);
      is = same_instr i _ _ _ _ (omega arith) (omega arith) (omega arith) (rw imm (amount i.imm r.low r.high));
    }
rebuilt form.Register v i fits h r =
    let plain : v / 2 ^ 25 * 2 ^ 25 + (v / 2 ^ 12 % 2 ^ 3 * 2 ^ 12 + v % 2 ^ 7) ≡ v = funct7_plain v fits h in
    let w : ℕ = v + operand_bits form.Register i in
    let small : w < 2 ^ 32 = omega arith in
    record {
      small = small;
      fixed = rw (funct7_kept w small) (omega arith);
      is = same_instr i _ _ _ _ (omega arith) (omega arith) (omega arith) (omega (arith, ints));
    }
rebuilt form.Whole v i fits h r = record {
  small = omega arith;
  fixed = rw (word_kept (v + 0) (omega arith)) (omega arith);
  is = same_instr i _ _ _ _ (omega arith) (omega arith) (omega arith) (omega (arith, ints));
}

-- the other way: the operands of a word are in range
within_12 : (n : ℕ) → n < 2 ^ 12 → (negsuc (2 ^ 11 - 1) ≤ℤ signed 12 n) × (signed 12 n ≤ℤ pos (2 ^ 11 - 1))
within_12 n h = (grind (arith, ints), grind (arith, ints))

within_13 : (n : ℕ) → n < 2 ^ 13 → n % 2 ≡ 0 → (negsuc (2 ^ 12 - 1) ≤ℤ signed 13 n) × (signed 13 n ≤ℤ pos (2 ^ 12 - 2))
within_13 n h even = (grind (arith, ints), grind (arith, ints))

within_21 : (n : ℕ) → n < 2 ^ 21 → n % 2 ≡ 0 → (negsuc (2 ^ 20 - 1) ≤ℤ signed 21 n) × (signed 21 n ≤ℤ pos (2 ^ 20 - 2))
within_21 n h even = (grind (arith, ints), grind (arith, ints))

within_32 : (n : ℕ) → n < 2 ^ 32 → n % 2 ^ 12 ≡ 0 → (negsuc (2 ^ 31 - 1) ≤ℤ signed 32 n) × (signed 32 n ≤ℤ pos (2 ^ 31 - 2 ^ 12))
within_32 n h even = (grind (arith, ints), grind (arith, ints))

within_amount : (n : ℕ) → n < 2 ^ 5 → (pos 0 ≤ℤ pos n) × (pos n ≤ℤ pos 31)
within_amount n h = (grind (arith, ints), grind (arith, ints))

within_none : (pos 0 ≤ℤ pos 0) × (pos 0 ≤ℤ pos 0)
within_none = (grind (arith, ints), grind (arith, ints))

pub operands_within : (f : Form) (o : Op) (w : ℕ) → w < 2 ^ 32 → HasOperandsIn (ranges f) (instr_of_form f o w)
operands_within form.Upper o w small =
    let n : ℕ = w / 2 ^ 12 * 2 ^ 12 in
    let b : (negsuc (2 ^ 31 - 1) ≤ℤ signed 32 n) × (signed 32 n ≤ℤ pos (2 ^ 31 - 2 ^ 12)) = within_32 n (omega arith) (omega arith) in
    let step : word_of (signed 32 n) ≡ n = low_32 n (omega arith) in
    record { rd = omega arith; rs1 = omega arith; rs2 = omega arith; low = b.0; high = b.1; step = omega arith }
operands_within form.Jump o w small =
    let n : ℕ = field w 31 1 * 2 ^ 20 + field w 12 8 * 2 ^ 12 + field w 20 1 * 2 ^ 11 + field w 21 10 * 2 in
    let b : (negsuc (2 ^ 20 - 1) ≤ℤ signed 21 n) × (signed 21 n ≤ℤ pos (2 ^ 20 - 2)) = within_21 n (omega arith) (omega arith) in
    let step : word_of (signed 21 n) % 2 ^ 21 ≡ n = low_21 n (omega arith) in
    record { rd = omega arith; rs1 = omega arith; rs2 = omega arith; low = b.0; high = b.1; step = omega arith }
operands_within form.Branch o w small =
    let n : ℕ = field w 31 1 * 2 ^ 12 + field w 7 1 * 2 ^ 11 + field w 25 6 * 2 ^ 5 + field w 8 4 * 2 in
    let b : (negsuc (2 ^ 12 - 1) ≤ℤ signed 13 n) × (signed 13 n ≤ℤ pos (2 ^ 12 - 2)) = within_13 n (omega arith) (omega arith) in
    let step : word_of (signed 13 n) % 2 ^ 13 ≡ n = low_13 n (omega arith) in
    record { rd = omega arith; rs1 = omega arith; rs2 = omega arith; low = b.0; high = b.1; step = omega arith }
operands_within form.Offset o w small =
    let b : (negsuc (2 ^ 11 - 1) ≤ℤ signed 12 (field w 20 12)) × (signed 12 (field w 20 12) ≤ℤ pos (2 ^ 11 - 1)) = within_12 (field w 20 12) (omega arith) in
    record { rd = omega arith; rs1 = omega arith; rs2 = omega arith; low = b.0; high = b.1; step = omega arith }
operands_within form.Store o w small =
    let n : ℕ = field w 25 7 * 2 ^ 5 + field w 7 5 in
    let b : (negsuc (2 ^ 11 - 1) ≤ℤ signed 12 n) × (signed 12 n ≤ℤ pos (2 ^ 11 - 1)) = within_12 n (omega arith) in
    record { rd = omega arith; rs1 = omega arith; rs2 = omega arith; low = b.0; high = b.1; step = omega arith }
operands_within form.Immediate o w small =
    let b : (negsuc (2 ^ 11 - 1) ≤ℤ signed 12 (field w 20 12)) × (signed 12 (field w 20 12) ≤ℤ pos (2 ^ 11 - 1)) = within_12 (field w 20 12) (omega arith) in
    record { rd = omega arith; rs1 = omega arith; rs2 = omega arith; low = b.0; high = b.1; step = omega arith }
operands_within form.Shift o w small =
    let b : (pos 0 ≤ℤ pos (field w 20 5)) × (pos (field w 20 5) ≤ℤ pos 31) = within_amount (field w 20 5) (omega arith) in
    record { rd = omega arith; rs1 = omega arith; rs2 = omega arith; low = b.0; high = b.1; step = omega arith }
operands_within form.Register o w small = record { rd = omega arith; rs1 = omega arith; rs2 = omega arith; low = within_none.0; high = within_none.1; step = omega arith }
operands_within form.Whole o w small = record { rd = omega arith; rs1 = omega arith; rs2 = omega arith; low = within_none.0; high = within_none.1; step = omega arith }
