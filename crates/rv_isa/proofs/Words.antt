-- A word is its fixed fields and its operands.
use Rattle.std.proofs.Common.{◌≡◌, ℕ, ◌+◌, ◌*◌, ◌/◌, ◌%◌, ◌^◌, ◌<◌, bit_and, Bool, true, false, cond, List, [], ◌∷◌, Option, Some, map, refl, arith}
use Rattle.std.proofs.lemmas.Int.{ints}
use Rattle.std.proofs.lemmas.Bool.{eqb-true}
use Rattle.rv_isa.specs.Numbers.{field, signed, word_of}
use Rattle.rv_isa.specs.declared.Op.{Op}
use Rattle.rv_isa.specs.declared.Op.TheVariants as op
use Rattle.rv_isa.specs.declared.Instr.{Instr}
use Rattle.std.specs.List.{find}
use Rattle.std.specs.Option.{option_map}
use Rattle.rv_isa.specs.declared.Form.{Form}
use Rattle.rv_isa.specs.declared.Form.TheVariants as form
use Rattle.rv_isa.specs.Table.{Row, row_of, row_for, ops, has_fields, form_of, instr_of_form, instr_at, decode, HasRegisters, IsOfRow}
use Rattle.rv_isa.specs.Encoding.{operand_bits, encoded}
use Rattle.rv_isa.proofs.Bridge.{opcode_kept, funct3_kept, funct7_kept, word_kept}

-- which bits are fixed in the words of a form
abbrev pub mask_of : Form → ℕ
mask_of form.Upper = 0x7f
mask_of form.Jump = 0x7f
mask_of form.Branch = 0x707f
mask_of form.Offset = 0x707f
mask_of form.Store = 0x707f
mask_of form.Immediate = 0x707f
mask_of form.Shift = 0xfe00707f
mask_of form.Register = 0xfe00707f
mask_of form.Whole = 0xffffffff

-- the low bits of a signed number are the number again
pub low_12 : (n : ℕ) → n < 2 ^ 12 → word_of (signed 12 n) % 2 ^ 12 ≡ n
low_12 n fits = grind (arith, ints)

pub low_13 : (n : ℕ) → n < 2 ^ 13 → word_of (signed 13 n) % 2 ^ 13 ≡ n
low_13 n fits = grind (arith, ints)

pub low_21 : (n : ℕ) → n < 2 ^ 21 → word_of (signed 21 n) % 2 ^ 21 ≡ n
low_21 n fits = grind (arith, ints)

pub low_32 : (n : ℕ) → n < 2 ^ 32 → word_of (signed 32 n) ≡ n
low_32 n fits = grind (arith, ints)

-- a word is what its form fixes, and its operands
pub whole : (f : Form) (o : Op) (w : ℕ) → w < 2 ^ 32 → bit_and w (mask_of f) + operand_bits f (instr_of_form f o w) ≡ w
whole form.Upper o w small = rw (opcode_kept w, low_32 (w / 2 ^ 12 * 2 ^ 12) (omega arith)) (omega arith)
whole form.Jump o w small =
    let n : ℕ = field w 31 1 * 2 ^ 20 + field w 12 8 * 2 ^ 12 + field w 20 1 * 2 ^ 11 + field w 21 10 * 2 in
    let low : word_of (signed 21 n) % 2 ^ 21 ≡ n = low_21 n (omega arith) in
    rw (opcode_kept w) (omega arith)
whole form.Branch o w small =
    let n : ℕ = field w 31 1 * 2 ^ 12 + field w 7 1 * 2 ^ 11 + field w 25 6 * 2 ^ 5 + field w 8 4 * 2 in
    let low : word_of (signed 13 n) % 2 ^ 13 ≡ n = low_13 n (omega arith) in
    rw (funct3_kept w) (omega arith)
whole form.Offset o w small =
    let low : word_of (signed 12 (field w 20 12)) % 2 ^ 12 ≡ field w 20 12 = low_12 (field w 20 12) (omega arith) in
    rw (funct3_kept w) (omega arith)
whole form.Store o w small =
    let n : ℕ = field w 25 7 * 2 ^ 5 + field w 7 5 in
    let low : word_of (signed 12 n) % 2 ^ 12 ≡ n = low_12 n (omega arith) in
    rw (funct3_kept w) (omega arith)
whole form.Immediate o w small =
    let low : word_of (signed 12 (field w 20 12)) % 2 ^ 12 ≡ field w 20 12 = low_12 (field w 20 12) (omega arith) in
    rw (funct3_kept w) (omega arith)
whole form.Shift o w small = rw (funct7_kept w small) (omega arith)
whole form.Register o w small = rw (funct7_kept w small) (omega arith)
whole form.Whole o w small = rw (word_kept w small) (omega arith)

-- the row of an operation has the mask of its form, and is its own
pub mask_is : (o : Op) → (row_for o).mask ≡ mask_of (form_of o)
mask_is op.Lui = refl
mask_is _ = refl

pub op_is : (o : Op) → (row_for o).op ≡ o
op_is op.Lui = refl
op_is _ = refl

pub operands_op : (f : Form) (o : Op) (w : ℕ) → (instr_of_form f o w).op ≡ o
operands_op form.Whole o w = refl
operands_op _ o w = refl

-- what a word that is an instruction has: the fixed fields of its operation, and its operands
pub record IsWord (w : ℕ) (i : Instr) : Type 0 where
  pub op : Op
  pub fixed : has_fields w (row_for op) ≡ true
  pub is : i ≡ instr_of_form (form_of op) op w

found_at : (w : ℕ) (o : Op) (i : Instr) (rest : Option Row) (b : Bool) → has_fields w (row_for o) ≡ b → option_map (instr_at w) (cond b (Some (row_for o)) rest) ≡ Some i → (option_map (instr_at w) rest ≡ Some i → IsWord w i) → IsWord w i
found_at w o i rest true fits h later =
    let e : i ≡ instr_at w (row_for o) = cc in
    record { op = o; fixed = fits; is = rw (op_is o) at e }
found_at w o i rest false fits h later = later h

found : (w : ℕ) (os : List Op) (i : Instr) → option_map (instr_at w) (find (has_fields w) (map row_for os)) ≡ Some i → IsWord w i
found w [] i h = absurd (cc)
found w (o ∷ os) i h = found_at w o i (find (has_fields w) (map row_for os)) (has_fields w (row_for o)) refl h (found w os i)

pub IsWord-decode : (w : ℕ) (i : Instr) → decode w ≡ Some i → IsWord w i
unfolding row_of
IsWord-decode w i h = found w ops i h

encoded_at : (o : Op) (w : ℕ) → w < 2 ^ 32 → has_fields w (row_for o) ≡ true → encoded (instr_of_form (form_of o) o w) ≡ w
encoded_at o w small fixed =
    let value : bit_and w (row_for o).mask ≡ (row_for o).value = eqb-true _ _ fixed in
    let value' : bit_and w (mask_of (form_of o)) ≡ (row_for o).value = rw (← mask_is o) value in
    rw (operands_op (form_of o) o w, ← value') (whole (form_of o) o w small)

-- the word of the instruction that a word is
pub encoded_is : (w : ℕ) (i : Instr) → w < 2 ^ 32 → decode w ≡ Some i → encoded i ≡ w
encoded_is w i small h =
    let d : IsWord w i = IsWord-decode w i h in
    rw d.is (encoded_at d.op w small d.fixed)

operands_registers : (f : Form) (o : Op) (w : ℕ) → HasRegisters (instr_of_form f o w)
operands_registers form.Upper o w = record { rd = omega arith; rs1 = omega arith; rs2 = omega arith }
operands_registers form.Jump o w = record { rd = omega arith; rs1 = omega arith; rs2 = omega arith }
operands_registers form.Branch o w = record { rd = omega arith; rs1 = omega arith; rs2 = omega arith }
operands_registers form.Offset o w = record { rd = omega arith; rs1 = omega arith; rs2 = omega arith }
operands_registers form.Store o w = record { rd = omega arith; rs1 = omega arith; rs2 = omega arith }
operands_registers form.Immediate o w = record { rd = omega arith; rs1 = omega arith; rs2 = omega arith }
operands_registers form.Shift o w = record { rd = omega arith; rs1 = omega arith; rs2 = omega arith }
operands_registers form.Register o w = record { rd = omega arith; rs1 = omega arith; rs2 = omega arith }
operands_registers form.Whole o w = record { rd = omega arith; rs1 = omega arith; rs2 = omega arith }

-- an instruction of the table names registers
pub HasRegisters-of_row : (i : Instr) → IsOfRow i → HasRegisters i
HasRegisters-of_row i h =
    let d : IsWord h.word i = IsWord-decode h.word i h.is in
    rw d.is (operands_registers (form_of d.op) d.op h.word)
