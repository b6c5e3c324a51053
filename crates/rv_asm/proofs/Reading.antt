-- The operands of an instruction's text, read back, form by form.
use Rattle.std.proofs.Common.{◌≡◌, ◌≢◌, ℕ, ◌-◌, ◌^◌, ◌<◌, ◌≤ℤ◌, List, [], ◌∷◌, ◌++◌, Some, ℤ, pos, negsuc, false, refl, ap, ◌∙◌, arith}
use Rattle.std.specs.Fmt.{digits, signed_decimal}
use Rattle.std.proofs.lemmas.Int.{ints}
use Rattle.std.proofs.lemmas.List.{append_assoc}
use Rattle.rv_isa.specs.declared.Form.{Form}
use Rattle.rv_isa.specs.declared.Form.TheVariants as form
use Rattle.rv_isa.specs.declared.Instr.{Instr}
use Rattle.rv_isa.specs.Ranges.{ranges, HasOperandsIn}
use Rattle.rv_isa.specs.Text.{register_name, operand_text, upper}
use Rattle.rv_asm.specs.Numbers as number
use Rattle.rv_asm.specs.Operands.{based, register_base, two_registers_number}
use Rattle.rv_asm.specs.Statements.{Template, template}
use Rattle.rv_asm.specs.Parsing.{with_form}
use Rattle.rv_asm.proofs.Allowed.{low_fits, high_fits}
use Rattle.rv_asm.proofs.Pieces.{IsOperand, IsContent, content_operand, content_pair, pair}
use Rattle.rv_asm.proofs.Numerals.{number_signed, number_hex, operand_signed, operand_hex, closed_signed}
use Rattle.rv_asm.proofs.Shapes.{offset, operand_offset, based_is, register_number_is, register_base_is, two_registers_number_is, three_registers_is}
use Rattle.rv_asm.proofs.Names.{name_read, name_closed, name_operand}
use Rattle.rv_asm.proofs.Placing.{written}

-- the text of two operands, of a register and an upper part, of three, and of a register and an offset
text_two : (a b : List ℕ) → (32 ∷ []) ++ a ++ (44 ∷ 32 ∷ []) ++ b ≡ 32 ∷ pair a b
unfolding pair
text_two a b = ap (λ t. 32 ∷ t) (append_assoc a (44 ∷ 32 ∷ []) b)

text_hex : (a b : List ℕ) → (32 ∷ []) ++ a ++ (44 ∷ 32 ∷ 48 ∷ 120 ∷ []) ++ b ≡ 32 ∷ pair a (48 ∷ 120 ∷ b)
unfolding pair
text_hex a b = ap (λ t. 32 ∷ t) (append_assoc a (44 ∷ 32 ∷ 48 ∷ 120 ∷ []) b)

text_three : (a b d : List ℕ) → (32 ∷ []) ++ a ++ (44 ∷ 32 ∷ []) ++ b ++ (44 ∷ 32 ∷ []) ++ d ≡ 32 ∷ pair a (pair b d)
unfolding pair
text_three a b d =
    let c : List ℕ = 44 ∷ 32 ∷ [] in
    ap (λ t. 32 ∷ t) (append_assoc (a ++ c ++ b) c d ∙ append_assoc (a ++ c) b (c ++ d) ∙ append_assoc a c (b ++ (c ++ d)))

text_offset : (a n r : List ℕ) → (32 ∷ []) ++ a ++ (44 ∷ 32 ∷ []) ++ n ++ (40 ∷ []) ++ r ++ (41 ∷ []) ≡ 32 ∷ pair a (offset n r)
unfolding pair offset
text_offset a n r =
    let c : List ℕ = 44 ∷ 32 ∷ [] in
    let o : List ℕ = 40 ∷ [] in
    let e : List ℕ = 41 ∷ [] in
    ap (λ t. 32 ∷ t)
    (append_assoc (a ++ c ++ n ++ o) r e
    ∙ append_assoc (a ++ c ++ n) o (r ++ e)
    ∙ append_assoc (a ++ c) n (o ++ (r ++ e))
    ∙ append_assoc a c (n ++ (o ++ (r ++ e))))

-- the template of an instruction's text
abbrev pub template_of : Form → Instr → Template
template_of f i = template i.op i.rd i.rs1 i.rs2 (number.Literal (written f i.imm))

-- a text of operands that is read back
pub record IsRead (f : Form) (i : Instr) : Type 0 where
  pub rest : List ℕ
  pub text : operand_text f i ≡ 32 ∷ rest
  pub content : IsContent rest
  pub template : with_form f i.op rest ≡ Some (template_of f i)

-- the number of an instruction is a signed word
low : (f : Form) (i : Instr) → HasOperandsIn (ranges f) i → negsuc (2 ^ 31 - 1) ≤ℤ i.imm
low f i h = omega (arith, ints, low_fits f, h.low)

high : (f : Form) (i : Instr) → HasOperandsIn (ranges f) i → i.imm ≤ℤ pos (2 ^ 31 - 1)
high f i h = omega (arith, ints, high_fits f, h.high)

none : (n : ℕ) → n < 1 → n ≡ 0
none n h = omega arith

nothing : (z : ℤ) → pos 0 ≤ℤ z → z ≤ℤ pos 0 → z ≡ pos 0
nothing z low high = omega (arith, ints)

module _ (i : Instr) where
  name : (n : ℕ) → n < 32 → IsContent (register_name n)
  name n h = content_operand (register_name n) (name_operand n h)

  read_upper : HasOperandsIn (ranges form.Upper) i → IsRead form.Upper i
  unfolding with_form
  read_upper h =
      let a = register_name i.rd in
      let b = 48 ∷ 120 ∷ digits 16 false (upper i) in
      let small : upper i < 2 ^ 32 = grind arith in
      let o = operand_hex (upper i) small in
      record {
        rest = pair a b;
        text = text_hex a (digits 16 false (upper i));
        content = content_pair a b (name i.rd h.rd) (content_operand b o);
        template = rw (register_number_is a b (name_operand i.rd h.rd) o i.rd (name_read i.rd h.rd) (number.Literal (pos (upper i))) (number_hex (upper i) small), none i.rs1 h.rs1, none i.rs2 h.rs2) refl;
      }

  read_register : HasOperandsIn (ranges form.Register) i → IsRead form.Register i
  unfolding with_form
  read_register h =
      let a = register_name i.rd in
      let b = register_name i.rs1 in
      let d = register_name i.rs2 in
      record {
        rest = pair a (pair b d);
        text = text_three a b d;
        content = content_pair a (pair b d) (name i.rd h.rd) (content_pair b d (name i.rs1 h.rs1) (name i.rs2 h.rs2));
        template = rw (three_registers_is a b (name_operand i.rd h.rd) (name_operand i.rs1 h.rs1) i.rd (name_read i.rd h.rd) d (name_operand i.rs2 h.rs2) i.rs1 (name_read i.rs1 h.rs1) i.rs2 (name_read i.rs2 h.rs2), nothing i.imm h.low h.high) refl;
      }

  module _ (least : negsuc (2 ^ 31 - 1) ≤ℤ i.imm) (greatest : i.imm ≤ℤ pos (2 ^ 31 - 1)) where
    signed : IsOperand (signed_decimal i.imm)
    signed = operand_signed i.imm least greatest

    based_on : (r : ℕ) → r < 32 → based (offset (signed_decimal i.imm) (register_name r)) ≡ Some (number.Literal i.imm, r)
    based_on r h = based_is (signed_decimal i.imm) (register_name r) (number.Literal i.imm) r (closed_signed i.imm least greatest) (number_signed i.imm least greatest) (name_closed r h)

    based_operand : (r : ℕ) → r < 32 → IsOperand (offset (signed_decimal i.imm) (register_name r))
    based_operand r h = operand_offset (signed_decimal i.imm) (register_name r) signed (name_operand r h)

    based_pair : (a r : ℕ) → a < 32 → r < 32 → register_base (pair (register_name a) (offset (signed_decimal i.imm) (register_name r))) ≡ Some (a, number.Literal i.imm, r)
    based_pair a r h k = register_base_is (register_name a) (offset (signed_decimal i.imm) (register_name r)) (name_operand a h) (based_operand r k) a (name_read a h) (number.Literal i.imm) r (based_on r k)

    based_content : (a r : ℕ) → a < 32 → r < 32 → IsContent (pair (register_name a) (offset (signed_decimal i.imm) (register_name r)))
    based_content a r h k = content_pair (register_name a) (offset (signed_decimal i.imm) (register_name r)) (name a h) (content_operand (offset (signed_decimal i.imm) (register_name r)) (based_operand r k))

    two_and_number : (a b : ℕ) → a < 32 → b < 32 → two_registers_number (pair (register_name a) (pair (register_name b) (signed_decimal i.imm))) ≡ Some (a, b, number.Literal i.imm)
    two_and_number a b h k = two_registers_number_is (register_name a) (register_name b) (name_operand a h) (name_operand b k) a (name_read a h) (signed_decimal i.imm) signed b (name_read b k) (number.Literal i.imm) (number_signed i.imm least greatest)

    two_content : (a b : ℕ) → a < 32 → b < 32 → IsContent (pair (register_name a) (pair (register_name b) (signed_decimal i.imm)))
    two_content a b h k = content_pair (register_name a) (pair (register_name b) (signed_decimal i.imm)) (name a h) (content_pair (register_name b) (signed_decimal i.imm) (name b k) (content_operand (signed_decimal i.imm) signed))

    read_jump : HasOperandsIn (ranges form.Jump) i → IsRead form.Jump i
    unfolding with_form
    read_jump h =
        let a = register_name i.rd in
        let b = signed_decimal i.imm in
        record {
          rest = pair a b;
          text = text_two a b;
          content = content_pair a b (name i.rd h.rd) (content_operand b signed);
          template = rw (register_number_is a b (name_operand i.rd h.rd) signed i.rd (name_read i.rd h.rd) (number.Literal i.imm) (number_signed i.imm least greatest), none i.rs1 h.rs1, none i.rs2 h.rs2) refl;
        }

    read_branch : HasOperandsIn (ranges form.Branch) i → IsRead form.Branch i
    unfolding with_form
    read_branch h =
        record {
          rest = pair (register_name i.rs1) (pair (register_name i.rs2) (signed_decimal i.imm));
          text = text_three (register_name i.rs1) (register_name i.rs2) (signed_decimal i.imm);
          content = two_content i.rs1 i.rs2 h.rs1 h.rs2;
          template = rw (two_and_number i.rs1 i.rs2 h.rs1 h.rs2, none i.rd h.rd) refl;
        }

    read_immediate : HasOperandsIn (ranges form.Immediate) i → IsRead form.Immediate i
    unfolding with_form
    read_immediate h =
        record {
          rest = pair (register_name i.rd) (pair (register_name i.rs1) (signed_decimal i.imm));
          text = text_three (register_name i.rd) (register_name i.rs1) (signed_decimal i.imm);
          content = two_content i.rd i.rs1 h.rd h.rs1;
          template = rw (two_and_number i.rd i.rs1 h.rd h.rs1, none i.rs2 h.rs2) refl;
        }

    read_shift : HasOperandsIn (ranges form.Shift) i → IsRead form.Shift i
    unfolding with_form
    read_shift h =
        record {
          rest = pair (register_name i.rd) (pair (register_name i.rs1) (signed_decimal i.imm));
          text = text_three (register_name i.rd) (register_name i.rs1) (signed_decimal i.imm);
          content = two_content i.rd i.rs1 h.rd h.rs1;
          template = rw (two_and_number i.rd i.rs1 h.rd h.rs1, none i.rs2 h.rs2) refl;
        }

    read_offset : HasOperandsIn (ranges form.Offset) i → IsRead form.Offset i
    unfolding with_form
    read_offset h =
        record {
          rest = pair (register_name i.rd) (offset (signed_decimal i.imm) (register_name i.rs1));
          text = text_offset (register_name i.rd) (signed_decimal i.imm) (register_name i.rs1);
          content = based_content i.rd i.rs1 h.rd h.rs1;
          template = rw (based_pair i.rd i.rs1 h.rd h.rs1, none i.rs2 h.rs2) refl;
        }

    read_store : HasOperandsIn (ranges form.Store) i → IsRead form.Store i
    unfolding with_form
    read_store h =
        record {
          rest = pair (register_name i.rs2) (offset (signed_decimal i.imm) (register_name i.rs1));
          text = text_offset (register_name i.rs2) (signed_decimal i.imm) (register_name i.rs1);
          content = based_content i.rs2 i.rs1 h.rs2 h.rs1;
          template = rw (based_pair i.rs2 i.rs1 h.rs2 h.rs1, none i.rd h.rd) refl;
        }

-- the operands of each form are read back
pub read_back : (f : Form) (i : Instr) → f ≢ form.Whole → HasOperandsIn (ranges f) i → IsRead f i
read_back form.Upper i k h = read_upper i h
read_back form.Jump i k h = read_jump i (low form.Jump i h) (high form.Jump i h) h
read_back form.Branch i k h = read_branch i (low form.Branch i h) (high form.Branch i h) h
read_back form.Offset i k h = read_offset i (low form.Offset i h) (high form.Offset i h) h
read_back form.Store i k h = read_store i (low form.Store i h) (high form.Store i h) h
read_back form.Immediate i k h = read_immediate i (low form.Immediate i h) (high form.Immediate i h) h
read_back form.Shift i k h = read_shift i (low form.Shift i h) (high form.Shift i h) h
read_back form.Register i k h = read_register i h
read_back form.Whole i k h = absurd (k refl)
