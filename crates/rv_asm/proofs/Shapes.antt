-- The shapes of operands, from the operands that are read.
use Rattle.std.proofs.Common.{◌≡◌, ℕ, List, [], ◌∷◌, ◌++◌, Some, refl, false}
use Rattle.std.specs.List.{All}
use Rattle.rv_asm.specs.Numbers.{Number, parse_number}
use Rattle.rv_asm.specs.Operands.{register, is_opening, closed_register, based, register_number, register_base, two_registers_number, three_registers}
use Rattle.rv_asm.proofs.Plain.{is_complete, all_append, tight_between}
use Rattle.rv_asm.proofs.Pieces.{IsOperand, pair, operands_two, operands_three, before_at, after_at}

module _ (a b : List ℕ) (h : IsOperand a) (k : IsOperand b) (m : ℕ) (is : register a ≡ Some m) where
  pub register_number_is : (n : Number) → parse_number b ≡ Some n → register_number (pair a b) ≡ Some (m, n)
  unfolding register_number
  register_number_is n e = rw (operands_two a b h k, is, e) refl

  pub register_base_is : (n : Number) (r : ℕ) → based b ≡ Some (n, r) → register_base (pair a b) ≡ Some (m, n, r)
  unfolding register_base
  register_base_is n r e = rw (operands_two a b h k, is, e) refl

  module _ (d : List ℕ) (l : IsOperand d) (n : ℕ) (there : register b ≡ Some n) where
    pub two_registers_number_is : (z : Number) → parse_number d ≡ Some z → two_registers_number (pair a (pair b d)) ≡ Some (m, n, z)
    unfolding two_registers_number
    two_registers_number_is z e = rw (operands_three a b d h k l, is, there, e) refl

    pub three_registers_is : (z : ℕ) → register d ≡ Some z → three_registers (pair a (pair b d)) ≡ Some (m, n, z)
    unfolding three_registers
    three_registers_is z e = rw (operands_three a b d h k l, is, there, e) refl

-- an offset, and a register in brackets
unfoldable pub offset : List ℕ → List ℕ → List ℕ
offset n r = n ++ 40 ∷ (r ++ 41 ∷ [])

pub based_is : (n r : List ℕ) (z : Number) (m : ℕ) → All (λ c. is_opening c ≡ false) n → parse_number n ≡ Some z → closed_register (r ++ 41 ∷ []) ≡ Some m → based (offset n r) ≡ Some (z, m)
unfolding based offset
based_is n r z m h e k = rw (before_at is_opening n 40 (r ++ 41 ∷ []) h refl, after_at is_opening n 40 (r ++ 41 ∷ []) h refl, e, k) refl

pub operand_offset : (n r : List ℕ) → IsOperand n → IsOperand r → IsOperand (offset n r)
unfolding offset
operand_offset n r h k =
    record {
      tight = tight_between n (40 ∷ r) (41 ∷ []) h.tight (record { first = refl; last = refl });
      each = all_append is_complete n (40 ∷ (r ++ 41 ∷ [])) h.each (all_append is_complete r (41 ∷ []) k.each refl);
    }
