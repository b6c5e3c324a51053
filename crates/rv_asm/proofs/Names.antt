-- The names of registers and operations, read back: each table computes.
use Rattle.std.proofs.Common.{◌≡◌, ℕ, zero, suc, ◌<◌, ◌==◌, Bool, true, false, ◌&&◌, ltb, List, [], ◌∷◌, ◌++◌, length, Option, Some, None, inl, inr, refl, ap, arith}
use Rattle.std.specs.List.{list_all}
use Rattle.std.proofs.lemmas.Bool.{and_parts, cases_lt, eqb-true, ltb-true, ne_eqb}
use Rattle.rv_isa.specs.declared.Op.{Op}
use Rattle.rv_isa.specs.declared.Op.TheVariants as op
use Rattle.rv_isa.specs.declared.Form.TheVariants as form
use Rattle.rv_isa.specs.Table.{form_of}
use Rattle.rv_isa.specs.Text.{register_name, mnemonic}
use Rattle.rv_asm.specs.declared.mnemonics.Head.TheVariants as head
use Rattle.rv_asm.specs.Operands.{register, closed_register}
use Rattle.rv_asm.specs.Statements.{template}
use Rattle.rv_asm.specs.Parsing.{zero as nought, head_named, is_fence, machine, with_form, of_words, headed}
use Rattle.rv_asm.proofs.Plain.{is_plain}
use Rattle.rv_asm.proofs.Pieces.{IsOperand, operand_plain}

-- a test at each number below a limit
abbrev each_below : (ℕ → Bool) → ℕ → Bool
each_below p zero = true
each_below p (suc n) = p n && each_below p n

below : (p : ℕ → Bool) (limit : ℕ) → each_below p limit ≡ true → (n : ℕ) → n < limit → p n ≡ true
below p zero h n l = absurd (omega arith)
below p (suc k) h n l =
    let b = and_parts (p k) (each_below p k) h in
    elim (cases_lt n k) [
      | inl lt ↦ below p k b.1 n lt
      | inr le ↦ let e : n ≡ k = omega arith in rw e b.0
    ]

is_some_of : Option ℕ → ℕ → Bool
is_some_of None n = false
is_some_of (Some k) n = k == n

some_of : (o : Option ℕ) (n : ℕ) → is_some_of o n ≡ true → o ≡ Some n
unfolding is_some_of
some_of None n h = absurd cc
some_of (Some k) n h = ap Some (eqb-true k n h)

names_read : each_below (λ n. is_some_of (register (register_name n)) n) 32 ≡ true
unfolding is_some_of register
names_read = refl

names_closed : each_below (λ n. is_some_of (closed_register (register_name n ++ 41 ∷ [])) n) 32 ≡ true
unfolding is_some_of register closed_register
names_closed = refl

names_plain : each_below (λ n. list_all is_plain (register_name n)) 32 ≡ true
names_plain = refl

names_some : each_below (λ n. ltb 0 (length (register_name n))) 32 ≡ true
names_some = refl

pub name_read : (n : ℕ) → n < 32 → register (register_name n) ≡ Some n
name_read n l = some_of _ n (below (λ k. is_some_of (register (register_name k)) k) 32 names_read n l)

pub name_closed : (n : ℕ) → n < 32 → closed_register (register_name n ++ 41 ∷ []) ≡ Some n
name_closed n l = some_of _ n (below (λ k. is_some_of (closed_register (register_name k ++ 41 ∷ [])) k) 32 names_closed n l)

pub name_operand : (n : ℕ) → n < 32 → IsOperand (register_name n)
name_operand n l =
    operand_plain (register_name n)
    (ltb-true 0 (length (register_name n)) (below (λ k. ltb 0 (length (register_name k))) 32 names_some n l))
    (below (λ k. list_all is_plain (register_name k)) 32 names_plain n l)

pub mnemonic_plain : (o : Op) → list_all is_plain (mnemonic o) ≡ true
mnemonic_plain op.Lui = refl
mnemonic_plain _ = refl

pub mnemonic_some : (o : Op) → ltb 0 (length (mnemonic o)) ≡ true
mnemonic_some op.Lui = refl
mnemonic_some _ = refl

pub mnemonic_heads : (o : Op) (rest : List ℕ) → of_words (mnemonic o) rest ≡ headed (Some (head.Machine o)) rest
unfolding of_words head_named
mnemonic_heads op.Lui rest = refl
mnemonic_heads _ rest = refl

and_false : (a b : Bool) → b ≡ false → (a && b) ≡ false
and_false true b h = h
and_false false b h = refl

pub machine_some : (o : Op) (rest : List ℕ) → 0 < length rest → machine o rest ≡ with_form (form_of o) o rest
unfolding machine
machine_some o rest l =
    let some : (length rest == 0) ≡ false = ne_eqb _ _ (λ e. absurd (omega arith)) in
    rw (and_false (is_fence o) (length rest == 0) some) refl

pub machine_whole : (o : Op) → form_of o ≡ form.Whole → machine o [] ≡ Some (template o 0 0 0 nought)
unfolding machine with_form
machine_whole op.Ecall h = refl
machine_whole op.Ebreak h = refl
machine_whole op.Lui h = absurd cc
machine_whole _ h = absurd cc
