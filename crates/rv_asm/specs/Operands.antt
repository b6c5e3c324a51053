-- Registers, and the shapes of operands. Chapter 25 of the RISC-V manual has the registers' names.
use Rattle.std.specs.Prelude.{ℕ, ◌-◌, ◌==◌, Bool, List, [], ◌∷◌, length, position, Option, Some, None, option_and_then, codes, slice_index, take, nat_lt, if◌then◌else◌}
use Rattle.std.specs.List.{before_first, after_first}
use Rattle.std.specs.Str.{bytes_eq}
use Rattle.rv_isa.specs.Text.{register_names}
use Rattle.rv_asm.specs.Lexing.{operands, one, two, three, second}
use Rattle.wedge_base.specs.Texts.{is_name}
use Rattle.rv_asm.specs.Numbers.{Number, parse_number, decimal}

infixl 10 ◌>>=◌
abbrev pub ◌>>=◌ : {X Y : Type 0} → Option X → (X → Option Y) → Option Y
o >>= f = option_and_then f o

abbrev pub or_else : {X : Type 0} → Option X → Option X → Option X
or_else (Some x) other = Some x
or_else None other = other

-- a register's number, by its name in the calling convention
abbrev pub named_register : List ℕ → Option ℕ
named_register text = position (λ name. bytes_eq name text) register_names

abbrev pub below : ℕ → ℕ → Option ℕ
below limit n = if nat_lt n limit then Some n else None

-- a register's number, written after an `x`
abbrev pub numbered_register : List ℕ → Option ℕ
numbered_register [] = None
numbered_register (c ∷ cs) = if c == 120 then decimal cs >>= below 32 else None

-- `fp` is another name of register 8
unfoldable pub register : List ℕ → Option ℕ
register text = or_else (named_register text) (if bytes_eq text (codes "fp") then Some 8 else numbered_register text)

abbrev pub is_opening : ℕ → Bool
is_opening c = c == 40

-- a register before a `)`
unfoldable pub closed_register : List ℕ → Option ℕ
closed_register text = if slice_index text (length text - 1) == 41 then register (take (length text - 1) text) else None

-- `N(rs1)`: an offset, and the base register to which it is added
unfoldable pub based : List ℕ → Option (Number × ℕ)
based text =
    parse_number (before_first is_opening text) >>= λ offset.
    closed_register (after_first is_opening text) >>= λ base. Some (offset, base)

-- the shapes of operands
unfoldable pub one_number : List ℕ → Option Number
one_number text = one (operands text) >>= parse_number

-- the second operand where it is a number or a name, whatever the others are
unfoldable pub second_number : List ℕ → Option Number
second_number text = second (operands text) >>= parse_number

unfoldable pub register_number : List ℕ → Option (ℕ × Number)
register_number text =
    two (operands text) >>= λ p.
    register p.0 >>= λ a.
    parse_number p.1 >>= λ n. Some (a, n)

unfoldable pub register_base : List ℕ → Option (ℕ × Number × ℕ)
register_base text =
    two (operands text) >>= λ p.
    register p.0 >>= λ a.
    based p.1 >>= λ b. Some (a, b.0, b.1)

unfoldable pub register_label : List ℕ → Option (ℕ × List ℕ)
register_label text =
    two (operands text) >>= λ p.
    register p.0 >>= λ a. if is_name p.1 then Some (a, p.1) else None

unfoldable pub two_registers : List ℕ → Option (ℕ × ℕ)
two_registers text =
    two (operands text) >>= λ p.
    register p.0 >>= λ a.
    register p.1 >>= λ b. Some (a, b)

unfoldable pub two_registers_number : List ℕ → Option (ℕ × ℕ × Number)
two_registers_number text =
    three (operands text) >>= λ p.
    register p.0 >>= λ a.
    register p.1 >>= λ b.
    parse_number p.2 >>= λ n. Some (a, b, n)

unfoldable pub three_registers : List ℕ → Option (ℕ × ℕ × ℕ)
three_registers text =
    three (operands text) >>= λ p.
    register p.0 >>= λ a.
    register p.1 >>= λ b.
    register p.2 >>= λ c. Some (a, b, c)
