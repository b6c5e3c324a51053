-- The results of the operations on two words; a word is a number below 2^32. Sections 2.4, 7.1 and
-- 7.2 of the manual.
use Rattle.std.specs.Prelude.{ℕ, ◌+◌, ◌-◌, ◌*◌, ◌/◌, ◌%◌, ◌^◌, ◌==◌, Bool, ℤ, pos, negsuc, ◌*ℤ◌, nat_lt, int_lt, int_div, int_rem, if◌then◌else◌}
use Rattle.rv_isa.specs.Numbers.{signed, word_of}

-- a word as a signed number
abbrev pub as_signed : ℕ → ℤ
as_signed n = signed 32 n

-- the word of a signed number, modulo 2^32
abbrev pub as_word : ℤ → ℕ
as_word z = word_of z

abbrev pub one_if : Bool → ℕ
one_if b = if b then 1 else 0

abbrev pub add : ℕ → ℕ → ℕ
add a b = (a + b) % 2 ^ 32

abbrev pub sub : ℕ → ℕ → ℕ
sub a b = (a + (2 ^ 32 - b)) % 2 ^ 32

abbrev pub slt : ℕ → ℕ → ℕ
slt a b = one_if (int_lt (as_signed a) (as_signed b))

abbrev pub sltu : ℕ → ℕ → ℕ
sltu a b = one_if (nat_lt a b)

-- a shift is by the low five bits of the second word
abbrev pub sll : ℕ → ℕ → ℕ
sll a b = a * 2 ^ (b % 32) % 2 ^ 32

abbrev pub srl : ℕ → ℕ → ℕ
srl a b = a / 2 ^ (b % 32)

-- the quotient of an integer by a natural number, rounded down
abbrev pub floor_div : ℤ → ℕ → ℤ
floor_div (pos n) d = pos (n / d)
floor_div (negsuc n) d = negsuc (n / d)

abbrev pub sra : ℕ → ℕ → ℕ
sra a b = as_word (floor_div (as_signed a) (2 ^ (b % 32)))

abbrev pub mul : ℕ → ℕ → ℕ
mul a b = a * b % 2 ^ 32

-- bits 63 to 32 of the product
abbrev pub mulh : ℕ → ℕ → ℕ
mulh a b = as_word (floor_div (as_signed a *ℤ as_signed b) (2 ^ 32))

abbrev pub mulhsu : ℕ → ℕ → ℕ
mulhsu a b = as_word (floor_div (as_signed a *ℤ pos b) (2 ^ 32))

abbrev pub mulhu : ℕ → ℕ → ℕ
mulhu a b = a * b / 2 ^ 32

-- A quotient is rounded towards zero. By zero, each bit of the quotient is 1, and the remainder is
-- the dividend. -2^31 divided by -1 wraps to -2^31, with remainder 0.
abbrev pub div : ℕ → ℕ → ℕ
div a b = if b == 0 then 2 ^ 32 - 1 else as_word (int_div (as_signed a) (as_signed b))

abbrev pub divu : ℕ → ℕ → ℕ
divu a b = if b == 0 then 2 ^ 32 - 1 else a / b

abbrev pub rem : ℕ → ℕ → ℕ
rem a b = if b == 0 then a else as_word (int_rem (as_signed a) (as_signed b))

abbrev pub remu : ℕ → ℕ → ℕ
remu a b = if b == 0 then a else a % b
