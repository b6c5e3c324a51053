-- Words, their fields, and signed numbers.
use Rattle.std.specs.Prelude.{ℕ, ◌-◌, ◌/◌, ◌%◌, ◌^◌, ℤ, pos, negsuc, ◌-ℤ◌, nat_lt, if◌then◌else◌}

-- `width` bits of a word, from bit `low` up
abbrev pub field : ℕ → ℕ → ℕ → ℕ
field word low width = word / 2 ^ low % 2 ^ width

-- n read as a two's complement number of `width` bits
abbrev pub signed : ℕ → ℕ → ℤ
signed width n = if nat_lt n (2 ^ (width - 1)) then pos n else pos n -ℤ pos (2 ^ width)

-- the word of a signed number, modulo 2^32; `negsuc n` is -(n + 1)
abbrev pub word_of : ℤ → ℕ
word_of (pos n) = n % 2 ^ 32
word_of (negsuc n) = 2 ^ 32 - 1 - n % 2 ^ 32
