-- Bytes, and numbers in bytes.
use Rattle.std.specs.Prelude.{ℕ, zero, suc, ◌+◌, ◌-◌, ◌*◌, ◌/◌, ◌%◌, List, [], ◌∷◌, ◌++◌, length, take, drop, replicate}

-- bytes that are all zero
unfoldable pub zeros : ℕ → List ℕ
zeros n = replicate n 0

-- bytes, and zeros up to a multiple of four
abbrev pub padded_to_words : List ℕ → List ℕ
padded_to_words bytes = bytes ++ zeros ((4 - length bytes % 4) % 4)

-- the little-endian number in bytes
abbrev pub number_of : List ℕ → ℕ
number_of [] = 0
number_of (b ∷ bs) = b + 256 * number_of bs

-- so many low bytes of a number, little-endian
abbrev pub bytes_of : ℕ → ℕ → List ℕ
bytes_of zero n = []
bytes_of (suc k) n = n % 256 ∷ bytes_of k (n / 256)

-- the bytes with others written over them from an offset on
abbrev pub overwrite : List ℕ → ℕ → List ℕ → List ℕ
overwrite bytes place new = take place bytes ++ new ++ drop (place + length new) bytes
