-- The first part of a path, as it is read from its bytes.
use Rattle.std.specs.Prelude.{ℕ, suc, ◌==◌, List, [], ◌∷◌, if◌then◌else◌}

-- how many slashes a text begins with
abbrev pub slashes_before : List ℕ → ℕ
slashes_before [] = 0
slashes_before (b ∷ bs) = if b == 47 then suc (slashes_before bs) else 0

-- how many bytes are before the first slash
abbrev pub part_length : List ℕ → ℕ
part_length [] = 0
part_length (b ∷ bs) = if b == 47 then 0 else suc (part_length bs)
