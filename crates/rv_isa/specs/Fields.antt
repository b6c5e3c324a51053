-- The table by the fields opcode, funct3 and funct7, as the decoder goes through it.
use Rattle.std.specs.Prelude.{ℕ, ◌/◌, ◌%◌, ◌^◌, ◌==◌, Bool, ◌&&◌, find, Option, option_map, if◌then◌else◌}
use Rattle.rv_isa.specs.declared.Op.{Op}
use Rattle.rv_isa.specs.Table.{Row, rows}

-- whether a word with these fields has the row's fixed fields
abbrev pub fits_row : ℕ → ℕ → ℕ → ℕ → Row → Bool
fits_row opcode funct3 funct7 word r =
    if r.mask == 0x7f then opcode == r.value
    else if r.mask == 0x707f then opcode == r.value % 2 ^ 7 && funct3 == r.value / 2 ^ 12
    else if r.mask == 0xfe00707f
    then opcode == r.value % 2 ^ 7 && funct3 == r.value / 2 ^ 12 % 2 ^ 3 && funct7 == r.value / 2 ^ 25
    else opcode == r.value % 2 ^ 7 && word == r.value

-- the operation of a word with these fields
abbrev pub op_at : ℕ → ℕ → ℕ → ℕ → Option Op
op_at opcode funct3 funct7 word = option_map (λ r. r.op) (find (fits_row opcode funct3 funct7 word) rows)
