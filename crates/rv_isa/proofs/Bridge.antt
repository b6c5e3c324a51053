-- The table by masks and the table by fields have the same row for a word.
use Rattle.std.proofs.Common.{◌≡◌, ℕ, ◌+◌, ◌*◌, ◌/◌, ◌%◌, ◌^◌, ◌<◌, bit_and, Bool, true, false, ◌&&◌, cond, eqb, List, [], ◌∷◌, Option, Some, None, refl, ◌∙◌, arith}
use Rattle.std.specs.List.{find, list_all}
use Rattle.std.specs.Option.{option_map}
use Rattle.std.proofs.lemmas.Nat.{and_mask, and_block}
use Rattle.std.proofs.lemmas.Bool.{and_parts, eqb-true}
use Rattle.std.proofs.lemmas.Bool.Decides.{nat_tests}
use Rattle.rv_isa.specs.Numbers.{field}
use Rattle.rv_isa.specs.Table.{Row, rows, row_of, has_fields, form_of, instr_of_form, instr_at, decode}
use Rattle.rv_isa.specs.Fields.{fits_row, op_at}
use Rattle.rv_isa.specs.declared.Op.{Op}

-- the bits that each mask keeps
pub opcode_kept : (w : ℕ) → bit_and w 0x7f ≡ w % 2 ^ 7
opcode_kept w = and_mask w 7

pub funct3_kept : (w : ℕ) → bit_and w 0x707f ≡ w / 2 ^ 12 % 2 ^ 3 * 2 ^ 12 + w % 2 ^ 7
funct3_kept w =
    let parts : bit_and (w / 2 ^ 12 * 2 ^ 12 + w % 2 ^ 12) 0x707f ≡ bit_and (w / 2 ^ 12) 7 * 2 ^ 12 + bit_and (w % 2 ^ 12) 0x7f
    = and_block 12 (w / 2 ^ 12) 7 (w % 2 ^ 12) 0x7f (omega arith) (omega arith) in
    let whole : w / 2 ^ 12 * 2 ^ 12 + w % 2 ^ 12 ≡ w = omega arith in
    rw whole at parts ∙ omega (arith, and_mask (w / 2 ^ 12) 3, and_mask (w % 2 ^ 12) 7)

pub funct7_kept : (w : ℕ) → w < 2 ^ 32 → bit_and w 0xfe00707f ≡ w / 2 ^ 25 * 2 ^ 25 + (w / 2 ^ 12 % 2 ^ 3 * 2 ^ 12 + w % 2 ^ 7)
funct7_kept w h =
    let parts : bit_and (w / 2 ^ 25 * 2 ^ 25 + w % 2 ^ 25) 0xfe00707f ≡ bit_and (w / 2 ^ 25) 0x7f * 2 ^ 25 + bit_and (w % 2 ^ 25) 0x707f
    = and_block 25 (w / 2 ^ 25) 0x7f (w % 2 ^ 25) 0x707f (omega arith) (omega arith) in
    let whole : w / 2 ^ 25 * 2 ^ 25 + w % 2 ^ 25 ≡ w = omega arith in
    rw whole at parts ∙ omega (arith, and_mask (w / 2 ^ 25) 7, funct3_kept (w % 2 ^ 25))

pub word_kept : (w : ℕ) → w < 2 ^ 32 → bit_and w 0xffffffff ≡ w
word_kept w h = omega (arith, and_mask w 32)

-- a row whose mask is one of the four, and whose value has no bit outside the mask
abbrev pub is_plain : Row → Bool
is_plain r =
    cond (eqb r.mask 0x7f) true
    (cond (eqb r.mask 0x707f) (eqb (r.value / 2 ^ 12 % 2 ^ 3 * 2 ^ 12 + r.value % 2 ^ 7) r.value)
    (cond (eqb r.mask 0xfe00707f) (eqb (r.value / 2 ^ 25 * 2 ^ 25 + (r.value / 2 ^ 12 % 2 ^ 3 * 2 ^ 12 + r.value % 2 ^ 7)) r.value)
    (eqb r.mask 0xffffffff)))

pub rows_are_plain : list_all is_plain rows ≡ true
rows_are_plain = refl

-- whether the word has the fixed fields, by the fields that the decoder reads
abbrev pub has_parts : ℕ → Row → Bool
has_parts w r = fits_row (field w 0 7) (field w 12 3) (field w 25 7) w r

opcode_same : (w v : ℕ) → eqb (bit_and w 0x7f) v ≡ eqb (field w 0 7) v
opcode_same w v = rw (opcode_kept w) (grind (arith, nat_tests))

funct3_same : (w v : ℕ) → v / 2 ^ 12 % 2 ^ 3 * 2 ^ 12 + v % 2 ^ 7 ≡ v → eqb (bit_and w 0x707f) v ≡ (eqb (field w 0 7) (v % 2 ^ 7) && eqb (field w 12 3) (v / 2 ^ 12))
funct3_same w v h = rw (funct3_kept w) (grind (arith, nat_tests))

funct7_same : (w v : ℕ) → w < 2 ^ 32 → v / 2 ^ 25 * 2 ^ 25 + (v / 2 ^ 12 % 2 ^ 3 * 2 ^ 12 + v % 2 ^ 7) ≡ v → eqb (bit_and w 0xfe00707f) v ≡ (eqb (field w 0 7) (v % 2 ^ 7) && eqb (field w 12 3) (v / 2 ^ 12 % 2 ^ 3) && eqb (field w 25 7) (v / 2 ^ 25))
funct7_same w v small h = rw (funct7_kept w small) (grind (arith, nat_tests))

word_same : (w v : ℕ) → w < 2 ^ 32 → eqb (bit_and w 0xffffffff) v ≡ (eqb (field w 0 7) (v % 2 ^ 7) && eqb w v)
word_same w v small = rw (word_kept w small) (grind (arith, nat_tests))

-- a test that is one of four by the mask
chosen : (b₁ b₂ b₃ b₄ g₂ g₃ x y₁ y₂ y₃ y₄ : Bool) → cond b₁ true (cond b₂ g₂ (cond b₃ g₃ b₄)) ≡ true → (b₁ ≡ true → x ≡ y₁) → (b₂ ≡ true → g₂ ≡ true → x ≡ y₂) → (b₃ ≡ true → g₃ ≡ true → x ≡ y₃) → (b₄ ≡ true → x ≡ y₄) → x ≡ cond b₁ y₁ (cond b₂ y₂ (cond b₃ y₃ y₄))
chosen true b₂ b₃ b₄ g₂ g₃ x y₁ y₂ y₃ y₄ h h₁ h₂ h₃ h₄ = h₁ refl
chosen false true b₃ b₄ g₂ g₃ x y₁ y₂ y₃ y₄ h h₁ h₂ h₃ h₄ = h₂ refl h
chosen false false true b₄ g₂ g₃ x y₁ y₂ y₃ y₄ h h₁ h₂ h₃ h₄ = h₃ refl h
chosen false false false b₄ g₂ g₃ x y₁ y₂ y₃ y₄ h h₁ h₂ h₃ h₄ = h₄ h

pub has_fields_is : (w : ℕ) → w < 2 ^ 32 → (r : Row) → is_plain r ≡ true → has_fields w r ≡ has_parts w r
has_fields_is w small r plain =
    chosen _ _ _ _ _ _ _ _ _ _ _ plain
    (λ e. rw (eqb-true r.mask 0x7f e) (opcode_same w r.value))
    (λ e g. rw (eqb-true r.mask 0x707f e) (funct3_same w r.value (eqb-true _ _ g)))
    (λ e g. rw (eqb-true r.mask 0xfe00707f e) (funct7_same w r.value small (eqb-true _ _ g)))
    (λ e. rw (eqb-true r.mask 0xffffffff e) (word_same w r.value small))

-- the first row that passes is the same for tests that agree on each row
pub find_same : (p q c : Row → Bool) → ((r : Row) → c r ≡ true → p r ≡ q r) → (rs : List Row) → list_all c rs ≡ true → find p rs ≡ find q rs
find_same p q c same [] all = refl
find_same p q c same (r ∷ rs) all =
    let both : (c r ≡ true) × (list_all c rs ≡ true) = and_parts (c r) (list_all c rs) all in
    let rest : find p rs ≡ find q rs = find_same p q c same rs both.1 in
    rw (same r both.0, rest) refl

-- the row of a word, found by its fields
pub row_of_is : (w : ℕ) → w < 2 ^ 32 → row_of w ≡ find (has_parts w) rows
unfolding row_of
row_of_is w small = find_same (has_fields w) (has_parts w) is_plain (has_fields_is w small) rows rows_are_plain

map_twice : (w : ℕ) (o : Option Row) → option_map (instr_at w) o ≡ option_map (λ o. instr_of_form (form_of o) o w) (option_map (λ r. r.op) o)
map_twice w None = refl
map_twice w (Some r) = refl

-- the instruction of a word, by the operation that its fields have
pub decode_is : (w opcode funct3 funct7 : ℕ) (o : Option Op) → w < 2 ^ 32 → opcode ≡ field w 0 7 → funct3 ≡ field w 12 3 → funct7 ≡ field w 25 7 → o ≡ op_at opcode funct3 funct7 w → decode w ≡ option_map (λ p. instr_of_form (form_of p) p w) o
decode_is w opcode funct3 funct7 o small h₁ h₂ h₃ is =
    rw (row_of_is w small, is, h₁, h₂, h₃) (map_twice w (find (has_parts w) rows))
