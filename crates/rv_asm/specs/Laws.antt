-- Laws of the assembler: texts of instructions are read back, and a valid line has as many words as
-- it counts.
use Rattle.std.specs.Prelude.{◌≡◌, ℕ, ◌^◌, ◌<◌, List, [], ◌∷◌, length, Some, Ok}
use Rattle.rv_isa.specs.declared.Instr.{Instr}
use Rattle.rv_isa.specs.Table.{decode, IsOfRow}
use Rattle.rv_isa.specs.Encoding.{encoded}
use Rattle.rv_isa.specs.Text.{text}
use Rattle.rv_asm.specs.declared.assembled.Assembled.{Assembled}
use Rattle.rv_asm.specs.declared.assembled.Equate.{Equate}
use Rattle.rv_asm.specs.Statements.{Statement}
use Rattle.rv_asm.specs.Assembly.{Equates, Labels, words, size, assembled}

-- one word, and no procedure
abbrev pub alone : ℕ → Assembled
alone word = record { words = word ∷ []; procedures = [] }

-- the text of each instruction of the table is assembled to its word, at each base address and
-- under each list of equates
abbrev pub TextsAreReadBack : Type 0
TextsAreReadBack =
    (i : Instr) (base : ℕ) (names : List Equate) → IsOfRow i →
    assembled (text i) base names ≡ Ok (alone (encoded i))

-- the text of what a word decodes to is assembled to that word
abbrev pub WordsAreReadBack : Type 0
WordsAreReadBack =
    (word : ℕ) (i : Instr) (base : ℕ) (names : List Equate) → word < 2 ^ 32 → decode word ≡ Some i →
    assembled (text i) base names ≡ Ok (alone word)

-- a valid statement has as many words as it counts, so that labels have the addresses that they are
-- given
abbrev pub WordsAreCounted : Type 0
WordsAreCounted =
    (es : Equates) (ls : Labels) (line at : ℕ) (s : Statement) (ws : List ℕ) →
    words es ls line at s ≡ Ok ws → length ws ≡ size es s
