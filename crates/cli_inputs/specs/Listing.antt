-- The listing of an image's text.
use Rattle.std.specs.Prelude.{ℕ, ◌+◌, List, [], ◌∷◌, ◌++◌, Option, Some, None, codes}
use Rattle.rv_isa.specs.declared.Instr.{Instr}
use Rattle.rv_isa.specs.Table.{decode}
use Rattle.rv_isa.specs.Text.{text}
use Rattle.wedge_base.specs.Images.{Image, procedure_name}
use Rattle.report_text.specs.Reports.{address_text}

-- a colon, and the end of a line
abbrev pub colon : ℕ
colon = 58

abbrev pub newline : ℕ
newline = 10

-- the name of a procedure, on a line of its own where it begins
abbrev pub heading : List ℕ → List ℕ
heading [] = []
heading (c ∷ cs) = (c ∷ cs) ++ colon ∷ newline ∷ []

-- an instruction as the assembler takes it; a word that is none, as a word
abbrev pub word_text : ℕ → Option Instr → List ℕ
word_text w None = codes ".word 0x" ++ address_text w
word_text w (Some ins) = text ins

unfoldable pub says : ℕ → List ℕ
says w = word_text w (decode w)

-- eight hexadecimal digits, and a space
unfoldable pub column : ℕ → List ℕ
column n = address_text n ++ codes " "

-- the word at an address
unfoldable pub word_line : ℕ → ℕ → List ℕ
word_line address w = column address ++ column w ++ says w ++ newline ∷ []

-- the lines of words from an address on
abbrev pub lines_from : Image → ℕ → List ℕ → List ℕ
lines_from i address [] = []
lines_from i address (w ∷ ws) = (heading (procedure_name i address) ++ word_line address w) ++ lines_from i (address + 4) ws

unfoldable pub listing : Image → List ℕ
listing i = lines_from i i.base i.words
