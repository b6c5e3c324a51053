-- A text in pieces: lines, words and operands. Spaces and tabs are trimmed, and nothing else.
use Rattle.std.specs.Prelude.{ℕ, ◌==◌, Bool, ◌||◌, List, [], ◌∷◌, map, reverse, Option, Some, None, length, nat_lt, if◌then◌else◌}
use Rattle.std.specs.List.{slice_split, position_or_len, before_first, after_first}

abbrev pub is_blank : ℕ → Bool
is_blank c = c == 32 || c == 9

abbrev pub is_comma : ℕ → Bool
is_comma c = c == 44

-- the text without the spaces and tabs at its start
abbrev pub trim_start : List ℕ → List ℕ
trim_start [] = []
trim_start (c ∷ cs) = if is_blank c then trim_start cs else c ∷ cs

-- the text without the spaces and tabs at its end
unfoldable pub trim_end : List ℕ → List ℕ
trim_end text = reverse (trim_start (reverse text))

-- the text without the spaces and tabs around it
unfoldable pub trim : List ℕ → List ℕ
trim text = trim_end (trim_start text)

-- the lines of a text, between its newlines (byte 10)
abbrev pub lines : List ℕ → List (List ℕ)
lines text = slice_split (λ c. c == 10) text

-- a line without its comment, which begins with `#`, and trimmed
unfoldable pub without_comment : List ℕ → List ℕ
without_comment line = trim (before_first (λ c. c == 35) line)

-- the first word, which ends before a space or tab, and the text after it
abbrev pub first_word : List ℕ → List ℕ
first_word text = before_first is_blank text

abbrev pub following : List ℕ → List ℕ
following text = trim_start (after_first is_blank text)

-- the operands: the pieces between commas, trimmed; an empty text has none
unfoldable pub operands : List ℕ → List (List ℕ)
operands [] = []
operands (c ∷ cs) = map trim (slice_split is_comma (c ∷ cs))

-- the elements of a list that has one, two or three
abbrev pub one : {X : Type 0} → List X → Option X
one (a ∷ []) = Some a
one _ = None

abbrev pub two : {X : Type 0} → List X → Option (X × X)
two (a ∷ b ∷ []) = Some (a, b)
two _ = None

abbrev pub three : {X : Type 0} → List X → Option (X × X × X)
three (a ∷ b ∷ c ∷ []) = Some (a, b, c)
three _ = None

-- the second element of a list that has one
abbrev pub second : {X : Type 0} → List X → Option X
second (a ∷ b ∷ rest) = Some b
second _ = None

-- the text before the first comma, and the text after it
unfoldable pub at_comma : List ℕ → Option (List ℕ × List ℕ)
at_comma text =
    if nat_lt (position_or_len is_comma text) (length text)
    then Some (before_first is_comma text, after_first is_comma text)
    else None
