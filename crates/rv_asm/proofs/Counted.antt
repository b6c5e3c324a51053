-- A statement has as many words as it counts for.
use Rattle.std.proofs.Common.{◌≡◌, ℕ, Bool, true, false, List, [], ◌∷◌, length, refl, sym, ap, ◌∙◌}
use Rattle.std.specs.Prelude.{ℤ, Result, Ok, Err, if◌then◌else◌}
use Rattle.rv_isa.specs.Table.{form_of}
use Rattle.rv_asm.specs.Statements.{Statement, Template}
use Rattle.rv_asm.specs.Statements as statement
use Rattle.rv_asm.specs.Assembly.{Equates, Labels, ◌>>=◌, integer, label_address, operand_value, checked_immediate, instruction, or_out_of_range, is_word, is_small, load_two, load_number, label_line, is_taken, words, number_size, size}
use Rattle.rv_asm.specs.Laws.{WordsAreCounted}
use Rattle.rv_asm.specs.declared.fault.Why.{Why}
use Rattle.rv_isa.specs.declared.Form.{Form}

-- how many words an answer has; an invalid one counts for a number that is given
abbrev long : Result (List ℕ) Why → ℕ → ℕ
long (Ok ws) n = length ws
long (Err w) n = n

label_long : (taken sound : Bool) → long (label_line taken sound) 0 ≡ 0
label_long true sound = refl
label_long false true = refl
label_long false false = refl

demand_long : (test : Bool) (ws : List ℕ) (n : ℕ) → length ws ≡ n → long (or_out_of_range test ws) n ≡ n
demand_long true ws n e = e
demand_long false ws n e = refl

word_long : (r : Result ℤ Why) (f : ℤ → ℕ) → long (r >>= λ z. or_out_of_range (is_word z) (f z ∷ [])) 1 ≡ 1
word_long (Ok z) f = demand_long (is_word z) (f z ∷ []) 1 refl
word_long (Err w) f = refl

encoded_long : (r : Result ℤ Why) (f : ℤ → ℕ) → long (r >>= λ imm. Ok (f imm ∷ [])) 1 ≡ 1
encoded_long (Ok z) f = refl
encoded_long (Err w) f = refl

placed_long : (r : Result ℤ Why) (form : Form) (f : ℤ → ℕ) → long (r >>= λ z. checked_immediate form z >>= λ imm. Ok (f imm ∷ [])) 1 ≡ 1
placed_long (Ok z) form f = encoded_long (checked_immediate form z) f
placed_long (Err w) form f = refl

number_words : (small : Bool) (rd n a : ℕ) → length (if small then a ∷ [] else load_two rd n) ≡ (if small then 1 else 2)
unfolding load_two
number_words true rd n a = refl
number_words false rd n a = refl

number_long : (r : Result ℤ Why) (rd : ℕ) → long (r >>= λ z. or_out_of_range (is_word z) (load_number rd z)) (number_size r) ≡ number_size r
unfolding load_number
number_long (Ok z) rd = demand_long (is_word z) (load_number rd z) _ (number_words (is_small z) rd _ _)
number_long (Err w) rd = refl

address_long : (r : Result ℕ Why) (rd : ℕ) → long (r >>= λ a. Ok (load_two rd a)) 2 ≡ 2
unfolding load_two
address_long (Ok a) rd = refl
address_long (Err w) rd = refl

statement_long : (es : Equates) (ls : Labels) (line at : ℕ) (s : Statement) → long (words es ls line at s) (size es s) ≡ size es s
unfolding words instruction
statement_long es ls line at statement.Blank = refl
statement_long es ls line at (statement.Label name sound) = label_long (is_taken es ls line name) sound
statement_long es ls line at (statement.Procedure name sound) = label_long (is_taken es ls line name) sound
statement_long es ls line at (statement.Word n) = word_long (integer es n) _
statement_long es ls line at (statement.Instruction t) = placed_long (operand_value (form_of t.op) es ls at t.imm) (form_of t.op) _
statement_long es ls line at (statement.LoadNumber rd n) = number_long (integer es n) rd
statement_long es ls line at (statement.LoadAddress rd name) = address_long (label_address ls name) rd
statement_long es ls line at (statement.Service s) = refl
statement_long es ls line at (statement.Faulty w n) = refl
statement_long es ls line at (statement.FaultyLoad n) = refl

pub words_are_counted : WordsAreCounted
words_are_counted es ls line at s ws e = ap (λ r. long r (size es s)) (sym e) ∙ statement_long es ls line at s
