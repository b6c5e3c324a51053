-- The text of an instruction is one line, and is assembled to its word.
use Rattle.std.proofs.Common.{◌≡◌, ◌≢◌, ℕ, ◌<◌, false, List, [], ◌∷◌, ◌++◌, length, map, Some, Ok, refl, ap, ◌∙◌, inl, inr, ◌⊎◌, subst, pos, arith}
use Rattle.std.proofs.lemmas.Bool.{ltb-true}
use Rattle.std.proofs.lemmas.Int.{ints}
use Rattle.std.proofs.lemmas.List.{append-nil}
use Rattle.rv_isa.specs.declared.Op.{Op}
use Rattle.rv_isa.specs.declared.Form.{Form}
use Rattle.rv_isa.specs.declared.Form.TheVariants as form
use Rattle.rv_isa.specs.declared.Instr.{Instr}
use Rattle.rv_isa.specs.Table.{form_of}
use Rattle.rv_isa.specs.Ranges.{ranges, IsInRange, HasOperandsIn}
use Rattle.rv_isa.specs.Encoding.{encoded}
use Rattle.rv_isa.specs.Text.{mnemonic, operand_text, text}
use Rattle.rv_isa.proofs.Rows.{IsInRange-of_row}
use Rattle.rv_isa.proofs.Words.{encoded_is}
use Rattle.rv_asm.specs.declared.assembled.Equate.{Equate}
use Rattle.rv_asm.specs.declared.mnemonics.Head.TheVariants as head
use Rattle.rv_asm.specs.Lexing.{is_blank, lines, first_word, following}
use Rattle.rv_asm.specs.Statements.{Template}
use Rattle.rv_asm.specs.Statements as statement
use Rattle.rv_asm.specs.Parsing.{statement_of, of_content, of_words, headed, machine}
use Rattle.rv_asm.specs.Assembly.{Equates, Labels, equates_of, no_labels, nothing, instruction, words, labels_from, assembled_from, assembled}
use Rattle.rv_asm.specs.Laws.{alone, TextsAreReadBack, WordsAreReadBack}
use Rattle.rv_asm.proofs.Plain.{IsTight}
use Rattle.rv_asm.proofs.Pieces.{IsContent, content_is, content_operand, content_spaced, operand_plain, spaced, line_alone, first_spaced, following_spaced, first_alone, following_alone}
use Rattle.rv_asm.proofs.Names.{mnemonic_plain, mnemonic_some, mnemonic_heads, machine_some, machine_whole}
use Rattle.rv_asm.proofs.Placing.{instruction_written}
use Rattle.rv_asm.proofs.Reading.{template_of, read_back}

content_mnemonic : (o : Op) → IsContent (mnemonic o)
content_mnemonic o = content_operand (mnemonic o) (operand_plain (mnemonic o) (ltb-true _ _ (mnemonic_some o)) (mnemonic_plain o))

of_content_some : (t : List ℕ) → 0 < length t → of_content t ≡ of_words (first_word t) (following t)
of_content_some [] l = absurd (omega arith)
of_content_some (c ∷ cs) l = refl

-- a line of a first word and a rest
by_words : (t m rest : List ℕ) → IsContent t → 0 < length t → first_word t ≡ m → following t ≡ rest → statement_of t ≡ of_words m rest
unfolding statement_of
by_words t m rest h l first after = ap of_content (content_is t h) ∙ of_content_some t l ∙ rw (first, after) refl

headed_is : (o : Op) (rest : List ℕ) (t : Template) → machine o rest ≡ Some t → headed (Some (head.Machine o)) rest ≡ statement.Instruction t
headed_is o rest t e = rw e refl

spaced_is : (m t : List ℕ) → m ++ 32 ∷ t ≡ spaced m t
unfolding spaced
spaced_is m t = refl

spaced_some : (m t : List ℕ) → 0 < length (spaced m t)
unfolding spaced
spaced_some [] t = omega arith
spaced_some (c ∷ cs) t = omega arith

statement_spaced : (o : Op) (rest : List ℕ) (t : Template) → IsContent rest → machine o rest ≡ Some t → statement_of (spaced (mnemonic o) rest) ≡ statement.Instruction t
statement_spaced o rest t h e =
    by_words (spaced (mnemonic o) rest) (mnemonic o) rest (content_spaced (mnemonic o) rest (content_mnemonic o) h) (spaced_some (mnemonic o) rest)
    (first_spaced (mnemonic o) rest (mnemonic_plain o)) (following_spaced (mnemonic o) rest (mnemonic_plain o) h.tight)
    ∙ mnemonic_heads o rest
    ∙ headed_is o rest t e

statement_alone : (o : Op) (t : Template) → machine o [] ≡ Some t → statement_of (mnemonic o) ≡ statement.Instruction t
statement_alone o t e =
    by_words (mnemonic o) (mnemonic o) [] (content_mnemonic o) (ltb-true _ _ (mnemonic_some o))
    (first_alone (mnemonic o) (mnemonic_plain o)) (following_alone (mnemonic o) (mnemonic_plain o))
    ∙ mnemonic_heads o []
    ∙ headed_is o [] t e

-- a line of one instruction, whatever the names are
one_instruction : (es : Equates) (ls : Labels) (base w : ℕ) (t : Template) → instruction es ls base t ≡ Ok (w ∷ []) → assembled_from es ls nothing 1 base (statement.Instruction t ∷ []) ≡ Ok (alone w)
unfolding assembled_from words
one_instruction es ls base w t e = rw e refl

assembled_line : (x : List ℕ) (base : ℕ) (names : List Equate) (t : Template) (w : ℕ) → IsContent x → statement_of x ≡ statement.Instruction t → ((es : Equates) (ls : Labels) (at : ℕ) → instruction es ls at t ≡ Ok (w ∷ [])) → assembled x base names ≡ Ok (alone w)
unfolding assembled
assembled_line x base names t w h is each =
    let es = equates_of names in
    let all : map statement_of (lines x) ≡ statement.Instruction t ∷ [] = ap (map statement_of) (line_alone x h) ∙ ap (λ s. s ∷ []) is in
    ap (λ (ss : List statement.Statement). assembled_from es (labels_from es no_labels 1 base ss) nothing 1 base ss) all
    ∙ one_instruction es (labels_from es no_labels 1 base (statement.Instruction t ∷ [])) base w t (each _ _ _)

tight_some : (t : List ℕ) → IsTight t → 0 < length t
tight_some [] h = let no : is_blank 32 ≡ false = h.first in absurd cc
tight_some (c ∷ cs) h = omega arith

whole_or : (f : Form) → (f ≡ form.Whole) ⊎ (f ≢ form.Whole)
whole_or form.Whole = inl refl
whole_or form.Upper = inr (λ e. absurd cc)
whole_or _ = inr (λ e. absurd cc)

-- the line of an instruction, as it is read
record IsLine (i : Instr) : Type 0 where
  pub content : IsContent (text i)
  pub is : statement_of (text i) ≡ statement.Instruction (template_of (form_of i.op) i)

line_whole : (i : Instr) → form_of i.op ≡ form.Whole → HasOperandsIn (ranges form.Whole) i → IsLine i
line_whole i e h =
    let o = i.op in
    let same : text i ≡ mnemonic o = ap (λ f. mnemonic o ++ operand_text f i) e ∙ append-nil (mnemonic o) in
    let rd : i.rd ≡ 0 = omega (arith, h.rd) in
    let rs1 : i.rs1 ≡ 0 = omega (arith, h.rs1) in
    let rs2 : i.rs2 ≡ 0 = omega (arith, h.rs2) in
    let imm : i.imm ≡ pos 0 = omega (arith, ints, h.low, h.high) in
    let meant : machine o [] ≡ Some (template_of (form_of o) i) = machine_whole o e ∙ rw (e, rd, rs1, rs2, imm) refl in
    record { content = rw same (content_mnemonic o); is = rw same (statement_alone o (template_of (form_of o) i) meant) }

line_spaced : (i : Instr) → form_of i.op ≢ form.Whole → IsInRange i → IsLine i
line_spaced i k h =
    let o = i.op in
    let r = read_back (form_of o) i k h in
    let same : text i ≡ spaced (mnemonic o) r.rest = ap (λ t. mnemonic o ++ t) r.text ∙ spaced_is (mnemonic o) r.rest in
    let meant : machine o r.rest ≡ Some (template_of (form_of o) i) = machine_some o r.rest (tight_some r.rest r.content.tight) ∙ r.template in
    record {
      content = rw same (content_spaced (mnemonic o) r.rest (content_mnemonic o) r.content);
      is = rw same (statement_spaced o r.rest (template_of (form_of o) i) r.content meant);
    }

line_is : (i : Instr) → IsInRange i → IsLine i
line_is i h =
    elim (whole_or (form_of i.op)) [
      | inl e ↦ line_whole i e (subst (λ (f : Form). HasOperandsIn (ranges f) i) e h)
      | inr k ↦ line_spaced i k h
    ]

in_range : (i : Instr) (base : ℕ) (names : List Equate) → IsInRange i → assembled (text i) base names ≡ Ok (alone (encoded i))
in_range i base names h =
    let line = line_is i h in
    assembled_line (text i) base names (template_of (form_of i.op) i) (encoded i) line.content line.is (λ es ls at. instruction_written i es ls at h)

pub texts_are_read_back : TextsAreReadBack
texts_are_read_back i base names h = in_range i base names (IsInRange-of_row i h)

pub words_are_read_back : WordsAreReadBack
words_are_read_back word i base names small h =
    texts_are_read_back i base names (record { word = word; fits = small; is = h })
    ∙ ap (λ w. Ok (alone w)) (encoded_is word i small h)
