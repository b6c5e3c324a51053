-- What a text means: its words and its procedures, or its first invalid line.
use Rattle.std.specs.Prelude.{◌≡◌, ℕ, ◌+◌, ◌-◌, ◌*◌, ◌/◌, ◌%◌, ◌^◌, ◌==◌, ℤ, pos, negsuc, Bool, false, ◌&&◌, ◌||◌, List, [], ◌∷◌, ◌++◌, map, Option, Some, None, option_map, is_some, Result, Ok, Err, nat_lt, int_le, if◌then◌else◌}
use Rattle.std.specs.Int.{w32, cast_signed}
use Rattle.std.specs.Str.{bytes_eq}
use Rattle.rv_isa.specs.declared.Op.TheVariants as op
use Rattle.rv_isa.specs.declared.Form.{Form}
use Rattle.rv_isa.specs.declared.Form.TheVariants as form
use Rattle.rv_isa.specs.Table.{form_of, instr}
use Rattle.rv_isa.specs.Numbers.{word_of}
use Rattle.rv_isa.specs.Encoding.{encoded}
use Rattle.rv_isa.specs.Ranges.{Ranges, ranges, to}
use Rattle.wedge_base.specs.declared.image.Procedure.{Procedure}
use Rattle.rv_asm.specs.Lexing.{lines}
use Rattle.rv_asm.specs.Numbers.{Number}
use Rattle.rv_asm.specs.Numbers as number
use Rattle.rv_asm.specs.Statements.{Statement, Template}
use Rattle.rv_asm.specs.Statements as statement
use Rattle.rv_asm.specs.Parsing.{statement_of}
use Rattle.wedge_base.specs.Services.{service_number}
use Rattle.rv_asm.specs.declared.assembled.Equate.{Equate}
use Rattle.rv_asm.specs.declared.assembled.Assembled.{Assembled}
use Rattle.rv_asm.specs.declared.labels.Label.{Label}
use Rattle.rv_asm.specs.declared.fault.Fault.{Fault}
use Rattle.rv_asm.specs.declared.fault.AsmError.{AsmError}
use Rattle.rv_asm.specs.declared.fault.AsmError.TheVariants as error
use Rattle.rv_asm.specs.declared.fault.Why.{Why}
use Rattle.rv_asm.specs.declared.fault.Why.TheVariants as why

-- ---- names

-- the value of each equate, and the label of each name
abbrev pub Equates : Type 0
Equates = List ℕ → Option ℕ

abbrev pub Labels : Type 0
Labels = List ℕ → Option Label

-- of equates with one name, the first counts
abbrev pub equates_of : List Equate → Equates
equates_of [] name = None
equates_of (e ∷ es) name = if bytes_eq e.name name then Some e.value else equates_of es name

abbrev pub no_labels : Labels
no_labels name = None

abbrev pub with_label : List ℕ → Label → Labels → Labels
with_label name l ls asked = if bytes_eq name asked then Some l else ls asked

-- whether a name is defined, by an equate or by a label
abbrev pub is_defined : Equates → Labels → List ℕ → Bool
is_defined es ls name = is_some (es name) || is_some (ls name)

-- whether a label is of a line before this one
abbrev pub is_earlier : ℕ → Option Label → Bool
is_earlier line None = false
is_earlier line (Some l) = nat_lt l.line line

-- whether a name is defined before a line, by an equate or by the label of an earlier line
abbrev pub is_taken : Equates → Labels → ℕ → List ℕ → Bool
is_taken es ls line name = is_some (es name) || is_earlier line (ls name)

-- ---- numbers

infixl 10 ◌>>=◌
abbrev pub ◌>>=◌ : {X Y E : Type 0} → Result X E → (X → Result Y E) → Result Y E
(Ok x) >>= next = next x
(Err e) >>= next = Err e

abbrev pub or_unknown : {X : Type 0} → Option X → Result X Why
or_unknown None = Err why.Label
or_unknown (Some x) = Ok x

abbrev pub integer : Equates → Number → Result ℤ Why
integer es (number.Literal z) = Ok z
integer es (number.Named name) = or_unknown (option_map pos (es name))

abbrev pub label_address : Labels → List ℕ → Result ℕ Why
label_address ls name = or_unknown (option_map (λ l. l.address) (ls name))

-- the distance from one address to another: their difference modulo 2^32, as a signed 32-bit number
abbrev pub distance : ℕ → ℕ → ℤ
distance from to = cast_signed w32 ((to + (2 ^ 32 - from)) % 2 ^ 32)

abbrev pub distance_or : Option ℕ → ℕ → Option Label → Result ℤ Why
distance_or e at None = or_unknown (option_map pos e)
distance_or e at (Some l) = Ok (distance at l.address)

-- the offset that a jump or branch names: the distance of a label, or a number
abbrev pub target : Equates → Labels → ℕ → Number → Result ℤ Why
target es ls at (number.Literal z) = Ok z
target es ls at (number.Named name) = distance_or (es name) at (ls name)

abbrev pub is_within : ℤ → ℤ → ℤ → Bool
is_within low high z = int_le low z && int_le z high

abbrev pub or_out_of_range : {X : Type 0} → Bool → X → Result X Why
or_out_of_range test x = if test then Ok x else Err why.Range

-- whether a number fits 32 bits, signed or unsigned
abbrev pub is_word : ℤ → Bool
is_word z = is_within (negsuc (2 ^ 31 - 1)) (pos (2 ^ 32 - 1)) z

-- ---- instructions

-- The numbers that may be written for a form: its immediates; for `Upper`, the upper 20 bits alone,
-- 0 to 0xfffff.
abbrev pub allowed : Form → Ranges
allowed form.Upper = to 32 1 1 (pos 0) (pos 0xfffff) 1
allowed f = ranges f

abbrev pub is_allowed : Ranges → ℤ → Bool
is_allowed r z = is_within r.low r.high z && word_of z % r.step == 0

-- the immediate that a written number gives
abbrev pub instr_immediate : Form → ℤ → ℤ
instr_immediate form.Upper z = cast_signed w32 (word_of z * 2 ^ 12 % 2 ^ 32)
instr_immediate f z = z

abbrev pub checked_immediate : Form → ℤ → Result ℤ Why
checked_immediate f z = or_out_of_range (is_allowed (allowed f) z) (instr_immediate f z)

-- the value of an instruction's last operand, by its form
abbrev pub operand_value : Form → Equates → Labels → ℕ → Number → Result ℤ Why
operand_value form.Jump es ls at n = target es ls at n
operand_value form.Branch es ls at n = target es ls at n
operand_value f es ls at n = integer es n

unfoldable pub instruction : Equates → Labels → ℕ → Template → Result (List ℕ) Why
instruction es ls at t =
    operand_value (form_of t.op) es ls at t.imm >>= λ z.
    checked_immediate (form_of t.op) z >>= λ imm.
    Ok (encoded (instr t.op t.rd t.rs1 t.rs2 imm) ∷ [])

-- the word of an ADDI
abbrev pub add_word : ℕ → ℕ → ℤ → ℕ
add_word rd rs1 imm = encoded (instr op.Addi rd rs1 0 imm)

-- what LUI loads for n: n rounded to the nearest multiple of 2^12, so that an ADDI of -2048 to 2047
-- completes it
abbrev pub upper_part : ℕ → ℕ
upper_part n = (n + 0x800) % 2 ^ 32 / 2 ^ 12 * 2 ^ 12

-- LUI and ADDI
unfoldable pub load_two : ℕ → ℕ → List ℕ
load_two rd n =
    encoded (instr op.Lui rd 0 0 (cast_signed w32 (upper_part n))) ∷
    add_word rd rd (distance (upper_part n) n) ∷ []

-- whether one ADDI is enough to load a number
abbrev pub is_small : ℤ → Bool
is_small z = is_within (negsuc 2047) (pos 2047) z || is_within (pos (2 ^ 32 - 2048)) (pos (2 ^ 32 - 1)) z

unfoldable pub load_number : ℕ → ℤ → List ℕ
load_number rd z = if is_small z then add_word rd 0 (cast_signed w32 (word_of z)) ∷ [] else load_two rd (word_of z)

-- the number of the call in a7, and ECALL
abbrev pub service_words : ℕ → List ℕ
service_words n = add_word 17 0 (pos n) ∷ encoded (instr op.Ecall 0 0 0 (pos 0)) ∷ []

-- ---- lines

-- a label's line has no words: `Twice` where its name was taken before, else `Operand` where it is
-- malformed
abbrev pub label_line : Bool → Bool → Result (List ℕ) Why
label_line taken sound = if taken then Err why.Twice else (if sound then Ok [] else Err why.Operand)

abbrev pub data_word : Equates → Number → Result (List ℕ) Why
data_word es n = integer es n >>= λ z. or_out_of_range (is_word z) (word_of z ∷ [])

abbrev pub number_loaded : Equates → ℕ → Number → Result (List ℕ) Why
number_loaded es rd n = integer es n >>= λ z. or_out_of_range (is_word z) (load_number rd z)

abbrev pub address_loaded : Labels → ℕ → List ℕ → Result (List ℕ) Why
address_loaded ls rd name = label_address ls name >>= λ a. Ok (load_two rd a)

-- the words of a statement on a line, at an address
unfoldable pub words : Equates → Labels → ℕ → ℕ → Statement → Result (List ℕ) Why
words es ls line at statement.Blank = Ok []
words es ls line at (statement.Label name sound) = label_line (is_taken es ls line name) sound
words es ls line at (statement.Procedure name sound) = label_line (is_taken es ls line name) sound
words es ls line at (statement.Word n) = data_word es n
words es ls line at (statement.Instruction t) = instruction es ls at t
words es ls line at (statement.LoadNumber rd n) = number_loaded es rd n
words es ls line at (statement.LoadAddress rd name) = address_loaded ls rd name
words es ls line at (statement.Service s) = Ok (service_words (service_number s))
words es ls line at (statement.Faulty w n) = Err w
words es ls line at (statement.FaultyLoad n) = Err why.Operand

-- how many words a number takes to load; a name without a value counts one word
abbrev pub number_size : Result ℤ Why → ℕ
number_size (Ok z) = if is_small z then 1 else 2
number_size (Err e) = 1

-- how many words a statement counts, invalid or not
abbrev pub size : Equates → Statement → ℕ
size es (statement.Word n) = 1
size es (statement.Instruction t) = 1
size es (statement.LoadNumber rd n) = number_size (integer es n)
size es (statement.LoadAddress rd name) = 2
size es (statement.Service s) = 2
size es (statement.Faulty w n) = n
size es (statement.FaultyLoad n) = number_size (integer es n)
size es s = 0

-- the address after a statement
unfoldable pub address_after : Equates → ℕ → Statement → ℕ
address_after es at s = (at + 4 * size es s) % 2 ^ 32

-- the name that a well-formed label's line defines
abbrev pub name_if : Bool → List ℕ → Option (List ℕ)
name_if sound name = if sound then Some name else None

abbrev pub name_given : Statement → Option (List ℕ)
name_given (statement.Label name sound) = name_if sound name
name_given (statement.Procedure name sound) = name_if sound name
name_given s = None

-- the labels with that of a line added, where its name is not yet defined
abbrev pub define_label : Equates → ℕ → ℕ → Labels → Option (List ℕ) → Labels
define_label es line at ls None = ls
define_label es line at ls (Some name) =
    if is_defined es ls name then ls else with_label name (record { line = line; address = at }) ls

-- `ls` with the labels of these statements added. The first statement is on `line`, at the address
-- `at`.
unfoldable pub labels_from : Equates → Labels → ℕ → ℕ → List Statement → Labels
labels_from es ls line at [] = ls
labels_from es ls line at (s ∷ ss) = labels_from es (define_label es line at ls (name_given s)) (line + 1) (address_after es at s) ss

-- ---- the whole

-- the procedure that a statement begins
abbrev pub procedures : ℕ → Statement → List Procedure
procedures at (statement.Procedure name sound) = record { name = name; address = at } ∷ []
procedures at s = []

abbrev pub nothing : Assembled
nothing = record { words = []; procedures = [] }

abbrev pub with_line_words : Assembled → List ℕ → List Procedure → Assembled
with_line_words front ws ps = record { words = front.words ++ ws; procedures = front.procedures ++ ps }

abbrev pub on_line : {X : Type 0} → ℕ → Result X Why → Result X Fault
on_line line (Ok x) = Ok x
on_line line (Err w) = Err (record { line = line; why = w })

-- `front`, followed by the words and procedures of these statements. The first statement is on
-- `line`, at the address `at`.
unfoldable pub assembled_from : Equates → Labels → Assembled → ℕ → ℕ → List Statement → Result Assembled Fault
assembled_from es ls front line at [] = Ok front
assembled_from es ls front line at (s ∷ ss) =
    on_line line (words es ls line at s) >>= λ ws.
    assembled_from es ls (with_line_words front ws (procedures at s)) (line + 1) (address_after es at s) ss

-- the meaning of a text: its first word has the address `base`, and `names` are the equates
unfoldable pub assembled : List ℕ → ℕ → List Equate → Result Assembled Fault
assembled text base names =
    let statements = map statement_of (lines text) in
    let es = equates_of names in
    let ls = labels_from es no_labels 1 base statements in
    assembled_from es ls nothing 1 base statements

-- ---- answers

-- the code's result, mapped by `view`, is exactly this one
abbrev pub HasView : {X Y E : Type 0} → (X → Y) → Result X E → Result Y E → Type 0
HasView view (Ok x) meant = Ok (view x) ≡ meant
HasView view (Err e) meant = Err e ≡ meant

-- the result of `assemble` is exactly this one, unless memory ran out
abbrev pub IsAssemblyAnswer : Result Assembled AsmError → Result Assembled Fault → Type 0
IsAssemblyAnswer (Ok a) meant = Ok a ≡ meant
IsAssemblyAnswer (Err error.NoMemory) meant = Unit {0}
IsAssemblyAnswer (Err (error.Fault f)) meant = Err f ≡ meant
