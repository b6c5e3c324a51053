-- From a line to its statement.
use Rattle.std.specs.Prelude.{ℕ, ◌-◌, ◌==◌, pos, Bool, true, false, ◌&&◌, List, [], ◌∷◌, length, find, Option, Some, None, option_map, codes, slice_index, take, if◌then◌else◌}
use Rattle.std.specs.Str.{bytes_eq}
use Rattle.std.specs.Map.{lookup}
use Rattle.rv_isa.specs.declared.Op.{Op}
use Rattle.rv_isa.specs.declared.Op.TheVariants as op
use Rattle.rv_isa.specs.declared.Form.{Form}
use Rattle.rv_isa.specs.declared.Form.TheVariants as form
use Rattle.rv_isa.specs.Table.{ops, form_of}
use Rattle.rv_isa.specs.Text.{mnemonic}
use Rattle.rv_asm.specs.Lexing.{first_word, following, without_comment, operands, one}
use Rattle.wedge_base.specs.Texts.{is_name}
use Rattle.rv_asm.specs.Numbers.{Number}
use Rattle.rv_asm.specs.Numbers as number
use Rattle.rv_asm.specs.Operands.{◌>>=◌, or_else, one_number, second_number, register_number, register_base, register_label, two_registers, two_registers_number, three_registers}
use Rattle.rv_asm.specs.Statements.{Template, template, Statement}
use Rattle.rv_asm.specs.Statements as statement
use Rattle.wedge_base.specs.Services.{services, service_name}
use Rattle.wedge_base.specs.declared.service.Service.{Service}
use Rattle.rv_asm.specs.declared.fault.Why.TheVariants as why
use Rattle.rv_asm.specs.declared.mnemonics.Shorthand.{Shorthand}
use Rattle.rv_asm.specs.declared.mnemonics.Shorthand.TheVariants as short
use Rattle.rv_asm.specs.declared.mnemonics.Head.{Head}
use Rattle.rv_asm.specs.declared.mnemonics.Head.TheVariants as head

-- the directives and pseudoinstructions: `.word`, `.proc` and `svc`, and those of chapter 25 of the
-- manual
abbrev pub shorthands : List (List ℕ × Shorthand)
shorthands =
    (codes ".word", short.Word) ∷
    (codes ".proc", short.Procedure) ∷
    (codes "li", short.LoadNumber) ∷
    (codes "la", short.LoadAddress) ∷
    (codes "mv", short.Move) ∷
    (codes "j", short.Jump) ∷
    (codes "call", short.Call) ∷
    (codes "ret", short.Return) ∷
    (codes "beqz", short.BranchZero) ∷
    (codes "bnez", short.BranchNotZero) ∷
    (codes "nop", short.Nothing) ∷
    (codes "svc", short.Service) ∷
    []

abbrev pub op_named : List ℕ → Option Op
op_named word = find (λ o. bytes_eq (mnemonic o) word) ops

abbrev pub shorthand_named : List ℕ → Option Shorthand
shorthand_named word = lookup (λ name. bytes_eq word name) shorthands

unfoldable pub head_named : List ℕ → Option Head
head_named word = or_else (option_map head.Machine (op_named word)) (option_map head.Short (shorthand_named word))

-- the service call that has a name
abbrev pub service_named : List ℕ → Option Service
service_named text = find (λ s. bytes_eq (service_name s) text) services

abbrev pub zero : Number
zero = number.Literal (pos 0)

-- `x` where no operand is written
abbrev pub bare : {X : Type 0} → X → List ℕ → Option X
bare x [] = Some x
bare x (c ∷ cs) = None

-- the operands of an instruction, by its form
unfoldable pub with_form : Form → Op → List ℕ → Option Template
with_form form.Upper o text = register_number text >>= λ p. Some (template o p.0 0 0 p.1)
with_form form.Jump o text = register_number text >>= λ p. Some (template o p.0 0 0 p.1)
with_form form.Branch o text = two_registers_number text >>= λ p. Some (template o 0 p.0 p.1 p.2)
with_form form.Offset o text = register_base text >>= λ p. Some (template o p.0 p.2 0 p.1)
with_form form.Store o text = register_base text >>= λ p. Some (template o 0 p.2 p.0 p.1)
with_form form.Immediate o text = two_registers_number text >>= λ p. Some (template o p.0 p.1 0 p.2)
with_form form.Shift o text = two_registers_number text >>= λ p. Some (template o p.0 p.1 0 p.2)
with_form form.Register o text = three_registers text >>= λ p. Some (template o p.0 p.1 p.2 zero)
with_form form.Whole o text = bare (template o 0 0 0 zero) text

abbrev pub is_fence : Op → Bool
is_fence op.Fence = true
is_fence _ = false

-- an instruction of the table; `fence` without operands orders every access
unfoldable pub machine : Op → List ℕ → Option Template
machine o text =
    if is_fence o && length text == 0
    then Some (template o 0 0 0 (number.Literal (pos 255)))
    else with_form (form_of o) o text

-- the instruction that a pseudoinstruction stands for. Chapter 25 of the manual; `call` is one JAL
unfoldable pub synonym : Shorthand → List ℕ → Option Template
synonym short.Move text = two_registers text >>= λ p. Some (template op.Addi p.0 p.1 0 zero)
synonym short.Jump text = one_number text >>= λ n. Some (template op.Jal 0 0 0 n)
synonym short.Call text = one_number text >>= λ n. Some (template op.Jal 1 0 0 n)
synonym short.Return text = bare (template op.Jalr 0 1 0 zero) text
synonym short.BranchZero text = register_number text >>= λ p. Some (template op.Beq 0 p.0 0 p.1)
synonym short.BranchNotZero text = register_number text >>= λ p. Some (template op.Bne 0 p.0 0 p.1)
synonym short.Nothing text = bare (template op.Addi 0 0 0 zero) text
synonym _ text = None

-- the statement of a directive or pseudoinstruction
unfoldable pub shorthand : Shorthand → List ℕ → Option Statement
shorthand short.Word text = one_number text >>= λ n. Some (statement.Word n)
shorthand short.Procedure text = one (operands text) >>= λ name. Some (statement.Procedure name (is_name name))
shorthand short.LoadNumber text = register_number text >>= λ p. Some (statement.LoadNumber p.0 p.1)
shorthand short.LoadAddress text = register_label text >>= λ p. Some (statement.LoadAddress p.0 p.1)
shorthand short.Service text =
    one (operands text) >>= λ name.
    service_named name >>= λ service. Some (statement.Service service)
shorthand s text = synonym s text >>= λ t. Some (statement.Instruction t)

abbrev pub with_head : Head → List ℕ → Option Statement
with_head (head.Machine o) text = machine o text >>= λ t. Some (statement.Instruction t)
with_head (head.Short s) text = shorthand s text

-- how many words a line other than `li` counts whose operands are invalid
abbrev pub words_at_fault : Head → ℕ
words_at_fault (head.Short short.Procedure) = 0
words_at_fault (head.Short short.LoadAddress) = 2
words_at_fault (head.Short short.Service) = 2
words_at_fault h = 1

-- an `li` whose operands are invalid, by its second operand where that is a number
abbrev pub faulty_load : Option Number → Statement
faulty_load None = statement.Faulty why.Operand 1
faulty_load (Some n) = statement.FaultyLoad n

-- the statement of a line whose operands are invalid
abbrev pub faulty_statement : Head → List ℕ → Statement
faulty_statement (head.Short short.LoadNumber) text = faulty_load (second_number text)
faulty_statement h text = statement.Faulty why.Operand (words_at_fault h)

abbrev pub or_faulty : Head → List ℕ → Option Statement → Statement
or_faulty h text None = faulty_statement h text
or_faulty h text (Some s) = s

abbrev pub headed : Option Head → List ℕ → Statement
headed None text = statement.Faulty why.Mnemonic 1
headed (Some h) text = or_faulty h text (with_head h text)

-- a first word that ends in `:` makes a label
unfoldable pub labelled : List ℕ → List ℕ → Statement
labelled name rest = statement.Label name (is_name name && length rest == 0)

unfoldable pub of_words : List ℕ → List ℕ → Statement
of_words word rest =
    if slice_index word (length word - 1) == 58
    then labelled (take (length word - 1) word) rest
    else headed (head_named word) rest

abbrev pub of_content : List ℕ → Statement
of_content [] = statement.Blank
of_content (c ∷ cs) = of_words (first_word (c ∷ cs)) (following (c ∷ cs))

-- the statement of a line
unfoldable pub statement_of : List ℕ → Statement
statement_of line = of_content (without_comment line)
