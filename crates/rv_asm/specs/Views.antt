-- The values that the code's types stand for.
use Rattle.std.specs.Prelude.{ℕ, List, [], ◌∷◌, Option}
use Rattle.std.specs.HashMap.{get_by}
use Rattle.std.specs.Str.{bytes_eq}
use Rattle.rv_asm.specs.Numbers as number
use Rattle.rv_asm.specs.Statements as statement
use Rattle.rv_asm.specs.declared.numbers.Number.{Number}
use Rattle.rv_asm.specs.declared.numbers.Number.TheVariants as number_code
use Rattle.rv_asm.specs.declared.templates.Template.{Template}
use Rattle.rv_asm.specs.declared.emission.Code.{Code}
use Rattle.rv_asm.specs.declared.emission.Code.TheVariants.{Empty, One, Two}
use Rattle.rv_asm.specs.declared.labels.Equates.{Equates}
use Rattle.rv_asm.specs.declared.labels.Labels.{Labels}
use Rattle.rv_asm.specs.declared.labels.Label.{Label}
use Rattle.rv_asm.specs.declared.statements.Statement.{Statement}
use Rattle.rv_asm.specs.declared.statements.Statement.TheVariants as code

abbrev pub number_view : Number → number.Number
number_view (number_code.Literal z) = number.Literal z
number_view (number_code.Named name) = number.Named name.now

abbrev pub template_view : Template → statement.Template
template_view t = statement.template t.op t.rd t.rs1 t.rs2 (number_view t.imm)

abbrev pub statement_view : Statement → statement.Statement
statement_view code.Blank = statement.Blank
statement_view (code.Label name sound) = statement.Label name.now sound
statement_view (code.Procedure name sound) = statement.Procedure name.now sound
statement_view (code.Word n) = statement.Word (number_view n)
statement_view (code.Instruction t) = statement.Instruction (template_view t)
statement_view (code.LoadNumber rd n) = statement.LoadNumber rd.number (number_view n)
statement_view (code.LoadAddress rd name) = statement.LoadAddress rd.number name.now
statement_view (code.Service n) = statement.Service n
statement_view (code.Faulty why words) = statement.Faulty why words
statement_view (code.FaultyLoad n) = statement.FaultyLoad (number_view n)

-- a map of names as a function of them
abbrev pub equates_view : Equates → List ℕ → Option ℕ
equates_view e name = get_by (λ k. bytes_eq name k.now) e.map

abbrev pub labels_view : Labels → List ℕ → Option Label
labels_view l name = get_by (λ k. bytes_eq name k.now) l.map

abbrev pub code_view : Code → List ℕ
code_view Empty = []
code_view (One a) = a ∷ []
code_view (Two a b) = a ∷ b ∷ []
