use Rattle.std.proofs.Common.{◌≡◌, ap, sym, ◌∙◌, [], below_more, false}
use Rattle.std.specs.Str.{bytes_eq}
use Rattle.rv_isa.specs.Text.{register_names, register_name}
use Rattle.rv_asm.proofs.Places.{position_there, position_nowhere}
use Rattle.rv_asm.proofs.registers.named_register.Goals as goal

pub loop-n-preserved : goal.loop-n-preserved
loop-n-preserved c =
    let same : c.eq.result ≡ bytes_eq (register_name c.loop-n.n) c.args.text.now = c.eq.ensures ∙ ap (λ t. bytes_eq t c.args.text.now) (c.as_bytes.ensures.value ∙ c.register_name.ensures) in
    below_more (λ k. bytes_eq (register_name k) c.args.text.now ≡ false) _ c.loop-n.invariant (sym same ∙ c.if-eq.false)

pub returns-then-eq-clause-is : goal.returns-then-eq-clause-is
returns-then-eq-clause-is c =
    let same : c.eq.result ≡ bytes_eq (register_name c.loop-n.n) c.args.text.now = c.eq.ensures ∙ ap (λ t. bytes_eq t c.args.text.now) (c.as_bytes.ensures.value ∙ c.register_name.ensures) in
    sym (position_there (λ name. bytes_eq name c.args.text.now) register_names c.loop-n.n [] c.loop-n-test.true c.loop-n.invariant (sym same ∙ c.if-eq.true))

pub returns-clause-is : goal.returns-clause-is
returns-clause-is c =
    sym (position_nowhere (λ name. bytes_eq name c.args.text.now) register_names c.loop-n.n [] c.loop-n-test.false c.loop-n.invariant)
