use Rattle.std.proofs.Common.{◌≡◌, ◌∙◌, ap, subst, map, sym}
use Rattle.rv_asm.specs.Lexing.{lines}
use Rattle.rv_asm.specs.Parsing.{statement_of}
use Rattle.rv_asm.specs.Views.{statement_view, equates_view, labels_view}
use Rattle.rv_asm.specs.Assembly.{IsAssemblyAnswer, labels_from, no_labels}
use Rattle.rv_asm.proofs.Passes.{whole, map_twice}
use Rattle.rv_asm.proofs.assembly.assemble.Goals as goal

pub returns : goal.returns
returns c =
    let es = equates_view c.in_ok-equates.equates in
    let ss = map statement_view c.deref-3.result.now in
    let each : map statement_view c.in_ok-statements.statements.items ≡ map (λ line. statement_of line.now) c.in_ok-lines.lines.items =
    c.in_ok-statements.ensures ∙ ap (map (λ line. statement_of line.now)) c.deref.ensures.value in
    let listed : ss ≡ map statement_of (lines c.args.text.now) =
    ap (map statement_view) c.deref-3.ensures.value
    ∙ each
    ∙ map_twice (λ line. line.now) statement_of c.in_ok-lines.lines.items
    ∙ ap (map statement_of) c.in_ok-lines.ensures
    ∙ ap (λ t. map statement_of (lines t)) c.as_bytes.ensures.value in
    let labelled : labels_view c.in_ok-labels.labels ≡ labels_from es no_labels 1 c.args.base ss =
    c.in_ok-labels.ensures ∙ ap (λ xs. labels_from es no_labels 1 c.args.base (map statement_view xs)) (c.deref-2.ensures.value ∙ sym c.deref-3.ensures.value) in
    record {
      exact = subst (IsAssemblyAnswer c.emitted.result) (whole c.args.text.now c.args.base c.args.names.now es (labels_view c.in_ok-labels.labels) ss c.in_ok-equates.ensures listed labelled) c.emitted.ensures;
    }
