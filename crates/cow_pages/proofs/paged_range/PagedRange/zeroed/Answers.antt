use Rattle.std.proofs.Common.{◌≡◌, ◌-◌, ◌*◌, ◌∙◌, ap, arith, length, ℕ, List, []}
use Rattle.std.proofs.lemmas.List.{take_all}
use Rattle.wedge_base.specs.Bytes.{zeros}
use Rattle.wedge_base.specs.Images.{page}
use Rattle.cow_pages.proofs.PaddedContent.{length-zero_padded, length-zeros}
use Rattle.cow_pages.proofs.paged_range.PagedRange.zeroed.Goals as goal

pub invariant_of-result : goal.invariant_of-result
invariant_of-result c =
    let size = ap length c.in_ok-pages.ensures.is ∙ length-zero_padded [] (c.args.count * page) (omega arith) in
    (c.requires.base, omega arith)

pub returns : goal.returns
returns c =
    let none : c.args.count * page - 0 ≡ c.args.count * page = omega arith in
    let is : c.in_ok-pages.pages ≡ zeros (c.args.count * page) = c.in_ok-pages.ensures.is ∙ ap zeros none in
    ap (λ (b : List ℕ). record { base = c.args.base; bytes = b }) (take_all (c.args.count * page) c.in_ok-pages.pages (omega (arith, ap length is, length-zeros (c.args.count * page))) ∙ is)
