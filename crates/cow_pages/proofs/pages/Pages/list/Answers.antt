use Rattle.std.proofs.Common.{◌∙◌, ap, arith, length}
use Rattle.wedge_base.specs.Pages.{pages_before, pages_of}
use Rattle.cow_pages.specs.SharedPages.{bytes_in}
use Rattle.cow_pages.proofs.PageLists.{all_listed}
use Rattle.cow_pages.proofs.pages.Pages.list.Goals as goal

pub returns-clause-is : goal.returns-clause-is
returns-clause-is c =
    c.new.ensures ∙ c.in_ok-list_of.ensures.is
    ∙ ap (λ ps. pages_before (bytes_in ps) (length ps)) c.as_slice.ensures.value
    ∙ all_listed c.self.inside.pages.items c.self.invariant.0
    ∙ ap pages_of c.self.view_is

pub returns-clause-few : goal.returns-clause-few
returns-clause-few c =
    let size = ap length c.new.ensures ∙ c.in_ok-list_of.ensures.len ∙ ap length c.as_slice.ensures.value in
    omega (arith, size, c.self.invariant.1)
