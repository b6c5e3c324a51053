use Rattle.std.proofs.Common.{◌∙◌, ap, arith, length}
use Rattle.std.specs.Arc.{arc_value}
use Rattle.std.specs.List.{concat}
use Rattle.std.proofs.lemmas.List.{length-map}
use Rattle.cow_pages.proofs.SharedPages.{cloned}
use Rattle.cow_pages.proofs.pages.Pages.snapshot.Goals as goal

pub invariant_of-result : goal.invariant_of-result
invariant_of-result c =
    let same = cloned c.self.inside.pages.items c.in_ok-clone.field-0.items c.in_ok-clone.ensures.cases.0 in
    let count = ap length same in
    let old = length-map c.self.inside.pages.items (arc_value {Z = _}) in
    let new = length-map c.in_ok-clone.field-0.items arc_value in
    (rw same c.self.invariant.0, omega (arith, c.self.invariant.1))

pub returns : goal.returns
returns c = ap concat (cloned c.self.inside.pages.items c.in_ok-clone.field-0.items c.in_ok-clone.ensures.cases.0) ∙ c.self.view_is
